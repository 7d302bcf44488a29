-- What the bytes of a scenario spell: a setup, or the first refusal.
use Rattle.std.specs.Prelude.{ℕ, ◌≡◌, ◌+◌, Bool, ◌||◌, ◌==◌, nat_lt, if◌then◌else◌, Option, Some, None, List, [], ◌∷◌, ◌++◌, length, fold, Result, Ok, Err}
use Rattle.std.specs.List.{list_any}
use Rattle.ule_text.specs.Words.{is_unprinted}
use Rattle.ule_types.specs.declared.setup.Setup.{Setup}
use Rattle.ule_types.specs.declared.fault.ScenarioFault.{ScenarioFault}
use Rattle.ule_types.specs.declared.fault.ScenarioFault.TheVariants.{Refused, Memory}
use Rattle.ule_types.specs.Rules.{KeepsRules}
use Rattle.ule_scenario.specs.Tokens.{tokens_of}
use Rattle.ule_scenario.specs.Forms.{Line, word, name}
use Rattle.ule_scenario.specs.Reading.{Reading, no_line}
use Rattle.ule_scenario.specs.Reasons.{reason_of}
use Rattle.ule_scenario.specs.Effects.{with_line}
use Rattle.ule_scenario.specs.declared.reason.Reason.{Reason}
use Rattle.ule_scenario.specs.declared.reason.Refusal.{Refusal}

-- ---- a line

-- whether a line is blank or a comment
abbrev pub means_nothing : Line → Bool
means_nothing line = (length line == 0) || (word line 0).comment

-- a refusal at a line, with no detail
abbrev pub refused : ℕ → ℕ → Result Reading Refusal
refused line reason = Err (record { line = line; reason = reason; detail = 0 })

-- a line by the first reason against it
abbrev pub judged : ℕ → Reading → Line → Option Reason → Result Reading Refusal
judged n r line None = Ok (with_line r line (name line 0))
judged n r line (Some x) = Err (record { line = n; reason = x.reason; detail = x.detail })

-- line n by its words
abbrev pub after_words : ℕ → Reading → Line → Result Reading Refusal
after_words n r line = if means_nothing line then Ok r else judged n r line (reason_of r line)

-- line n by its bytes: a byte that isn't printed is told before all else, 17
abbrev pub after_bytes : ℕ → Reading → List ℕ → Result Reading Refusal
after_bytes n r bytes = if list_any is_unprinted bytes then refused n 17 else after_words n r (tokens_of bytes)

-- line n after the lines before it; after a refusal nothing else is told
abbrev pub next_line : ℕ → Result Reading Refusal → List ℕ → Result Reading Refusal
next_line n (Ok r) bytes = after_bytes n r bytes
next_line n (Err x) bytes = Err x

-- the lines so far: how many they are, and what they give, or the first refusal
pub record LinesRead : Type 0 where
  pub lines : ℕ
  pub reading : Result Reading Refusal

-- before the first line
abbrev pub no_lines : LinesRead
no_lines = record { lines = 0; reading = Ok no_line }

-- the lines so far with one more
abbrev pub after_line : LinesRead → List ℕ → LinesRead
after_line t bytes = record { lines = t.lines + 1; reading = next_line (t.lines + 1) t.reading bytes }

-- ---- a text

-- a text so far: what its lines tell, and the bytes since the last newline
pub record TextRead : Type 0 where
  pub told : LinesRead
  pub line : List ℕ

-- before the first byte
abbrev pub no_text : TextRead
no_text = record { told = no_lines; line = [] }

-- one more byte: a newline (10) ends a line
abbrev pub after_byte : TextRead → ℕ → TextRead
after_byte s b = if b == 10 then record { told = after_line s.told s.line; line = [] } else record { told = s.told; line = s.line ++ b ∷ [] }

-- what a text tells: a last line without a newline counts if it has a byte
abbrev pub at_end : TextRead → LinesRead
at_end s = if nat_lt 0 (length s.line) then after_line s.told s.line else s.told

-- the answer at the end: a text without a line that means something has no header, 1, and one without `end` is cut short, 18
abbrev pub answer_of : ℕ → Result Reading Refusal → Result Reading Refusal
answer_of n (Err x) = Err x
answer_of n (Ok r) = if r.place == 0 then refused (n + 1) 1 else (if r.place == 9 then Ok r else refused (n + 1) 18)

-- the answer of the lines of a text
abbrev pub answer : LinesRead → Result Reading Refusal
answer t = answer_of t.lines t.reading

-- what the bytes of a scenario spell, or the first refusal: a text of more than 1,048,576 bytes is told before all else, 5
abbrev pub read_bytes : List ℕ → Result Reading Refusal
read_bytes bytes = if nat_lt 1048576 (length bytes) then refused 0 5 else answer (at_end (fold after_byte no_text bytes))

-- ---- a setup

-- a reading keeps the rules of a setup
abbrev pub KeepsAll : Reading → Type 0
KeepsAll r = KeepsRules r.settings r.jitter r.cpus r.groups r.threads r.unborn r.scripts r.turns

-- a reading gives these fields of a setup
pub record IsSetupOf (r : Reading) (s : Setup) : Type 0 where
  pub settings : s.settings ≡ r.settings
  pub jitter : s.jitter ≡ r.jitter
  pub cpus : s.cpus ≡ r.cpus
  pub groups : s.groups ≡ r.groups
  pub threads : s.threads ≡ r.threads
  pub unborn : s.unborn ≡ r.unborn
  pub scripts : s.scripts ≡ r.scripts
  pub turns : s.turns ≡ r.turns

-- the bytes spell a setup
pub record Spells (bytes : List ℕ) (s : Setup) : Type 0 where
  pub reading : Reading
  pub read : read_bytes bytes ≡ Ok reading
  pub gives : IsSetupOf reading s

-- why there is no setup: the first refusal; want of memory is free
abbrev pub IsFaultFor : ScenarioFault → Result Reading Refusal → Type 0
IsFaultFor (Refused line reason detail) told = told ≡ Err (record { line = line; reason = reason; detail = detail })
IsFaultFor Memory told = Unit {0}

-- the answer of a reader is what is told of the bytes
abbrev pub IsReadAs : Result Setup ScenarioFault → Result Reading Refusal → Type 0
IsReadAs (Ok s) told = (r : Reading) × (told ≡ Ok r) × IsSetupOf r s
IsReadAs (Err e) told = IsFaultFor e told
