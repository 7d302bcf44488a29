-- Where a scenario ends in a text that goes on behind it.
use Rattle.std.specs.Prelude.{ℕ, ◌≡◌, ◌+◌, ◌==◌, Bool, true, false, if◌then◌else◌, List, [], ◌∷◌, ◌++◌, fold, take, Result, Ok, Err}
use Rattle.ule_types.specs.declared.fault.ScenarioFault.{ScenarioFault}
use Rattle.ule_types.specs.declared.setup.Setup.{Setup}
use Rattle.ule_scenario.specs.Tokens.{tokens_of}
use Rattle.ule_scenario.specs.Forms.{name}
use Rattle.ule_scenario.specs.Reading.{Reading}
use Rattle.ule_scenario.specs.Scenario.{IsFaultFor, IsSetupOf, read_bytes}
use Rattle.ule_scenario.specs.declared.name.Name.{Name}
use Rattle.ule_scenario.specs.declared.name.Name.TheVariants.{End}

-- whether a word is `end`
abbrev pub is_end_word : Name → Bool
is_end_word End = true
is_end_word n = false

-- whether the first word of a line is `end`, whatever else the line has
abbrev pub is_end_line : List ℕ → Bool
is_end_line bytes = is_end_word (name (tokens_of bytes) 0)

-- a text up to a byte: how many bytes the scenario has so far, the bytes since the last newline, and whether a line `end` came
pub record FrontSoFar : Type 0 where
  pub count : ℕ
  pub line : List ℕ
  pub ended : Bool

-- before the first byte
abbrev pub no_front : FrontSoFar
no_front = record { count = 0; line = []; ended = false }

-- one more byte of a scenario that hasn't ended: the newline of a line `end` ends it
abbrev pub front_byte : FrontSoFar → ℕ → FrontSoFar
front_byte s b =
    if b == 10 then record { count = s.count + 1; line = []; ended = is_end_line s.line }
    else record { count = s.count + 1; line = s.line ++ b ∷ []; ended = false }

-- one more byte of a text
abbrev pub after_front : FrontSoFar → ℕ → FrontSoFar
after_front s b = if s.ended then s else front_byte s b

-- how many bytes of a text are the scenario's: those up to and with its first line `end`, or all
abbrev pub front_length : List ℕ → ℕ
front_length bytes = (fold after_front no_front bytes).count

-- the answer of a reader of a front: what is told of the scenario's bytes, and how many they are
abbrev pub IsFrontReadAs : Result (Setup × ℕ) ScenarioFault → List ℕ → Type 0
IsFrontReadAs (Ok p) bytes =
    (r : Reading) × (read_bytes (take (front_length bytes) bytes) ≡ Ok r) × IsSetupOf r p.0 × (p.1 ≡ front_length bytes)
IsFrontReadAs (Err e) bytes = IsFaultFor e (read_bytes (take (front_length bytes) bytes))
