-- What is kept of a text.
use Rattle.std.specs.Prelude.{ℕ, ◌≡◌, Option, Some, None, List, Result, Ok, Err}
use Rattle.std.specs.List.{list_any}
use Rattle.ule_text.specs.Words.{is_unprinted}
use Rattle.ule_scenario.specs.Tokens.{tokens_of}
use Rattle.ule_scenario.specs.Reading.{Reading}
use Rattle.ule_scenario.specs.Scenario.{LinesRead, TextRead}
use Rattle.ule_scenario.specs.WordsKept.{seen, line_kept}
use Rattle.ule_scenario.specs.declared.line.LineSoFar.{LineSoFar}
use Rattle.ule_scenario.specs.declared.reason.Refusal.{Refusal}
use Rattle.ule_scenario.specs.declared.text.Lines.{Lines}
use Rattle.ule_scenario.specs.declared.text.Text.{Text}

-- a reading, unless there is a refusal
abbrev pub reading_unless : Option Refusal → Reading → Result Reading Refusal
reading_unless None r = Ok r
reading_unless (Some x) r = Err x

-- what the fields show of the lines so far
abbrev pub lines_shown : Lines → LinesRead
lines_shown t = record { lines = t.count; reading = reading_unless t.refusal t.draft }

-- what is kept of a line whose last word has ended
pub record LineEnded (line : LineSoFar) (bytes : List ℕ) : Type 0 where
  pub bad : line.bad ≡ list_any is_unprinted bytes
  pub words : line.pieces.words ≡ seen (tokens_of bytes)

-- the fields show a text so far
pub record ShowsText (t : Text) (s : TextRead) : Type 0 where
  pub told : lines_shown t.lines ≡ s.told
  pub line : t.line ≡ line_kept s.line
