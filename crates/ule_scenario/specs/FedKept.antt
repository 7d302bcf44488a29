-- What is kept of the bytes of a text.
use Rattle.std.specs.Prelude.{ℕ, ◌≡◌, ◌≤◌, min, List, length, fold}
use Rattle.ule_scenario.specs.Scenario.{no_text, after_byte}
use Rattle.ule_scenario.specs.TextKept.{ShowsText}
use Rattle.ule_scenario.specs.declared.text.Text.{Text}

-- this count and this text are kept of these bytes; of a text that is too long they are only counted
pub record HasFed (count : ℕ) (t : Text) (bytes : List ℕ) : Type 0 where
  pub counted : count ≡ min 1048577 (length bytes)
  pub text : length bytes ≤ 1048576 → ShowsText t (fold after_byte no_text bytes)
