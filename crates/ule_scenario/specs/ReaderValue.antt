-- A reader as contracts see it.
use Rattle.std.specs.Prelude.{ℕ, Bool}
use Rattle.ule_scenario.specs.declared.text.Text.{Text}

-- how many bytes there are so far, what is kept of them, and whether memory ran out for one of them
pub record ReaderValue : Type 0 where
  pub count : ℕ
  pub text : Text
  pub broken : Bool
