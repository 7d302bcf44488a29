-- Turns as contracts see what is kept of them.
use Rattle.std.specs.Prelude.{ℕ, Bool, Option, List}

-- whether there is a turn, the first reason against the turns, the greatest, and the first of them
pub record TurnsValue : Type 0 where
  pub any : Bool
  pub fault : Option ℕ
  pub most : ℕ
  pub first : List ℕ
