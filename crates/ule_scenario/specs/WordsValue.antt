-- The first words of a line as contracts see what is kept of them.
use Rattle.std.specs.Prelude.{ℕ, List}
use Rattle.ule_scenario.specs.declared.token.Token.{Token}

-- some first words of a line, and a count
pub record WordsValue : Type 0 where
  pub words : List Token
  pub count : ℕ
