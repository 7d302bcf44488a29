-- How a text is cut at its first newline.
use Rattle.std.specs.Prelude.{ℕ, ◌≡◌, Bool, false, ◌==◌, List, ◌∷◌, ◌++◌}
use Rattle.std.specs.List.{list_any}

-- whether a byte is a newline (10)
abbrev pub is_newline : ℕ → Bool
is_newline b = b == 10

-- a text is a line, its newline, and the bytes behind that
pub record IsCut (text line rest : List ℕ) : Type 0 where
  pub whole : text ≡ line ++ 10 ∷ rest
  pub plain : list_any is_newline line ≡ false
