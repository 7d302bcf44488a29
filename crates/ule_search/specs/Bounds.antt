-- How great keys are.
use Rattle.std.specs.Prelude.{ℕ, ◌<◌, ◌^◌, ℤ, pos, negsuc, ◌≤ℤ◌, List, length}
use Rattle.ule_search.specs.Search.{key_at}

-- whether each key is that of some load of 32 bits
abbrev pub AreKeys : List ℤ → Type 0
AreKeys keys = (c : ℕ) → c < length keys → (negsuc 126 ≤ℤ key_at keys c) × (key_at keys c ≤ℤ pos (2 ^ 40))
