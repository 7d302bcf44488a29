-- What is kept of the bytes of a word.
use Rattle.std.specs.Prelude.{ℕ, Bool, List, length, take, nat_lt}
use Rattle.ule_text.specs.Words.{Word}

-- some first bytes of a word, and whether it has more
pub record WordFront : Type 0 where
  pub first : List ℕ
  pub longer : Bool

-- the first 16 bytes of a word, and whether it has more
abbrev pub front_of : Word → WordFront
front_of word = record { first = take 16 word; longer = nat_lt 16 (length word) }
