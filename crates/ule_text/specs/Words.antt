-- How the bytes of a line are cut into words.
use Rattle.std.specs.Prelude.{ℕ, Bool, nat_lt, ◌||◌, ◌==◌, if◌then◌else◌, List, [], ◌∷◌, ◌++◌, length, fold}

-- the bytes of a word
abbrev pub Word : Type 0
Word = List ℕ

-- the words of a line up to one of its bytes, and the bytes since the last space
pub record Cut : Type 0 where
  pub words : List Word
  pub word : Word

-- a line of no byte
abbrev pub no_cut : Cut
no_cut = record { words = []; word = [] }

-- the words with one more, if it has a byte
abbrev pub with_word : List Word → Word → List Word
with_word words [] = words
with_word words (b ∷ word) = words ++ (b ∷ word) ∷ []

-- a word ends
abbrev pub word_ended : Cut → Cut
word_ended c = record { words = with_word c.words c.word; word = [] }

-- one more byte: a space (32) ends a word
abbrev pub cut_at : Cut → ℕ → Cut
cut_at c b = if b == 32 then word_ended c else record { words = c.words; word = c.word ++ b ∷ [] }

-- the words so far of a line of which more bytes may come
abbrev pub cut : List ℕ → Cut
cut line = fold cut_at no_cut line

-- the words of a line: one or more spaces part two of them, and spaces at either end mean nothing
abbrev pub words_of : List ℕ → List Word
words_of line = (word_ended (cut line)).words

-- whether a byte is none of the printed ones, 32 to 126
abbrev pub is_unprinted : ℕ → Bool
is_unprinted b = nat_lt b 32 || nat_lt 126 b

-- whether there is no word
abbrev pub is_blank : Word → Bool
is_blank word = length word == 0
