-- Lines of words, and the words of numbers that may be absent and of truth values.
use Rattle.std.specs.Prelude.{ℕ, Bool, true, false, List, [], ◌∷◌, ◌++◌, Option, Some, None, codes}
use Rattle.std.specs.Fmt.{decimal}
use Rattle.std.specs.List.{flat_map}

-- words, each behind a space
abbrev pub spaced : List (List ℕ) → List ℕ
spaced words = flat_map (λ w. 32 ∷ w) words

-- words with one space between them
abbrev pub joined : List (List ℕ) → List ℕ
joined [] = []
joined (w ∷ words) = w ++ spaced words

-- a line of words, which ends with a newline
abbrev pub line_text : List (List ℕ) → List ℕ
line_text words = joined words ++ 10 ∷ []

-- lines, one after another
abbrev pub lines_text : List (List (List ℕ)) → List ℕ
lines_text lines = flat_map line_text lines

-- a number that may be absent
abbrev pub optional_word : Option ℕ → List ℕ
optional_word None = codes "-"
optional_word (Some n) = decimal n

-- a truth value
abbrev pub flag_word : Bool → List ℕ
flag_word true = codes "1"
flag_word false = codes "0"

-- a worker's number
abbrev pub worker_word : ℕ → List ℕ
worker_word w = codes "w" ++ decimal w
