-- Which number a word spells, and what is kept of a word that may spell one.
use Rattle.std.specs.Prelude.{ℕ, ◌+◌, ◌-◌, ◌*◌, min, Bool, nat_lt, nat_le, not, ◌&&◌, ◌==◌, if◌then◌else◌, Option, Some, None, length, drop, fold, slice_index}
use Rattle.std.specs.List.{list_all}
use Rattle.ule_text.specs.Words.{Word}
use Rattle.ule_text.specs.declared.digits.Digits.{Digits}

-- whether a byte is a decimal digit
abbrev pub is_digit : ℕ → Bool
is_digit b = nat_le 48 b && nat_le b 57

-- whether a word is a number: 0, or digits without a leading zero
abbrev pub is_numeral : Word → Bool
is_numeral word = nat_lt 0 (length word) && list_all is_digit word && not ((slice_index word 0 == 48) && nat_lt 1 (length word))

-- the value of digits
abbrev pub value_of_digits : Word → ℕ
value_of_digits word = fold (λ n b. n * 10 + (b - 48)) 0 word

-- no text has a range that reaches 2^32, so what is greater counts as that
abbrev pub capped : ℕ → ℕ
capped n = min n 4294967296

-- the number that a word spells
abbrev pub number_of : Word → Option ℕ
number_of word = if is_numeral word then Some (capped (value_of_digits word)) else None

-- whether a word begins with a minus (45)
abbrev pub is_negative : Word → Bool
is_negative word = slice_index word 0 == 45

-- a word without its minus
abbrev pub unsigned : Word → Word
unsigned word = if is_negative word then drop 1 word else word

-- what the bytes of a word so far say of the number that it may spell
abbrev pub digits_of : Word → Digits
digits_of word = record {
  count = min 2 (length word);
  zero = slice_index word 0 == 48;
  all = list_all is_digit word;
  value = capped (value_of_digits word);
}
