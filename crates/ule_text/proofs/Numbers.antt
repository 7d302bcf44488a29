-- A written number is one word, and is read as that number.
use Rattle.std.proofs.Common.{◌≡◌, ℕ, ◌^◌, ◌*◌, ◌+◌, ◌-◌, ◌<◌, ◌≤◌, Bool, true, false, List, [], ◌∷◌, length, get_or, fold, refl, arith, ap, ◌∙◌, ⊎_elim}
use Rattle.std.specs.Prelude.{◌==◌, ◌&&◌, not, nat_lt}
use Rattle.std.specs.List.{list_all}
use Rattle.std.specs.Fmt.{decimal}
use Rattle.std.specs.Char.{digit_value}
use Rattle.std.specs.Str.Parse.{AllDigits, digits_value, digits_value_after}
use Rattle.std.proofs.lemmas.Grind.{common_steps}
use Rattle.std.proofs.lemmas.Bool.{and_from, le-leb, lt-ltb, ne_eqb, cases_eq}
use Rattle.std.proofs.lemmas.Fmt.{digits_decimal, digits_value-decimal, decimal_nonempty, first_decimal, decimal_digit}
use Rattle.std.proofs.lemmas.Str.Parse.{numerals_by_value, tells_digits, digit_at, IsNumeralModel}
use Rattle.ule_text.specs.Numerals.{is_digit, is_numeral, value_of_digits}
use Rattle.ule_text.proofs.Printed.{is_inner, is_word, lacks, all_lack}

own : IsNumeralModel (AllDigits 10) (digits_value 10)
own = numerals_by_value (AllDigits 10) tells_digits

-- ---- digits

-- the value of a digit
digit_is : (b : ℕ) → 48 ≤ b → b ≤ 57 → digit_value b ≡ b - 48
digit_is b low high = grind (arith, common_steps)

-- the first of some digits
first_digit : (b : ℕ) (w : List ℕ) → AllDigits 10 (b ∷ w) → (48 ≤ b) × (b ≤ 57)
first_digit b w all = let d = digit_at (b ∷ w) 0 all (omega arith) in (omega (arith, d), omega (arith, d))

-- digits are digits
each_digit : (w : List ℕ) → AllDigits 10 w → list_all is_digit w ≡ true
each_digit [] all = refl
each_digit (b ∷ w) all = let d = first_digit b w all in rw (le-leb 48 b d.0, le-leb b 57 d.1) (each_digit w all.1)

-- and printed
each_inner : (w : List ℕ) → AllDigits 10 w → list_all is_inner w ≡ true
each_inner [] all = refl
each_inner (b ∷ w) all = let d = first_digit b w all in rw (le-leb 33 b (omega (arith, d)), le-leb b 126 (omega (arith, d))) (each_inner w all.1)

-- the value of digits behind others
value_behind : (w : List ℕ) (n : ℕ) → AllDigits 10 w → fold (λ n b. n * 10 + (b - 48)) n w ≡ digits_value_after 10 n w
value_behind [] n all = refl
value_behind (b ∷ w) n all = let d = first_digit b w all in rw (digit_is b d.0 d.1) (value_behind w (n * 10 + (b - 48)) all.1)

-- only 0 begins with the digit 0
leading_zero : (n : ℕ) → n < 2 ^ 64 → get_or (decimal n) 0 0 ≡ 48 → length (decimal n) ≡ 1
leading_zero n small e =
    ⊎_elim (λ zero_is. rw zero_is (ap length (decimal_digit 0 (omega arith))))
    (λ other. absurd (omega (arith, first_decimal n (omega (arith, other)) small, e))) (cases_eq n 0)

-- a test of which the second part fails
and_false : (b : Bool) → not (b && false) ≡ true
and_false true = refl
and_false false = refl

-- a word that begins with 0 only where it has one digit
no_leading : (w : List ℕ) → (get_or w 0 0 ≡ 48 → length w ≡ 1) → not ((get_or w 0 0 == 48) && nat_lt 1 (length w)) ≡ true
no_leading w h = ⊎_elim (λ zero. rw (h zero) (and_false (get_or w 0 0 == 48))) (λ other. rw (ne_eqb (get_or w 0 0) 48 other) refl) (cases_eq (get_or w 0 0) 48)

-- ---- a written number

-- its digits
all_digits : (n : ℕ) → n < 2 ^ 64 → AllDigits 10 (decimal n)
all_digits n small = digits_decimal own n small

-- it is a number
pub decimal_is_numeral : (n : ℕ) → n < 2 ^ 64 → is_numeral (decimal n) ≡ true
decimal_is_numeral n small =
    rw (lt-ltb 0 (length (decimal n)) (decimal_nonempty n small), each_digit (decimal n) (all_digits n small), no_leading (decimal n) (leading_zero n small)) refl

-- and this one
pub value_of_decimal : (n : ℕ) → n < 2 ^ 64 → value_of_digits (decimal n) ≡ n
value_of_decimal n small = value_behind (decimal n) 0 (all_digits n small) ∙ digits_value-decimal own n small

-- its bytes are printed
pub decimal_inner : (n : ℕ) → n < 2 ^ 64 → list_all is_inner (decimal n) ≡ true
decimal_inner n small = each_inner (decimal n) (all_digits n small)

-- it is a word of a written line
pub decimal_is_word : (n : ℕ) → n < 2 ^ 64 → is_word (decimal n) ≡ true
decimal_is_word n small =
    and_from (nat_lt 0 (length (decimal n))) (list_all is_inner (decimal n)) (lt-ltb 0 (length (decimal n)) (decimal_nonempty n small)) (decimal_inner n small)

-- its first byte is a digit
pub first_of_decimal : (n : ℕ) → n < 2 ^ 64 → (48 ≤ get_or (decimal n) 0 0) × (get_or (decimal n) 0 0 ≤ 57)
first_of_decimal n small = let d = digit_at (decimal n) 0 (all_digits n small) (decimal_nonempty n small) in (omega (arith, d), omega (arith, d))

-- a byte that is no digit isn't in it
pub decimal_lacks : (c n : ℕ) → is_digit c ≡ false → n < 2 ^ 64 → lacks c (decimal n) ≡ true
decimal_lacks c n other small = all_lack is_digit c (decimal n) other (each_digit (decimal n) (all_digits n small))
