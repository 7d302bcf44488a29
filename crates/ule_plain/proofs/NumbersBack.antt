-- A written number is read as that number.
use Rattle.std.proofs.Common.{◌≡◌, ℕ, zero, suc, ◌^◌, ◌<◌, ◌≤◌, ℤ, pos, negsuc, Bool, true, false, ◌∷◌, length, get_or, refl, arith, Some, None}
use Rattle.std.specs.Prelude.{◌==◌, ◌&&◌, nat_lt, min, unwrap_or}
use Rattle.std.specs.List.{list_all}
use Rattle.std.specs.Fmt.{decimal, signed_decimal}
use Rattle.std.proofs.lemmas.Bool.{and_from, le-leb, leb-true, lt-ltb, ltb-true, ne_eqb}
use Rattle.ule_text.specs.Numerals.{value_of_digits, number_of}
use Rattle.ule_text.proofs.Numbers.{decimal_inner, decimal_is_numeral, decimal_is_word, first_of_decimal, value_of_decimal}
use Rattle.ule_text.proofs.Printed.{is_inner, is_word}
use Rattle.ule_types.specs.Commands.{is_nice}
use Rattle.ule_scenario.specs.Forms.{signed, nice_fault}
use Rattle.ule_scenario.specs.Tokens.{token_of}
use Rattle.ule_scenario.specs.declared.token.Token.{Token}

-- ---- a number without a sign

-- the number that its digits spell
number_back : (n : ℕ) → n < 2 ^ 32 → number_of (decimal n) ≡ Some n
number_back n small =
    let wide : n < 2 ^ 64 = omega (arith, small) in
    let cap : min n 4294967296 ≡ n = omega (arith, small) in
    rw (decimal_is_numeral n wide, value_of_decimal n wide, cap) refl

-- it is a word of a written line
pub small_is_word : (n : ℕ) → n < 2 ^ 32 → is_word (decimal n) ≡ true
small_is_word n small = decimal_is_word n (omega (arith, small))

-- its first byte is a digit
pub first_byte : (n : ℕ) → n < 2 ^ 32 → (48 ≤ get_or (decimal n) 0 0) × (get_or (decimal n) 0 0 ≤ 57)
first_byte n small = first_of_decimal n (omega (arith, small))

-- no digit is a minus
unsigned_byte : (n : ℕ) → n < 2 ^ 32 → (get_or (decimal n) 0 0 == 45) ≡ false
unsigned_byte n small = let d = first_byte n small in ne_eqb (get_or (decimal n) 0 0) 45 (λ e. omega (arith, d, e))

-- a word is this number, without a minus
pub record IsNumber (t : Token) (n : ℕ) : Type 0 where
  pub minus : t.minus ≡ false
  pub number : t.number ≡ Some n

-- what is read of a written number
pub token_back : (n : ℕ) → n < 2 ^ 32 → IsNumber (token_of (decimal n)) n
unfolding token_of
token_back n small = record { minus = unsigned_byte n small; number = rw (unsigned_byte n small) (number_back n small) }

-- ---- a nice value

-- a word is this nice value
pub record IsNice (t : Token) (z : ℤ) : Type 0 where
  pub fault : nice_fault t ≡ None
  pub value : signed t.minus (unwrap_or t.number 0) ≡ z

-- a number of at most 20 with a minus before it or without, which isn't -0
nice_passes : (t : Token) (n : ℕ) → t.number ≡ Some n → n ≤ 20 → (t.minus && (n == 0)) ≡ false → nice_fault t ≡ None
nice_passes t n is small some = rw (is, some, le-leb n 20 small) refl

-- the value of a number without a minus
signed_plain : (n : ℕ) → signed false n ≡ pos n
signed_plain zero = refl
signed_plain (suc n) = refl

-- the value of a word with such a number
value_plain : (t : Token) (n : ℕ) → t.minus ≡ false → t.number ≡ Some n → signed t.minus (unwrap_or t.number 0) ≡ pos n
value_plain t n minus number = rw (minus, number) (signed_plain n)

-- the same with a minus before it
value_negative : (t : Token) (n : ℕ) → t.minus ≡ true → t.number ≡ Some (suc n) → signed t.minus (unwrap_or t.number 0) ≡ negsuc n
value_negative t n minus number = rw (minus, number) refl

-- what is read of a written nice value
pub nice_back : (z : ℤ) → is_nice z ≡ true → IsNice (token_of (signed_decimal z)) z
unfolding token_of
nice_back (pos n) small =
    let few = leb-true n 20 small in
    let t = token_back n (omega arith) in
    record {
      fault = nice_passes (token_of (decimal n)) n t.number few (rw t.minus refl);
      value = value_plain (token_of (decimal n)) n t.minus t.number;
    }
nice_back (negsuc n) small =
    let few = ltb-true n 20 small in
    let number = number_back (suc n) (omega arith) in
    record {
      fault = nice_passes (token_of (45 ∷ decimal (suc n))) (suc n) number (omega arith) (ne_eqb (suc n) 0 (λ e. omega (arith, e)));
      value = value_negative (token_of (45 ∷ decimal (suc n))) n refl number;
    }

-- it is a word of a written line
pub nice_is_word : (z : ℤ) → is_nice z ≡ true → is_word (signed_decimal z) ≡ true
nice_is_word (pos n) small = let few = leb-true n 20 small in decimal_is_word n (omega (arith, few))
nice_is_word (negsuc n) small = let few = ltb-true n 20 small in
    and_from (nat_lt 0 (suc (length (decimal (suc n))))) (list_all is_inner (decimal (suc n))) (lt-ltb 0 (suc (length (decimal (suc n)))) (omega arith)) (decimal_inner (suc n) (omega (arith, few)))
