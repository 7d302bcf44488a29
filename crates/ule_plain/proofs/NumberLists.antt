-- Written numbers of at most 15, as those of CPUs and of workers, are read as these numbers.
use Rattle.std.proofs.Common.{◌≡◌, ℕ, ◌+◌, ◌≤◌, true, List, [], ◌∷◌, length, map, refl, ap, ◌∙◌, arith, Option, Some, None}
use Rattle.std.specs.Prelude.{Bool, nat_le, ◌&&◌}
use Rattle.std.specs.List.{list_all}
use Rattle.std.specs.Fmt.{decimal}
use Rattle.std.proofs.lemmas.Bool.{and_from, and_parts, le-leb, leb-true}
use Rattle.ule_scenario.specs.Forms.{num, nums, number_fault, first_fault, cpu_faults}
use Rattle.ule_scenario.specs.Tokens.{token_of}
use Rattle.ule_scenario.specs.declared.token.Token.{Token}
use Rattle.ule_plain.proofs.Masks.{do_rise}
use Rattle.ule_plain.proofs.NumbersBack.{IsNumber, token_back, small_is_word}
use Rattle.ule_text.proofs.Printed.{is_word}

-- the words of written numbers
abbrev pub written : List ℕ → List Token
written ns = map token_of (map decimal ns)

-- whether all are at most 15
abbrev pub are_small : List ℕ → Bool
are_small ns = list_all (λ n. nat_le n 15) ns

-- a number in its range
in_range : (t : Token) (n low : ℕ) → IsNumber t n → low ≤ n → n ≤ 15 → number_fault low 15 t ≡ None
in_range t n low is from to = rw (is.minus, is.number, le-leb low n from, le-leb n 15 to) refl

-- its value
value_of : (t : Token) (n : ℕ) → IsNumber t n → num (t ∷ []) 0 ≡ n
value_of t n is = rw (is.minus, is.number) refl

-- a reason behind one that isn't there
none_first : (x : Option ℕ) (xs : List (Option ℕ)) → x ≡ None → first_fault (x ∷ xs) ≡ first_fault xs
none_first None xs e = refl
none_first (Some n) xs e = cc

-- their values
pub nums_back : (ns : List ℕ) → are_small ns ≡ true → nums (written ns) ≡ ns
nums_back [] small = refl
nums_back (n ∷ ns) small =
    let parts = and_parts (nat_le n 15) (are_small ns) small in
    let few = leb-true n 15 parts.0 in
    ap (λ m. m ∷ nums (written ns)) (value_of (token_of (decimal n)) n (token_back n (omega arith))) ∙ ap (λ ms. n ∷ ms) (nums_back ns parts.1)

-- nothing is against them
pub no_fault : (ns : List ℕ) → are_small ns ≡ true → first_fault (map (number_fault 0 15) (written ns)) ≡ None
no_fault [] small = refl
no_fault (n ∷ ns) small =
    let parts = and_parts (nat_le n 15) (are_small ns) small in
    let few = leb-true n 15 parts.0 in
    none_first (number_fault 0 15 (token_of (decimal n))) (map (number_fault 0 15) (written ns)) (in_range (token_of (decimal n)) n 0 (token_back n (omega arith)) (omega arith) few) ∙ no_fault ns parts.1

-- nor against those that rise
pub no_falling : (from : ℕ) (ns : List ℕ) → do_rise from ns ≡ true → first_fault (cpu_faults from (written ns)) ≡ None
no_falling from [] rise = refl
no_falling from (n ∷ ns) rise =
    let parts = and_parts (nat_le from n && nat_le n 15) (do_rise (n + 1) ns) rise in
    let range = and_parts (nat_le from n) (nat_le n 15) parts.0 in
    let few = leb-true n 15 range.1 in
    let t = token_of (decimal n) in
    none_first (number_fault from 15 t) (cpu_faults (num (t ∷ []) 0 + 1) (written ns)) (in_range t n from (token_back n (omega arith)) (leb-true from n range.0) few)
    ∙ ap (λ (m : ℕ). first_fault (cpu_faults (m + 1) (written ns))) (value_of t n (token_back n (omega arith))) ∙ no_falling (n + 1) ns parts.1

-- those that rise are at most 15
pub rising_small : (from : ℕ) (ns : List ℕ) → do_rise from ns ≡ true → are_small ns ≡ true
rising_small from [] rise = refl
rising_small from (n ∷ ns) rise =
    let parts = and_parts (nat_le from n && nat_le n 15) (do_rise (n + 1) ns) rise in
    and_from (nat_le n 15) (are_small ns) (and_parts (nat_le from n) (nat_le n 15) parts.0).1 (rising_small (n + 1) ns parts.1)

-- they are words of a written line
pub written_are_words : (ns : List ℕ) → are_small ns ≡ true → list_all is_word (map decimal ns) ≡ true
written_are_words [] small = refl
written_are_words (n ∷ ns) small =
    let parts = and_parts (nat_le n 15) (are_small ns) small in
    let few = leb-true n 15 parts.0 in
    and_from (is_word (decimal n)) (list_all is_word (map decimal ns)) (small_is_word n (omega arith)) (written_are_words ns parts.1)

-- as many words as numbers
pub length_written : (ns : List ℕ) → length (written ns) ≡ length ns
length_written [] = refl
length_written (n ∷ ns) = omega (arith, length_written ns)
