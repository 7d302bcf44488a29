-- The first of some values that passes a test, looked for from the front on.
use Rattle.std.proofs.Common.{◌≡◌, ℕ, suc, ◌+◌, Bool, true, false, not, cond, List, [], ◌∷◌, length, Option, Some, None, nat_lt, refl, sym, ◌∙◌, ap, arith}
use Rattle.std.specs.List.{position, position_from, position_or_len}
use Rattle.std.specs.Option.{option_map}
use Rattle.std.proofs.lemmas.Bool.Decides.{nat_tests}

some_more : (n : ℕ) → nat_lt 0 (suc n) ≡ true
some_more n = grind (arith, nat_tests)

one_more : (m n : ℕ) → nat_lt (1 + m) (suc n) ≡ nat_lt m n
one_more m n = grind (arith, nat_tests)

-- the place from i on is the place in the list, i further
from_is_place : {X : Type 0} (p : X → Bool) (i : ℕ) (xs : List X) → position_from p i xs ≡ option_map (λ k. i + k) (position p xs)
from_is_place p i [] = refl
from_is_place {X = X} p i (x ∷ xs) = split (p x) (from_is_place p (i + 1) xs)
  where
    later : (b : Bool) (n : ℕ) → option_map (λ k. i + 1 + k) (cond b (Some n) None) ≡ option_map (λ k. i + k) (cond b (Some (1 + n)) None)
    later true n = let e : i + 1 + n ≡ i + (1 + n) = omega arith in ap Some e
    later false n = refl

    split : (b : Bool) → position_from p (i + 1) xs ≡ option_map (λ k. i + 1 + k) (position p xs) →
        cond b (Some i) (position_from p (i + 1) xs) ≡
        option_map (λ k. i + k) (cond (nat_lt (cond (not b) (1 + position_or_len p xs) 0) (suc (length xs))) (Some (cond (not b) (1 + position_or_len p xs) 0)) None)
    split true rest =
        (let e : i ≡ i + 0 = omega arith in ap Some e) ∙
        ap (λ (b : Bool). option_map (λ k. i + k) (cond b (Some 0) None)) (sym (some_more (length xs)))
    split false rest =
        rest ∙ later (nat_lt (position_or_len p xs) (length xs)) (position_or_len p xs) ∙
        ap (λ (b : Bool). option_map (λ k. i + k) (cond b (Some (1 + position_or_len p xs)) None)) (sym (one_more (position_or_len p xs) (length xs)))

-- the place in a list is the place from the front on
pub front_place : {X : Type 0} (p : X → Bool) (xs : List X) → position p xs ≡ position_from p 0 xs
front_place p xs = sym (from_is_place p 0 xs ∙ same (position p xs))
  where
    same : (o : Option ℕ) → option_map (λ k. 0 + k) o ≡ o
    same None = refl
    same (Some k) = let e : 0 + k ≡ k = omega arith in ap Some e
