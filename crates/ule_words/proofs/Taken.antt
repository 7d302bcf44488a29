-- The front of a list, and one more of it.
use Rattle.std.proofs.Common.{◌≡◌, ℕ, zero, suc, ◌+◌, ◌≤◌, List, [], ◌∷◌, ◌++◌, length, map, take, refl, ap, ◌∙◌, arith}
use Rattle.std.specs.Prelude.{Some, slice_get}
use Rattle.std.proofs.lemmas.Option.{none-some, same_Some}

module _ {A : Type 0} where
  take_next : (n : ℕ) (xs : List A) (x : A) → slice_get xs n ≡ Some x → take (suc n) xs ≡ take n xs ++ x ∷ []
  take_next n [] x e = absurd (none-some x e)
  take_next zero (y ∷ ys) x e = ap (λ z. z ∷ []) (same_Some y x e)
  take_next (suc n) (y ∷ ys) x e = ap (λ z. y ∷ z) (take_next n ys x e)

  -- the front with one more
  pub take_on : (n : ℕ) (xs : List A) (x : A) → slice_get xs n ≡ Some x → take (n + 1) xs ≡ take n xs ++ x ∷ []
  take_on n xs x e = ap (λ k. take k xs) (let z : n + 1 ≡ suc n = omega arith in z) ∙ take_next n xs x e

  -- the front that is the whole list
  pub take_whole : (n : ℕ) (xs : List A) → length xs ≤ n → take n xs ≡ xs
  take_whole zero [] e = refl
  take_whole zero (y ∷ ys) e = absurd (omega arith)
  take_whole (suc n) [] e = refl
  take_whole (suc n) (y ∷ ys) e = ap (λ z. y ∷ z) (take_whole n ys (omega arith))

-- the images of a list with one more
pub map_end : {A B : Type 0} (f : A → B) (xs : List A) (a : A) → map f (xs ++ a ∷ []) ≡ map f xs ++ f a ∷ []
map_end f [] a = refl
map_end f (x ∷ xs) a = ap (λ z. f x ∷ z) (map_end f xs a)
