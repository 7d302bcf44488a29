-- Lists that are read at a place.
use Rattle.std.proofs.Common.{◌≡◌, ℕ, zero, suc, ◌+◌, ◌<◌, List, [], ◌∷◌, length, map, drop, refl, sym, ap, arith, get_or}
use Rattle.std.specs.Prelude.{Option, Some, slice_get}
use Rattle.std.proofs.lemmas.Option.{none-some, same_Some}
use mathlib.Core.Option.{some, some-injective, some-ne-none}
use lib.ListN.{get_elem?}
use Rattle.ule_micro.proofs.Lists.{drop_get, something}

module _ {A : Type 0} where
  -- the two ways to read at a place agree
  pub at_get : (xs : List A) (n : ℕ) (x : A) → get_elem? xs n ≡ some x → slice_get xs n ≡ Some x
  at_get [] n x e = absurd (some-ne-none x (sym e))
  at_get (y ∷ ys) zero x e = ap Some (some-injective y x e)
  at_get (y ∷ ys) (suc n) x e = at_get ys n x e

  pub get_at : (xs : List A) (n : ℕ) (x : A) → slice_get xs n ≡ Some x → get_elem? xs n ≡ some x
  get_at [] n x e = absurd (none-some x e)
  get_at (y ∷ ys) zero x e = ap some (same_Some y x e)
  get_at (y ∷ ys) (suc n) x e = get_at ys n x e

  -- an item that is within is what is read there, with itself as the default
  pub or_get : (xs : List A) (n : ℕ) (x : A) → n < length xs → x ≡ get_or xs n x → slice_get xs n ≡ Some x
  or_get [] n x near e = absurd (omega arith)
  or_get (y ∷ ys) zero x near e = ap Some (sym e)
  or_get (y ∷ ys) (suc n) x near e = or_get ys n x (omega arith) e

  pub get_or_is : (xs : List A) (n : ℕ) (x d : A) → slice_get xs n ≡ Some x → get_or xs n d ≡ x
  get_or_is [] n x d e = absurd (none-some x e)
  get_or_is (y ∷ ys) zero x d e = same_Some y x e
  get_or_is (y ∷ ys) (suc n) x d e = get_or_is ys n x d e

  -- where something is left behind a place, the place is within
  pub near_of : (xs : List A) (n : ℕ) → 0 < length (drop n xs) → n < length xs
  near_of xs zero more = more
  near_of [] (suc n) more = absurd (let a : 0 < 0 = more in omega arith)
  near_of (y ∷ ys) (suc n) more = let a = near_of ys n more in omega arith

  -- what is left behind a place begins with what is there
  pub drop_there : (xs : List A) (n : ℕ) → 0 < length (drop n xs) → (x : A) × (drop n xs ≡ x ∷ drop (n + 1) xs)
  drop_there xs n more = let x = something xs n (near_of xs n more) in (x.0, drop_get xs n x.0 x.1)

  -- an item of a list of given values is given
  pub from_some : (xs : List A) (n : ℕ) (o : Option A) → slice_get (map (λ x. Some x) xs) n ≡ Some o → (x : A) × (slice_get xs n ≡ Some x) × (o ≡ Some x)
  from_some [] n o e = absurd (none-some o e)
  from_some (x ∷ xs) zero o e = (x, refl, sym (same_Some (Some x) o e))
  from_some (x ∷ xs) (suc n) o e = from_some xs n o e

  -- nothing is left behind the end
  pub drop_all : (xs : List A) (n : ℕ) → length xs ≡ n → drop n xs ≡ []
  drop_all [] zero e = refl
  drop_all [] (suc n) e = refl
  drop_all (x ∷ xs) zero e = absurd (omega arith)
  drop_all (x ∷ xs) (suc n) e = drop_all xs n (omega arith)

  pub nil_of : (xs : List A) → length xs ≡ 0 → xs ≡ []
  nil_of [] e = refl
  nil_of (x ∷ xs) e = absurd (omega arith)
