-- Lists that are read at an index: what one write leaves.
use Rattle.std.proofs.Common.{◌≡◌, ◌≢◌, ◌⊎◌, ℕ, zero, suc, ◌+◌, ◌<◌, ◌≤◌, List, [], ◌∷◌, ◌++◌, map, length, set, take, drop, refl, sym, ap, ◌∙◌, inl, inr, ⊎_elim, arith, length-set}
use Rattle.std.specs.Prelude.{Option, Some, None, slice_get, slice_index_or}
use Rattle.std.proofs.lemmas.Option.{none-some, same_Some}
use mathlib.Core.Logic.{dite}
use native.Mathlib.Decide.{ℕ_discrete}

module _ {A : Type 0} where
  -- a place that was written has what was written
  pub get_here : (l : List A) (i : ℕ) (a : A) → i < length l → slice_get (set l i a) i ≡ Some a
  get_here [] i a h = absurd (omega arith)
  get_here (x ∷ xs) zero a h = refl
  get_here (x ∷ xs) (suc i) a h = get_here xs i a (omega arith)

  -- every other place is as before
  pub get_else : (l : List A) (i j : ℕ) (a : A) → j ≢ i → slice_get (set l i a) j ≡ slice_get l j
  get_else [] i j a n = refl
  get_else (x ∷ xs) zero zero a n = absurd (n refl)
  get_else (x ∷ xs) zero (suc j) a n = refl
  get_else (x ∷ xs) (suc i) zero a n = refl
  get_else (x ∷ xs) (suc i) (suc j) a n = get_else xs i j a (λ e. n (ap suc e))

  -- what stands at a place after a write was written there, or stood there at another place
  pub get_set : (l : List A) (i j : ℕ) (a b : A) → slice_get (set l i a) j ≡ Some b → ((j ≡ i) × (a ≡ b)) ⊎ ((j ≢ i) × (slice_get l j ≡ Some b))
  get_set [] i j a b e = absurd (none-some b e)
  get_set (x ∷ xs) zero zero a b e = inl (refl, same_Some a b e)
  get_set (x ∷ xs) zero (suc j) a b e = inr ((λ h. omega arith), e)
  get_set (x ∷ xs) (suc i) zero a b e = inr ((λ h. omega arith), e)
  get_set (x ∷ xs) (suc i) (suc j) a b e = ⊎_elim (λ t. inl (ap suc t.0, t.1)) (λ t. let n = t.0 in inr ((λ h. n (omega arith)), t.1)) (get_set xs i j a b e)

  -- writing what stands there changes nothing
  pub set_same : (l : List A) (i : ℕ) (a : A) → slice_get l i ≡ Some a → set l i a ≡ l
  set_same [] i a e = refl
  set_same (x ∷ xs) zero a e = ap (λ y. y ∷ xs) (sym (same_Some x a e))
  set_same (x ∷ xs) (suc i) a e = ap (λ ys. x ∷ ys) (set_same xs i a e)

  -- of two writes to a place the last one stays
  pub set_set : (l : List A) (i : ℕ) (a b : A) → set (set l i a) i b ≡ set l i b
  set_set [] i a b = refl
  set_set (x ∷ xs) zero a b = refl
  set_set (x ∷ xs) (suc i) a b = ap (λ ys. x ∷ ys) (set_set xs i a b)

  -- a place that has something is in the list
  pub there : (l : List A) (i : ℕ) (a : A) → slice_get l i ≡ Some a → i < length l
  there [] i a e = absurd (none-some a e)
  there (x ∷ xs) zero a e = omega arith
  there (x ∷ xs) (suc i) a e = let h = there xs i a e in omega arith

  -- a place in the list has something
  pub something : (l : List A) (i : ℕ) → i < length l → (a : A) × (slice_get l i ≡ Some a)
  something [] i h = absurd (omega arith)
  something (x ∷ xs) zero h = (x, refl)
  something (x ∷ xs) (suc i) h = something xs i (omega arith)

  -- a place has one thing
  pub one_there : (l : List A) (i : ℕ) (a b : A) → slice_get l i ≡ Some a → slice_get l i ≡ Some b → a ≡ b
  one_there l i a b e f = same_Some a b (sym e ∙ f)

  -- reading with a default, in the list
  pub index_get : (l : List A) (i : ℕ) (d a : A) → slice_get l i ≡ Some a → slice_index_or l i d ≡ a
  index_get [] i d a e = absurd (none-some a e)
  index_get (x ∷ xs) zero d a e = same_Some x a e
  index_get (x ∷ xs) (suc i) d a e = index_get xs i d a e

  -- reading with a default, past the list
  pub index_past : (l : List A) (i : ℕ) (d : A) → length l ≤ i → slice_index_or l i d ≡ d
  index_past [] i d h = refl
  index_past (x ∷ xs) zero d h = absurd (omega arith)
  index_past (x ∷ xs) (suc i) d h = index_past xs i d (omega arith)

  -- a place that was written reads as what was written
  pub index_here : (l : List A) (i : ℕ) (d a : A) → i < length l → slice_index_or (set l i a) i d ≡ a
  index_here [] i d a h = absurd (omega arith)
  index_here (x ∷ xs) zero d a h = refl
  index_here (x ∷ xs) (suc i) d a h = index_here xs i d a (omega arith)

  -- every other place reads as before
  pub index_else : (l : List A) (i j : ℕ) (d a : A) → j ≢ i → slice_index_or (set l i a) j d ≡ slice_index_or l j d
  index_else [] i j d a n = refl
  index_else (x ∷ xs) zero zero d a n = absurd (n refl)
  index_else (x ∷ xs) zero (suc j) d a n = refl
  index_else (x ∷ xs) (suc i) zero d a n = refl
  index_else (x ∷ xs) (suc i) (suc j) d a n = index_else xs i j d a (λ e. n (ap suc e))

  -- a default does not matter in the list
  pub any_default : (l : List A) (i : ℕ) (d e : A) → i < length l → slice_index_or l i d ≡ slice_index_or l i e
  any_default [] i d e h = absurd (omega arith)
  any_default (x ∷ xs) zero d e h = refl
  any_default (x ∷ xs) (suc i) d e h = any_default xs i d e (omega arith)

  drop_suc : (l : List A) (i : ℕ) (a : A) → slice_get l i ≡ Some a → drop i l ≡ a ∷ drop (suc i) l
  drop_suc [] i a e = absurd (none-some a e)
  drop_suc (x ∷ xs) zero a e = ap (λ y. y ∷ xs) (same_Some x a e)
  drop_suc (x ∷ xs) (suc i) a e = drop_suc xs i a e

  -- the rest of a list from a place on begins with what stands there
  pub drop_get : (l : List A) (i : ℕ) (a : A) → slice_get l i ≡ Some a → drop i l ≡ a ∷ drop (i + 1) l
  drop_get l i a e = let one : suc i ≡ i + 1 = omega arith in drop_suc l i a e ∙ ap (λ k. a ∷ drop k l) one

  -- behind the end nothing is left
  pub drop_none : (l : List A) (i : ℕ) → slice_get l i ≡ None → drop i l ≡ []
  drop_none [] zero e = refl
  drop_none [] (suc i) e = refl
  drop_none (x ∷ xs) zero e = absurd (none-some x (sym e))
  drop_none (x ∷ xs) (suc i) e = drop_none xs i e

  -- a place before a cut has what it had
  pub take_get : (l : List A) (i n : ℕ) (a : A) → i < n → slice_get l i ≡ Some a → slice_get (take n l) i ≡ Some a
  take_get [] i n a h e = absurd (none-some a e)
  take_get (x ∷ xs) i zero a h e = absurd (omega arith)
  take_get (x ∷ xs) zero (suc n) a h e = e
  take_get (x ∷ xs) (suc i) (suc n) a h e = take_get xs i n a (omega arith) e

  last_piece : (l : List A) (b : ℕ) (y : A) → b < length l → take b l ++ set (drop b l) 0 y ≡ set l b y
  last_piece [] b y h = absurd (omega arith)
  last_piece (x ∷ xs) zero y h = refl
  last_piece (x ∷ xs) (suc b) y h = ap (λ zs. x ∷ zs) (last_piece xs b y (omega arith))

  -- a write on each side of a cut is two writes
  pub pieces : (l : List A) (a b : ℕ) (x y : A) → a < b → b < length l → set (take b l) a x ++ set (drop b l) 0 y ≡ set (set l a x) b y
  pieces [] a b x y h k = absurd (omega arith)
  pieces (z ∷ zs) a zero x y h k = absurd (omega arith)
  pieces (z ∷ zs) zero (suc b) x y h k = ap (λ l. x ∷ l) (last_piece zs b y (omega arith))
  pieces (z ∷ zs) (suc a) (suc b) x y h k = ap (λ l. z ∷ l) (pieces zs a b x y (omega arith) (omega arith))

  take_all : (l m : List A) (n : ℕ) → n ≡ length l → take n (l ++ m) ≡ l
  take_all [] m zero e = refl
  take_all [] m (suc n) e = absurd (omega arith)
  take_all (x ∷ xs) m zero e = absurd (omega arith)
  take_all (x ∷ xs) m (suc n) e = ap (λ l. x ∷ l) (take_all xs m n (omega arith))

  -- a slice that was cut and written on each side, as a call gives it back
  pub cut_writes : (l low high rest : List A) (n a b : ℕ) (x y : A) → n ≡ length l → a < b → b < length l → low ≡ take b l → high ≡ drop b l
      → take n ((set low a x ++ set high 0 y) ++ rest) ≡ set (set l a x) b y
  cut_writes l low high rest n a b x y len h k is_low is_high =
      let p : set low a x ++ set high 0 y ≡ set (set l a x) b y = (λ i. set (is_low i) a x ++ set (is_high i) 0 y) ∙ pieces l a b x y h k in
      ap (λ z. take n (z ++ rest)) p ∙ take_all (set (set l a x) b y) rest n (len ∙ (sym (length-set l a x) ∙ sym (length-set (set l a x) b y)))

module _ {A B : Type 0} where
  -- a place of the images has the image
  pub get_map : (f : A → B) (l : List A) (i : ℕ) (a : A) → slice_get l i ≡ Some a → slice_get (map f l) i ≡ Some (f a)
  get_map f [] i a e = absurd (none-some a e)
  get_map f (x ∷ xs) zero a e = ap (λ y. Some (f y)) (same_Some x a e)
  get_map f (x ∷ xs) (suc i) a e = get_map f xs i a e

  -- what a place of the images has is the image of what stands there
  pub map_get : (f : A → B) (l : List A) (i : ℕ) (b : B) → slice_get (map f l) i ≡ Some b → (a : A) × (slice_get l i ≡ Some a) × (f a ≡ b)
  map_get f [] i b e = absurd (none-some b e)
  map_get f (x ∷ xs) zero b e = (x, refl, same_Some (f x) b e)
  map_get f (x ∷ xs) (suc i) b e = map_get f xs i b e

  -- the images after a write
  pub map_set : (f : A → B) (l : List A) (i : ℕ) (a : A) → map f (set l i a) ≡ set (map f l) i (f a)
  map_set f [] i a = refl
  map_set f (x ∷ xs) zero a = refl
  map_set f (x ∷ xs) (suc i) a = ap (λ l. f x ∷ l) (map_set f xs i a)

  -- there are as many images
  pub length_map : (f : A → B) (l : List A) → length (map f l) ≡ length l
  length_map f [] = refl
  length_map f (x ∷ xs) = ap suc (length_map f xs)

  -- what is read at a place does not change by a write that leaves it the same
  pub same_at : (f : Option A → B) (l : List A) (n : ℕ) (a b : A) → slice_get l n ≡ Some a → f (Some b) ≡ f (Some a) → (k : ℕ)
      → f (slice_get (set l n b) k) ≡ f (slice_get l k)
  same_at f l n a b at e k = dite (ℕ_discrete k n)
      (λ is. (λ i. f (slice_get (set l n b) (is i))) ∙ (ap f (get_here l n b (there l n a at)) ∙ (e ∙ (ap f (sym at) ∙ (λ i. f (slice_get l (sym is i)))))))
      (λ other. ap f (get_else l n k b other))
