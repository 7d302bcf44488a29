-- Lists of numbers without repetitions.
use Rattle.std.proofs.Common.{◌≡◌, ℕ, zero, suc, ◌==◌, Bool, true, false, not, List, [], ◌∷◌, ◌++◌, flat_map, slice_index_or, refl, sym, ◌∙◌, ap, ⊎_elim}
use Rattle.std.specs.List.{list_all}
use Rattle.std.proofs.lemmas.Bool.{and_from, and_parts, both_ways, eqb-true, false≢true, not-true, or_cases, or_from, or_left, or_parts, or_right}
use Rattle.ule_types.specs.Commands.{is_among}
use Rattle.ule_types.specs.Rules.{is_distinct}

-- of a list without repetitions the front has none
pub distinct_front : (xs ys : List ℕ) → is_distinct (xs ++ ys) ≡ true → is_distinct xs ≡ true
distinct_front [] ys distinct = refl
distinct_front (x ∷ xs) ys distinct =
    let both = and_parts (not (is_among (xs ++ ys) x)) (is_distinct (xs ++ ys)) distinct in
    and_from (not (is_among xs x)) (is_distinct xs) (ap not (front xs (not-true (is_among (xs ++ ys) x) both.0))) (distinct_front xs ys both.1)
  where
    front : (us : List ℕ) → is_among (us ++ ys) x ≡ false → is_among us x ≡ false
    front [] none = refl
    front (u ∷ us) none = let parts = or_parts (u == x) (is_among (us ++ ys) x) none in or_from (u == x) (is_among us x) parts.0 (front us parts.1)

-- of a list without repetitions the back has none
pub distinct_back : (xs ys : List ℕ) → is_distinct (xs ++ ys) ≡ true → is_distinct ys ≡ true
distinct_back [] ys distinct = distinct
distinct_back (x ∷ xs) ys distinct = distinct_back xs ys (and_parts (not (is_among (xs ++ ys) x)) (is_distinct (xs ++ ys)) distinct).1

-- a number of the front is one of the whole
pub among_front : (xs ys : List ℕ) (t : ℕ) → is_among xs t ≡ true → is_among (xs ++ ys) t ≡ true
among_front [] ys t among = absurd (false≢true among)
among_front (x ∷ xs) ys t among =
    ⊎_elim (λ (here : (x == t) ≡ true). or_left (x == t) (is_among (xs ++ ys) t) here)
    (λ (rest : is_among xs t ≡ true). or_right (x == t) (is_among (xs ++ ys) t) (among_front xs ys t rest))
    (or_cases (x == t) (is_among xs t) among)

-- a number of the back is one of the whole
pub among_back : (xs ys : List ℕ) (t : ℕ) → is_among ys t ≡ true → is_among (xs ++ ys) t ≡ true
among_back [] ys t among = among
among_back (x ∷ xs) ys t among = or_right (x == t) (is_among (xs ++ ys) t) (among_back xs ys t among)

-- no number stands in the front and in the back of a list without repetitions
pub distinct_apart : (xs ys : List ℕ) (t : ℕ) → is_distinct (xs ++ ys) ≡ true → is_among xs t ≡ true → is_among ys t ≡ true → ⊥
distinct_apart [] ys t distinct front back = absurd (false≢true front)
distinct_apart (x ∷ xs) ys t distinct front back =
    let both = and_parts (not (is_among (xs ++ ys) x)) (is_distinct (xs ++ ys)) distinct in
    ⊎_elim
    (λ (here : (x == t) ≡ true). both_ways (is_among (xs ++ ys) x) (not-true (is_among (xs ++ ys) x) both.0)
    (ap (is_among (xs ++ ys)) (eqb-true x t here) ∙ among_back xs ys t back))
    (λ (rest : is_among xs t ≡ true). distinct_apart xs ys t both.1 rest back)
    (or_cases (x == t) (is_among xs t) front)

-- what a test of all says of a number that is among them
pub among_passes : (p : ℕ → Bool) (xs : List ℕ) (t : ℕ) → list_all p xs ≡ true → is_among xs t ≡ true → p t ≡ true
among_passes p [] t all among = absurd (false≢true among)
among_passes p (x ∷ xs) t all among =
    let both = and_parts (p x) (list_all p xs) all in
    ⊎_elim (λ (here : (x == t) ≡ true). ap p (sym (eqb-true x t here)) ∙ both.0) (λ (rest : is_among xs t ≡ true). among_passes p xs t both.1 rest)
    (or_cases (x == t) (is_among xs t) among)

-- ---- lists one after another

module _ {X : Type 0} (f : X → List ℕ) (spare : X) (none : f spare ≡ []) where
  -- a number of one list is one of all together
  pub among_of_one : (xs : List X) (i t : ℕ) → is_among (f (slice_index_or xs i spare)) t ≡ true → is_among (flat_map f xs) t ≡ true
  among_of_one [] i t among = absurd (false≢true (ap (λ us. is_among us t) (sym none) ∙ among))
  among_of_one (x ∷ xs) zero t among = among_front (f x) (flat_map f xs) t among
  among_of_one (x ∷ xs) (suc i) t among = among_back (f x) (flat_map f xs) t (among_of_one xs i t among)

  -- where all together have no repetitions, one list has none
  pub distinct_of_one : (xs : List X) (i : ℕ) → is_distinct (flat_map f xs) ≡ true → is_distinct (f (slice_index_or xs i spare)) ≡ true
  distinct_of_one [] i distinct = ap is_distinct none
  distinct_of_one (x ∷ xs) zero distinct = distinct_front (f x) (flat_map f xs) distinct
  distinct_of_one (x ∷ xs) (suc i) distinct = distinct_of_one xs i (distinct_back (f x) (flat_map f xs) distinct)

  -- where all together have no repetitions, two lists that share a number are one
  pub distinct_of_two : (xs : List X) (i j t : ℕ) → is_distinct (flat_map f xs) ≡ true → is_among (f (slice_index_or xs i spare)) t ≡ true →
      is_among (f (slice_index_or xs j spare)) t ≡ true → i ≡ j
  distinct_of_two [] i j t distinct first second = absurd (false≢true (ap (λ us. is_among us t) (sym none) ∙ first))
  distinct_of_two (x ∷ xs) zero zero t distinct first second = refl
  distinct_of_two (x ∷ xs) zero (suc j) t distinct first second = absurd (distinct_apart (f x) (flat_map f xs) t distinct first (among_of_one xs j t second))
  distinct_of_two (x ∷ xs) (suc i) zero t distinct first second = absurd (distinct_apart (f x) (flat_map f xs) t distinct second (among_of_one xs i t first))
  distinct_of_two (x ∷ xs) (suc i) (suc j) t distinct first second = ap suc (distinct_of_two xs i j t (distinct_back (f x) (flat_map f xs) distinct) first second)
