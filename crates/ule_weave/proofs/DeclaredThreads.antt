-- The threads that a setup declares, in rising number.
use Rattle.std.proofs.Common.{◌≡◌, ℕ, ◌+◌, ◌≤◌, Bool, true, false, List, [], ◌∷◌, ◌++◌, filter, length, sym, ap, ◌∙◌, arith}
use Rattle.std.specs.Prelude.{All, if◌then◌else◌}
use Rattle.std.specs.List.{range_with_len}
use Rattle.std.proofs.lemmas.List.Elements.{filter-append, filter_passes}
use Rattle.std.proofs.lemmas.List.FromFn.{length-range_with_len}
use Rattle.ule_micro.specs.declared.locks.TheConstants.{THREADS}
use Rattle.ule_parts.specs.Workers.{declared_ids_of}
use Rattle.ule_rounds.proofs.RoundsLaws.{range_push}
use Rattle.ule_types.specs.Commands.{is_among}
use Rattle.ule_types.specs.declared.setup.Setup.{Setup}
use Rattle.ule_weave.specs.WeaveText.{declared_in_order}

-- one number more
pub declared_more : (p : ℕ → Bool) (n : ℕ) → filter p (range_with_len 0 (n + 1)) ≡ filter p (range_with_len 0 n) ++ (if p n then n ∷ [] else [])
declared_more p n = ap (filter p) (range_push n) ∙ filter-append p (range_with_len 0 n) (n ∷ [])

-- one number more was noted, where it is declared
pub declared_noted : (p : ℕ → Bool) (n : ℕ) (old new : List ℕ) (b : Bool) → old ≡ filter p (range_with_len 0 n) → b ≡ p n → new ≡ old ++ (if b then n ∷ [] else []) → new ≡ filter p (range_with_len 0 (n + 1))
declared_noted p n old new b before is e =
    e ∙ (ap (λ xs. xs ++ (if b then n ∷ [] else [])) before ∙ (ap (λ (d : Bool). filter p (range_with_len 0 n) ++ (if d then n ∷ [] else [])) is ∙ sym (declared_more p n)))

-- all numbers
pub declared_all : (s : Setup) (n : ℕ) (ids : List ℕ) → n ≡ THREADS → ids ≡ filter (is_among (declared_ids_of s)) (range_with_len 0 n) → ids ≡ declared_in_order s
unfolding declared_in_order
declared_all s n ids all e = e ∙ ap (λ m. filter (is_among (declared_ids_of s)) (range_with_len 0 m)) all

-- one kept, or not
kept_few : (b : Bool) (x : ℕ) (ys xs : List ℕ) → length ys ≤ length xs → length (if b then x ∷ ys else ys) ≤ length (x ∷ xs)
kept_few true x ys xs h = omega arith
kept_few false x ys xs h = omega arith

-- a test keeps no more than there is
filter_few : (p : ℕ → Bool) (xs : List ℕ) → length (filter p xs) ≤ length xs
filter_few p [] = omega arith
filter_few p (x ∷ xs) = kept_few (p x) x (filter p xs) xs (filter_few p xs)

-- there are few
pub declared_few : (s : Setup) → length (declared_in_order s) ≤ 256
unfolding declared_in_order
declared_few s = let many = length-range_with_len 0 THREADS in omega (arith, filter_few (is_among (declared_ids_of s)) (range_with_len 0 THREADS), many)

-- each is declared
pub declared_each : (s : Setup) → All (λ t. is_among (declared_ids_of s) t ≡ true) (declared_in_order s)
unfolding declared_in_order
declared_each s = filter_passes (is_among (declared_ids_of s)) (range_with_len 0 THREADS)
