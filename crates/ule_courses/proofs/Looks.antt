-- What a look counts: threads are no more than their numbers.
use Rattle.std.proofs.Common.{◌≡◌, ℕ, ◌<◌, ◌≤◌, ◌||◌, Bool, true, false, List, [], ◌∷◌, count_by, eqb, length, refl, sym, subst, arith}
use Rattle.std.specs.List.{AllByRecursion, IsDistinct, list_any}
use Rattle.std.proofs.lemmas.Bool.{eqb-true, false≢true, ne_eqb}
use Rattle.std.proofs.lemmas.List.{length-map}
use Rattle.std.proofs.lemmas.List.Sums.{count_by-le-length}
use Rattle.std.proofs.lemmas.Map.Steps.{length-le_from_distinct_below}
use Rattle.ule_model.specs.Shows.{numbers_of}
use Rattle.ule_model.specs.WellMade.{AllApart, AreApart, IsMade, IsWellMade}
use Rattle.ule_model.specs.World.{Member}

-- a thread that is apart from others has none of their numbers
apart_number : (m : Member) (ms : List Member) → AllByRecursion (AreApart m) ms → AllByRecursion (λ u. eqb m.thread.id u ≡ false) (numbers_of ms)
apart_number m [] apart = tt
apart_number m (n ∷ ns) apart = (ne_eqb m.thread.id n.thread.id apart.0.numbers, apart_number m ns apart.1)

-- threads that are apart have distinct numbers
apart_numbers : (ms : List Member) → AllApart ms → IsDistinct eqb (numbers_of ms)
unfolding IsDistinct
apart_numbers [] apart = tt
apart_numbers (m ∷ ms) apart = (apart_number m ms apart.0, apart_numbers ms apart.1)

-- the numbers of made threads are below 256
small_numbers : (ms : List Member) (u : ℕ) → AllByRecursion IsMade ms → list_any (eqb u) (numbers_of ms) ≡ true → u < 256
small_numbers [] u made found = absurd (false≢true found)
small_numbers (m ∷ ms) u made found = by_test (eqb u m.thread.id) refl found (small_numbers ms u made.1)
  where
    by_test : (b : Bool) → eqb u m.thread.id ≡ b → (b || list_any (eqb u) (numbers_of ms)) ≡ true → (list_any (eqb u) (numbers_of ms) ≡ true → u < 256) → u < 256
    by_test true same found rest = subst (λ n. n < 256) (sym (eqb-true u m.thread.id same)) made.0.numbers.id
    by_test false other found rest = rest found

-- there are at most 256 threads
pub few_threads : (ms : List Member) → IsWellMade ms → length ms ≤ 256
few_threads ms made =
    omega (
      arith,
      length-le_from_distinct_below (numbers_of ms) 256 (apart_numbers ms made.apart) (λ u found. small_numbers ms u made.each found),
      length-map ms (λ (m : Member). m.thread.id),
    )

-- so no more are counted
pub few_counted : (p : Member → Bool) (ms : List Member) → IsWellMade ms → count_by p ms ≤ 256
few_counted p ms made = omega (arith, count_by-le-length p ms, few_threads ms made)
