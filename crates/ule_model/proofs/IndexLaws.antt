-- The arithmetic of the two indexes of a calendar: how far each goes in the round of 64 buckets, and how near that
-- brings a bucket.
use Rattle.std.proofs.Common.{◌≡◌, ◌≢◌, ◌==◌, ℕ, ◌+◌, ◌%◌, ◌<◌, ◌≤◌, Bool, true, false, not, cond, ◌&&◌, arith, refl, sym, ap}
use Rattle.std.proofs.lemmas.Bool.{both_ways, eqb-false, eqb-true}
use Rattle.ule_model.specs.CalendarIndexes.{calendar_bucket, distance_of, reach_of}

-- an index that goes on, or doesn't, goes by one at most
pub goes_by_one : (i : ℕ) (goes : Bool) → i < 64 → distance_of i (cond goes ((i + 1) % 64) i) ≤ 1
goes_by_one i true below = omega arith
goes_by_one i false below = omega arith

-- an index that goes on, or doesn't, is that of a bucket
pub goes_within : (i : ℕ) (goes : Bool) → i < 64 → cond goes ((i + 1) % 64) i < 64
goes_within i true below = omega arith
goes_within i false below = omega arith

-- an index that goes on, or doesn't, comes nearer to every bucket but the one that it leaves
pub goes_nearer : (i b : ℕ) (goes : Bool) → i < 64 → b < 64 → (b ≡ i → goes ≡ false) →
    distance_of (cond goes ((i + 1) % 64) i) b + distance_of i (cond goes ((i + 1) % 64) i) ≡ distance_of i b
goes_nearer i b true below within still =
    let apart : b ≢ i = λ here. both_ways true (still here) refl in
    omega arith
goes_nearer i b false below within still = omega arith

-- a bucket that is not the one at the removal index where the indexes differ
ahead_of_removal : (i r b : ℕ) (same here : Bool) → r < 64 → (r == i) ≡ same → (b == r) ≡ here → i ≢ r → cond (not same && here) ((b + 63) % 64) b ≢ r
ahead_of_removal i r b true here within es eh apart = absurd (apart (sym (eqb-true r i es)))
ahead_of_removal i r b false true within es eh apart = let is : b ≡ r = eqb-true b r eh in λ still. omega arith
ahead_of_removal i r b false false within es eh apart = eqb-false b r eh

-- while the indexes differ, an ordinary insertion is ahead of the removal index
pub ordinary_is_ahead : (i r p : ℕ) → r < 64 → i ≢ r → calendar_bucket i r p ≢ r
ordinary_is_ahead i r p within apart = ahead_of_removal i r ((reach_of p + i) % 64) (r == i) (((reach_of p + i) % 64) == r) within refl refl apart

-- the removal index after a turn goes on from itself, since it goes only where the indexes are equal
pub turned_from : (i r : ℕ) (same empty : Bool) → (i == r) ≡ same → cond (same && empty) ((i + 1) % 64) r ≡ cond (same && empty) ((r + 1) % 64) r
turned_from i r true true es = ap (λ n. (n + 1) % 64) (eqb-true i r es)
turned_from i r true false es = refl
turned_from i r false empty es = refl
