-- The calendar promise for each single call.
use Rattle.std.proofs.Common.{◌≡◌, ◌≢◌, ◌==◌, ℕ, ◌+◌, ◌%◌, ◌<◌, ◌≤◌, Bool, true, false, cond, ◌&&◌, Option, Some, IfSome, List, length, arith, refl, sym, subst, ap, ◌∙◌, ⊎_elim}
use Rattle.std.proofs.lemmas.Bool.{cases_lt}
use Rattle.ule_model.specs.CalendarIndexes.{distance_of}
use Rattle.ule_model.proofs.IndexLaws.{goes_by_one, goes_nearer, turned_from}
use Rattle.ule_runq.specs.Runq.{IsFirstFrom, IsRunq, bucket_in, is_empty_at, list_at}
use Rattle.ule_runq.proofs.RunqLaws.{bucket_in-at}
use Rattle.ule_runq.proofs.Counts.{count_head}
use Rattle.ule_calendar.specs.Calendar.{AreClose, Dial, turned}
use Rattle.ule_calendar.specs.Promise.{DialGoesOn, DialIsClose, IsNearest}

-- ---- what the calls keep

-- a bucket that has a thread is not left at a turn
not_left_at_turn : (q : List (List ℕ)) (b r : ℕ) (same : Bool) → (b ≡ r → is_empty_at q b ≡ false) → b ≡ r → (same && is_empty_at q r) ≡ false
not_left_at_turn q b r true kept here = ap (is_empty_at q) (sym here) ∙ kept here
not_left_at_turn q b r false kept here = refl

-- indexes that are where a calendar has them are close
pub close_indexes : (d : Dial) → d.ridx < 64 → AreClose d → DialIsClose d
close_indexes d within close = record {
  apart =
      ⊎_elim (λ (same : d.idx ≡ d.ridx). omega arith) (λ (ahead : (d.idx ≡ (d.ridx + 1) % 64) × (is_empty_at d.lists d.ridx ≡ false)). let one = ahead.0 in omega arith) close;
  held = λ one. ⊎_elim (λ (same : d.idx ≡ d.ridx). absurd (omega arith)) (λ ahead. ahead.1) close;
}

-- a calendar goes on where its insertion index stays, and its removal index goes on by one at most, from a bucket
-- that is empty then
pub goes_on_by : (old new : Dial) (goes : Bool) → old.ridx < 64 → DialIsClose new → new.idx ≡ old.idx →
    new.ridx ≡ cond goes ((old.ridx + 1) % 64) old.ridx → (goes ≡ true → is_empty_at new.lists old.ridx ≡ true) → DialGoesOn old new
goes_on_by old new goes within close idx ridx empty = record {
  close = close;
  idx = let same = idx in omega arith;
  ridx = rw ridx (goes_by_one old.ridx goes within);
  nearer = λ b below kept. rw ridx (goes_nearer old.ridx b goes within below (λ here. stays goes b here (kept here) empty));
}
  where
    stays : (g : Bool) (b : ℕ) → b ≡ old.ridx → is_empty_at new.lists b ≡ false → (g ≡ true → is_empty_at new.lists old.ridx ≡ true) → g ≡ false
    stays true b here some none = sym (none refl) ∙ ap (is_empty_at new.lists) (sym here) ∙ some
    stays false b here some none = refl

-- a calendar goes on at a turn
pub goes_on_turned : (d : Dial) → d.idx < 64 → d.ridx < 64 → DialIsClose (turned d) → DialGoesOn d (turned d)
goes_on_turned d idx_within ridx_within close =
    let empty : Bool = is_empty_at d.lists d.ridx in
    let from = turned_from d.idx d.ridx (d.idx == d.ridx) empty refl in record {
      close = close;
      idx = goes_by_one d.idx (d.idx == d.ridx) idx_within;
      ridx = rw from (goes_by_one d.ridx ((d.idx == d.ridx) && empty) ridx_within);
      nearer = λ b within kept.
          rw from (goes_nearer d.ridx b ((d.idx == d.ridx) && empty) ridx_within within (not_left_at_turn d.lists b d.ridx (d.idx == d.ridx) kept));
    }

-- ---- the thread that is chosen

-- the first thread from the removal index on is a nearest one
pub nearest_first : (d : Dial) (b t : ℕ) → IsRunq d.lists → IsFirstFrom d.lists d.ridx b t → IsNearest d t
nearest_first d b t whole first =
    subst (λ (o : Option ℕ). IfSome o (λ (a : ℕ). (c : ℕ) → c < 64 → is_empty_at d.lists c ≡ false → distance_of d.ridx a ≤ distance_of d.ridx c))
    (sym here) nearer
  where
    here : bucket_in d.lists t ≡ Some b
    here =
        let size = whole.buckets in let within = first.bucket in
        bucket_in-at d.lists t b (whole.once t) (omega arith) (let one = count_head t (list_at d.lists b) first.head in omega arith)

    nearer : (c : ℕ) → c < 64 → is_empty_at d.lists c ≡ false → distance_of d.ridx b ≤ distance_of d.ridx c
    nearer c within some =
        ⊎_elim
        (λ (less : distance_of d.ridx c < distance_of d.ridx b).
        let empty : is_empty_at d.lists c ≡ true = ap (λ (xs : List ℕ). length xs == 0) (first.nearer c within less) in cc)
        (λ (no : distance_of d.ridx b ≤ distance_of d.ridx c). no)
        (cases_lt (distance_of d.ridx c) (distance_of d.ridx b))
