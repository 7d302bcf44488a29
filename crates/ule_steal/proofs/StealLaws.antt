-- The searches of the code give what the steal rule says.
use Rattle.std.proofs.Common.{◌≡◌, ◌==◌, ◌&&◌, ℕ, ◌+◌, ◌<◌, ◌≤◌, Bool, true, false, not, cond, Option, Some, None, List, [], ◌∷◌, ◌++◌, map, filter, slice_get, option_map, refl, sym, ◌∙◌, ap, arith, eq-eqb, ne_eqb, ◌≢◌, IfSome}
use Rattle.std.proofs.lemmas.Bool.{true≢false}
use Rattle.std.proofs.lemmas.List.Folds.{find-append}
use Rattle.std.specs.List.{find, flat_map, concat, enumerate_from}
use Rattle.std.specs.Option.{option_or}
use Rattle.ule_runq.specs.Runq.{times, threads_from, line_from, first_from, is_eligible, first_allowed, IsRunq}
use Rattle.ule_runq.proofs.Counts.{count, count-cons, once_same}
use Rattle.ule_runq.proofs.Searches.{threads_from-round, count-threads_from}
use Rattle.ule_calendar.specs.Calendar.{Dial}
use Rattle.ule_steal.specs.Steal.{first_movable, plain_pick, with_first_last, batch_pick, first_thread, if_movable, SparesFirst}

-- ---- lists

-- the head of what passes is the first that passes
pub filter-head : (test : ℕ → Bool) (xs : List ℕ) → slice_get (filter test xs) 0 ≡ find test xs
filter-head test [] = refl
filter-head test (x ∷ xs) = step (test x) (filter-head test xs)
  where
    step : (b : Bool) → slice_get (filter test xs) 0 ≡ find test xs → slice_get (cond b (x ∷ filter test xs) (filter test xs)) 0 ≡ cond b (Some x) (find test xs)
    step true rest = refl
    step false rest = rest

-- a thread that stands nowhere in a line can be skipped there
find_skipped : (movable : ℕ → Bool) (t : ℕ) (xs : List ℕ) → count t xs ≡ 0 → find (is_eligible movable (Some t)) xs ≡ find movable xs
find_skipped movable t [] absent = refl
find_skipped movable t (x ∷ xs) absent =
    let parts = count-cons t x xs in
    step (x == t) (movable x) (cond (x == t) 1 0) refl (omega arith) (find_skipped movable t xs (omega arith))
  where
    step : (same passes : Bool) (n : ℕ) → cond same 1 0 ≡ n → n ≡ 0 → find (is_eligible movable (Some t)) xs ≡ find movable xs →
        cond (passes && not same) (Some x) (find (is_eligible movable (Some t)) xs) ≡ cond passes (Some x) (find movable xs)
    step true passes n is none rest = absurd (omega arith)
    step false true n is none rest = refl
    step false false n is none rest = rest

-- the thread that is skipped is not found at the head of its line
find_past_first : (movable : ℕ → Bool) (t : ℕ) (xs : List ℕ) → find (is_eligible movable (Some t)) (t ∷ xs) ≡ find (is_eligible movable (Some t)) xs
find_past_first movable t xs = step (movable t) (t == t) (eq-eqb t t refl)
  where
    step : (passes same : Bool) → same ≡ true → cond (passes && not same) (Some t) (find (is_eligible movable (Some t)) xs) ≡ find (is_eligible movable (Some t)) xs
    step true true is = refl
    step true false is = cc
    step false same is = refl

-- the first movable thread of a line whose first comes last is the first other one, or else the first
pub first_last_pick : (movable : ℕ → Bool) (xs : List ℕ) → ((t : ℕ) → count t xs ≤ 1) →
    first_movable movable (with_first_last xs) ≡ option_or (find (is_eligible movable (slice_get xs 0)) xs) (if_movable movable (slice_get xs 0))
first_last_pick movable [] few = refl
first_last_pick movable (t ∷ xs) few =
    let parts = count-cons t t xs in
    let one = once_same t in
    let most = few t in
    filter-head movable (xs ++ t ∷ []) ∙ find-append movable xs (t ∷ [])
    ∙ ap (λ o. option_or o (if_movable movable (Some t))) (sym (find_past_first movable t xs ∙ find_skipped movable t xs (omega arith)))

-- ---- the queue by buckets

unnumbered : (n : ℕ) (q : List (List ℕ)) → flat_map (λ (e : ℕ × List ℕ). e.1) (enumerate_from n q ++ []) ≡ concat q
unnumbered n [] = refl
unnumbered n (xs ∷ q) = ap (λ ys. xs ++ ys) (unnumbered (n + 1) q)

-- from bucket 0 on the threads come bucket by bucket
pub threads_from-first : (q : List (List ℕ)) → threads_from q 0 ≡ concat q
threads_from-first q = threads_from-round q 0 ∙ unnumbered 0 q

pub plain_pick-found : (movable : ℕ → Bool) (q : List (List ℕ)) → plain_pick movable q ≡ first_allowed movable None q 0
plain_pick-found movable q = filter-head movable (concat q) ∙ ap (find movable) (sym (threads_from-first q))

-- ---- the calendar

-- the first thread of a queue is the first of its line
pub first_from-thread : (q : List (List ℕ)) (b : ℕ) → option_map (λ (f : ℕ × ℕ). f.1) (first_from q b) ≡ slice_get (threads_from q b) 0
first_from-thread q b = head (line_from q b)
  where
    head : (es : List (ℕ × ℕ)) → option_map (λ (f : ℕ × ℕ). f.1) (slice_get es 0) ≡ slice_get (map (λ (f : ℕ × ℕ). f.1) es) 0
    head [] = refl
    head (e ∷ es) = refl

pub batch_pick-found : (movable : ℕ → Bool) (d : Dial) (first : Option ℕ) → IsRunq d.lists → first ≡ first_thread d →
    batch_pick movable d ≡ option_or (first_allowed movable first d.lists d.ridx) (if_movable movable first)
batch_pick-found movable d first sound is =
    first_last_pick movable (threads_from d.lists d.ridx) (λ t. let same = count-threads_from d.lists d.ridx t in let few = sound.once t in omega arith)
    ∙ ap (λ o. option_or (find (is_eligible movable o) (threads_from d.lists d.ridx)) (if_movable movable o)) (sym (is ∙ first_from-thread d.lists d.ridx))

-- the answer of the two calls that the code makes, where q, b and first are what it read of the calendar
pub batch_pick-read : (movable : ℕ → Bool) (d : Dial) (q : List (List ℕ)) (b : ℕ) (first o : Option ℕ) → IsRunq d.lists → q ≡ d.lists → b ≡ d.ridx →
    first ≡ first_thread d → first_allowed movable first q b ≡ o → batch_pick movable d ≡ option_or o (if_movable movable first)
batch_pick-read movable d q b first o sound lists index is found =
    batch_pick-found movable d first sound is
    ∙ ap (λ p. option_or p (if_movable movable first)) (ap (λ r. first_allowed movable first r d.ridx) (sym lists) ∙ ap (first_allowed movable first q) (sym index) ∙ found)

-- ---- the calendar's first thread

-- a thread that isn't eligible and isn't skipped is not movable
not_movable : (movable : ℕ → Bool) (skip u : ℕ) → is_eligible movable (Some skip) u ≡ false → u ≢ skip → movable u ≡ false
not_movable movable skip u fails apart = step (movable u) (ne_eqb u skip apart) fails
  where
    step : (b : Bool) → (u == skip) ≡ false → (b && not (u == skip)) ≡ false → b ≡ false
    step true other none = sym (ap not other) ∙ none
    step false other none = refl

-- the thread that is skipped is not eligible
skipped_fails : (movable : ℕ → Bool) (t : ℕ) → is_eligible movable (Some t) t ≡ true → ⊥
skipped_fails movable t passes = step (movable t) (eq-eqb t t refl) passes
  where
    step : (b : Bool) → (t == t) ≡ true → (b && not (t == t)) ≡ true → ⊥
    step true same other = true≢false (sym other ∙ ap not same)
    step false same other = true≢false (sym other)

module _ (movable : ℕ → Bool) (d : Dial) (first : Option ℕ) (is : first ≡ first_thread d) where
  -- another thread that is given spares the first
  pub spares-other : (t : ℕ) → is_eligible movable first t ≡ true → SparesFirst movable d t
  spares-other t passes here = absurd (skipped_fails movable t (ap (λ o. is_eligible movable o t) (sym (is ∙ here)) ∙ passes))

  -- where no other is eligible, the first may be given
  pub spares-none : ((u : ℕ) → 0 < times d.lists u → is_eligible movable first u ≡ false) → (o : Option ℕ) → IfSome o (SparesFirst movable d)
  spares-none fails None = tt
  spares-none fails (Some t) = λ here u apart stands. not_movable movable t u (ap (λ o. is_eligible movable o u) (sym (is ∙ here)) ∙ fails u stands) apart
