-- What keeps a calendar a calendar.
use Rattle.std.proofs.Common.{◌≡◌, ◌≢◌, ◌==◌, ℕ, ◌+◌, ◌%◌, ◌<◌, Bool, true, false, not, cond, ◌&&◌, List, [], ◌∷◌, ◌++◌, length, arith, refl, ◌∙◌, ap, inl, inr, ⊎_elim, ◌⊎◌}
use Rattle.std.proofs.lemmas.Bool.{cases_eq, eqb-false, eqb-true, ne_eqb}
use Rattle.std.proofs.lemmas.List.{length_push}
use Rattle.ule_runq.specs.Runq.{times, list_at, is_empty_at, with_tail, with_head, without}
use Rattle.ule_runq.proofs.RunqLaws.{list_at-with_tail, list_at-with_tail_other, list_at-with_head, list_at-with_head_other, IsRunq-with_tail, IsRunq-with_head, IsRunq-without}
use Rattle.ule_calendar.specs.Calendar.{AreClose, Dial, IsCalendar, after_removal, turned, with_next}

-- a list with one thread more is not empty
not_empty_push : (xs : List ℕ) (t : ℕ) → (length (xs ++ t ∷ []) == 0) ≡ false
not_empty_push xs t = ne_eqb (length (xs ++ t ∷ [])) 0 (λ none. omega (arith, length_push xs t))

not_empty_cons : (xs : List ℕ) (t : ℕ) → (length (t ∷ xs) == 0) ≡ false
not_empty_cons xs t = ne_eqb (length (t ∷ xs)) 0 (λ none. omega arith)

-- a bucket that was not empty is not empty with one thread more
pub not_empty-with_tail : (q : List (List ℕ)) (b c t : ℕ) → b < length q → is_empty_at q c ≡ false → is_empty_at (with_tail q b t) c ≡ false
not_empty-with_tail q b c t within some =
    ⊎_elim (λ (same : c ≡ b). ap (λ e. is_empty_at (with_tail q b t) e) same ∙ ap (λ xs. length xs == 0) (list_at-with_tail q b t within) ∙ not_empty_push (list_at q b) t)
    (λ (other : c ≡ b → _). ap (λ xs. length xs == 0) (list_at-with_tail_other q b t c other) ∙ some)
    (cases_eq c b)

-- the same at the head
pub not_empty-with_head : (q : List (List ℕ)) (b c t : ℕ) → b < length q → is_empty_at q c ≡ false → is_empty_at (with_head q b t) c ≡ false
not_empty-with_head q b c t within some =
    ⊎_elim (λ (same : c ≡ b). ap (λ e. is_empty_at (with_head q b t) e) same ∙ ap (λ xs. length xs == 0) (list_at-with_head q b t within) ∙ not_empty_cons (list_at q b) t)
    (λ (other : c ≡ b → _). ap (λ xs. length xs == 0) (list_at-with_head_other q b t c other) ∙ some)
    (cases_eq c b)

-- close indexes stay close with one thread more at a tail
pub AreClose-with_tail : (d : Dial) (b t : ℕ) → b < length d.lists → AreClose d → AreClose (record d { lists = with_tail d.lists b t })
AreClose-with_tail d b t within = ⊎_elim (λ e. inl e) (λ p. inr (p.0, not_empty-with_tail d.lists b d.ridx t within p.1))

-- close indexes stay close with one thread more at a head
pub AreClose-with_head : (d : Dial) (b t : ℕ) → b < length d.lists → AreClose d → AreClose (record d { lists = with_head d.lists b t })
AreClose-with_head d b t within = ⊎_elim (λ e. inl e) (λ p. inr (p.0, not_empty-with_head d.lists b d.ridx t within p.1))

-- a calendar with one thread more at a tail
pub IsCalendar-with_tail : (d : Dial) (b t : ℕ) → IsCalendar d → b < 64 → t < 256 → times d.lists t ≡ 0 → IsCalendar (record d { lists = with_tail d.lists b t })
IsCalendar-with_tail d b t k hb ht absent = record {
  queue = IsRunq-with_tail d.lists b t k.queue hb ht absent;
  idx = k.idx;
  ridx = k.ridx;
  close = AreClose-with_tail d b t (omega (arith, k.queue.buckets)) k.close;
}

-- the same at a head
pub IsCalendar-with_head : (d : Dial) (b t : ℕ) → IsCalendar d → b < 64 → t < 256 → times d.lists t ≡ 0 → IsCalendar (record d { lists = with_head d.lists b t })
IsCalendar-with_head d b t k hb ht absent = record {
  queue = IsRunq-with_head d.lists b t k.queue hb ht absent;
  idx = k.idx;
  ridx = k.ridx;
  close = AreClose-with_head d b t (omega (arith, k.queue.buckets)) k.close;
}

-- a calendar with one thread more in the bucket that is taken from next
pub IsCalendar-with_next : (d : Dial) (t : ℕ) (head : Bool) → IsCalendar d → t < 256 → times d.lists t ≡ 0 → IsCalendar (with_next d t head)
IsCalendar-with_next d t true k ht absent = IsCalendar-with_head d d.ridx t k k.ridx ht absent
IsCalendar-with_next d t false k ht absent = IsCalendar-with_tail d d.ridx t k k.ridx ht absent

-- close indexes stay close without a thread, where they are equal or the bucket at the removal index has another
kept : (d : Dial) (t : ℕ) → AreClose d → (d.idx ≡ d.ridx) ⊎ (is_empty_at (without t d.lists) d.ridx ≡ false) → AreClose (record d { lists = without t d.lists })
kept d t close h = ⊎_elim (λ same. inl same) (λ some. ⊎_elim (λ e. inl e) (λ p. inr (p.0, some)) close) h

-- close indexes that differ are equal once the removal index follows to the insertion index
followed : (d : Dial) (t : ℕ) → AreClose d → d.idx ≢ d.ridx → AreClose (record d { lists = without t d.lists; ridx = (d.ridx + 1) % 64 })
followed d t close apart = ⊎_elim (λ e. absurd (apart e)) (λ p. inl p.0) close

followed_if : (d : Dial) (t : ℕ) (same empty : Bool) → (d.idx == d.ridx) ≡ same → is_empty_at (without t d.lists) d.ridx ≡ empty → AreClose d →
    AreClose (record d { lists = without t d.lists; ridx = cond (not same && empty) ((d.ridx + 1) % 64) d.ridx })
followed_if d t true empty es ee close = kept d t close (inl (eqb-true d.idx d.ridx es))
followed_if d t false true es ee close = followed d t close (λ e. eqb-false d.idx d.ridx es e)
followed_if d t false false es ee close = kept d t close (inr ee)

-- close indexes stay close at a removal
pub AreClose-after_removal : (d : Dial) (t : ℕ) → AreClose d → AreClose (after_removal d t)
AreClose-after_removal d t close = followed_if d t (d.idx == d.ridx) (is_empty_at (without t d.lists) d.ridx) refl refl close

-- an index that goes on, or doesn't, goes round 64
pub goes_round : (r : ℕ) (goes : Bool) → r < 64 → cond goes ((r + 1) % 64) r < 64
goes_round r true within = omega arith
goes_round r false within = within

-- a calendar without a thread
pub IsCalendar-after_removal : (d : Dial) (t : ℕ) → IsCalendar d → IsCalendar (after_removal d t)
IsCalendar-after_removal d t k = record {
  queue = IsRunq-without t d.lists k.queue;
  idx = k.idx;
  ridx = goes_round d.ridx (not (d.idx == d.ridx) && is_empty_at (without t d.lists) d.ridx) k.ridx;
  close = AreClose-after_removal d t k.close;
}

-- a calendar without a thread, where the indexes are equal
pub IsCalendar-without : (d : Dial) (t : ℕ) → IsCalendar d → d.idx ≡ d.ridx → IsCalendar (record d { lists = without t d.lists })
IsCalendar-without d t k same = record { queue = IsRunq-without t d.lists k.queue; idx = k.idx; ridx = k.ridx; close = kept d t k.close (inl same) }

-- close indexes that turn where they are equal stay close
turned_if : (d : Dial) (same empty : Bool) → (d.idx == d.ridx) ≡ same → is_empty_at d.lists d.ridx ≡ empty → AreClose d →
    AreClose (record d { idx = cond same ((d.idx + 1) % 64) d.idx; ridx = cond (same && empty) ((d.idx + 1) % 64) d.ridx })
turned_if d true true es ee close = inl refl
turned_if d true false es ee close = inr (ap (λ n. (n + 1) % 64) (eqb-true d.idx d.ridx es), ee)
turned_if d false empty es ee close = close

-- close indexes stay close at a turn
pub AreClose-turned : (d : Dial) → AreClose d → AreClose (turned d)
AreClose-turned d close = turned_if d (d.idx == d.ridx) (is_empty_at d.lists d.ridx) refl refl close
