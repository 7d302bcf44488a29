-- A step that leaves a worker in its item keeps the state: a read, a take, a release, a store, and the reading of now.
use Rattle.std.proofs.Common.{◌≡◌, ◌≢◌, ℕ, ◌<◌, true, false, List, length, set, sym, refl, ap, ◌∙◌, subst, length-set}
use Rattle.std.specs.Prelude.{Option, Some, None, slice_get, slice_index_or}
use Rattle.std.proofs.lemmas.Option.{none-some}
use Rattle.ule_micro.specs.declared.entry.HeldLocks.{HeldLocks}
use Rattle.ule_micro.specs.declared.locks.TheConstants.{LIMBO, LOCKS, THREADS}
use Rattle.ule_micro.specs.declared.seat.Phase.{Phase}
use Rattle.ule_micro.specs.declared.seat.Phase.TheVariants as phase
use Rattle.ule_micro.specs.declared.seat.Progress.{Progress}
use Rattle.ule_micro.specs.declared.seat.Seat.{Seat}
use Rattle.ule_micro.specs.declared.word.Word.{Word}
use Rattle.ule_micro.specs.declared.word.Word.TheVariants.{Lock, Blocked}
use Rattle.ule_micro.specs.declared.word.WordChange.{WordChange}
use Rattle.ule_micro.specs.declared.word.WordChange.TheVariants.{Block, Point}
use Rattle.ule_micro.specs.Means.{Means}
use Rattle.ule_micro.specs.Histories.{is_lock_among}
use Rattle.ule_micro.specs.Courses.{LegalPlay}
use Rattle.ule_micro.specs.Laws.{AreInRisingOrder}
use Rattle.ule_micro.specs.Shared.{Agrees, updated, word_stored}
use Rattle.ule_micro.specs.States.{State, course_of_seat, holds, lock_holder, pending, pending_by, read_by, read_in, shared_of, standing_of_phase, time_read, took}
use Rattle.ule_micro.specs.Turns.{at as placed, calm}
use Rattle.ule_micro.specs.Theorem.{HasWhatItNeeds}
use Rattle.ule_micro.specs.Kept.{IsKeptState}
use Rattle.ule_micro.proofs.Seats.{courses_same, hands_same, held_before, held_low, held_same, pending_before}
use Rattle.ule_micro.proofs.SharedSteps.{blocking_agrees, pointing_agrees, reading_agrees, releasing_agrees, taking_agrees}
use Rattle.ule_micro.proofs.Showing.{advanced_same, afterwards, alike_same, held_with, index_put, kept_by, on_its_way, put_same, put_seat, stays_shown}

module _ {H O G E R C : Type 0} (m : Means H O G E R C) (orders : ℕ → List C) (s : State O G E R) (k : IsKeptState m orders s) (w : ℕ) (p : Seat O E R) (at : slice_get s.seats w ≡ Some p) where
  -- a worker with no change pending that goes on in its item
  module _ (there : Phase E R) (quiet : p.pending ≡ None) (course : standing_of_phase there ≡ standing_of_phase p.phase) (unfinished : there ≢ phase.Finished)
      (apart : (reply : R) (now : ℕ) (held : HeldLocks) → there ≡ phase.Leaving reply now held → AreInRisingOrder held)
      (way : (e : E) (on : Progress) → there ≡ phase.Event e on → HasWhatItNeeds m s e on) where
    abbrev p' : Seat O E R
    p' = placed p there

    same_course : course_of_seat p' ≡ course_of_seat p
    same_course = λ i. record { own = p.own; begun = p.begun; items = p.items; advanced = p.advanced; standing = course i }

    -- what it shows agrees, so the state is kept
    steps_on : (locks' : List (Option ℕ)) → length locks' ≡ LOCKS → Agrees m (shared_of m (on_its_way m orders s k w p at there locks' (λ l. slice_index_or locks' l None) (holds s) (time_read s)) k.agreement.history)
        → IsKeptState m orders (on_its_way m orders s k w p at there locks' (λ l. slice_index_or locks' l None) (holds s) (time_read s))
    steps_on locks' long agrees = kept_by m orders s k w p at p' locks' s.words s.ticket s.now s.values s.history k.agreement.history k.agreement.same_entries agrees
        (record { number = (k.seats w p at).number; begun = (k.seats w p at).begun; apart = apart })
        (λ c pends. absurd (none-some c (sym quiet ∙ pends))) way (λ fin. absurd (unfinished fin)) (λ v far. refl) (λ v q e on far is stands had. had) long k.words
        (subst (LegalPlay m orders s.history s.values) (sym (courses_same s.seats w p p' at same_course)) k.play)

    module _ (untimed : read_in there ≡ None) where
      read_gone : (v : ℕ) → read_by (slice_get (set s.seats w p') v) ≡ updated (time_read s) w None v
      read_gone v = put_seat s.seats w p p' at read_by v ∙ ap (λ r. updated (time_read s) w r v) untimed

      -- a worker that had read no time reads a word
      pub read_keeps : ((l : ℕ) → took there l ≡ took p.phase l) → read_in p.phase ≡ None
          → IsKeptState m orders (on_its_way m orders s k w p at there s.locks (lock_holder s) (holds s) (time_read s))
      read_keeps same none = steps_on s.locks k.locks (stays_shown m orders s k w p at there s.locks (lock_holder s) (holds s) (time_read s) (λ l. refl) (λ v l. held_same s.seats w p p' at l (same l) v)
          (λ v. read_gone v ∙ sym (put_same (time_read s) w None (ap read_by at ∙ none) v)) k.agreement.shared)

      -- it takes a free lock
      pub take_keeps : (l : ℕ) → l < LOCKS → took there l ≡ true → ((i : ℕ) → i ≢ l → took there i ≡ took p.phase i) → lock_holder s l ≡ None
          → IsKeptState m orders (on_its_way m orders s k w p at there (set s.locks l (Some w)) (lock_holder s) (holds s) (time_read s))
      take_keeps l low has rest free = steps_on (set s.locks l (Some w)) (length-set s.locks l (Some w) ∙ k.locks)
          (stays_shown m orders s k w p at there (set s.locks l (Some w)) (updated (lock_holder s) l (Some w)) _ (updated (time_read s) w None)
          (index_put s.locks l None (Some w) (subst (λ n. l < n) (sym k.locks) low)) (held_with s.seats w p p' at l true has rest) read_gone
          (taking_agrees m (shared_of m s k.agreement.history) w l k.agreement.shared free))

      -- it gives a lock back
      pub release_keeps : (l : ℕ) → took p.phase l ≡ true → took there l ≡ false → ((i : ℕ) → i ≢ l → took there i ≡ took p.phase i)
          → IsKeptState m orders (on_its_way m orders s k w p at there (set s.locks l None) (lock_holder s) (holds s) (time_read s))
      release_keeps l had gone rest = let has : holds s w l ≡ true = held_before s.seats w p p' at l ∙ had in
          steps_on (set s.locks l None) (length-set s.locks l None ∙ k.locks)
          (stays_shown m orders s k w p at there (set s.locks l None) (updated (lock_holder s) l None) _ (updated (time_read s) w None)
          (index_put s.locks l None None (held_low s k.agreement.shared.locks w l has)) (held_with s.seats w p p' at l false gone rest) read_gone
          (releasing_agrees m (shared_of m s k.agreement.history) w l k.agreement.shared has (pending_before s.seats w p p' at ∙ quiet)))

    -- it reads now under its locks
    pub read_now_keeps : (held : HeldLocks) → read_in there ≡ Some (record { locks = held; now = s.now }) → ((l : ℕ) → took there l ≡ took p.phase l) → ((l : ℕ) → is_lock_among held l ≡ true → took p.phase l ≡ true)
        → IsKeptState m orders (on_its_way m orders s k w p at there s.locks (lock_holder s) (holds s) (time_read s))
    read_now_keeps held is same has = steps_on s.locks k.locks
        (stays_shown m orders s k w p at there s.locks (lock_holder s) (holds s) (updated (time_read s) w (Some (record { locks = held; now = s.now }))) (λ l. refl) (λ v l. held_same s.seats w p p' at l (same l) v)
        (λ v. put_seat s.seats w p p' at read_by v ∙ ap (λ r. updated (time_read s) w r v) is)
        (reading_agrees m (shared_of m s k.agreement.history) w held k.agreement.shared (λ l a. held_before s.seats w p p' at l ∙ has l a)))

  -- a worker stores its pending change in the thread's word
  module _ (t : ℕ) (word : Word) (change : WordChange) (is : p.pending ≡ Some change) (low : t < THREADS) (agrees : Agrees m (word_stored (shared_of m s k.agreement.history) w t word)) where
    abbrev q : Seat O E R
    q = calm p

    -- the state with the word stored is kept
    stores_on : IsKeptState m orders (afterwards m orders s k w p at q s.locks (set s.words t word) s.ticket s.now s.values s.history)
    stores_on = kept_by m orders s k w p at q s.locks (set s.words t word) s.ticket s.now s.values s.history k.agreement.history k.agreement.same_entries
        (subst (Agrees m) (sym (alike_same (shared_of m (afterwards m orders s k w p at q s.locks (set s.words t word) s.ticket s.now s.values s.history) k.agreement.history) (word_stored (shared_of m s k.agreement.history) w t word) (record {
          locks = λ l. refl;
          words = index_put s.words t (Lock LIMBO) word (subst (λ n. t < n) (sym k.words) low);
          ticket = refl;
          now = refl;
          values = refl;
          hands = hands_same m s.seats w p q at refl;
          holds = λ v l. held_same s.seats w p q at l refl v;
          pending = put_seat s.seats w p q at pending_by;
          read = λ v. put_seat s.seats w p q at read_by v ∙ sym (put_same (time_read s) w (read_in p.phase) (ap read_by at) v);
          advanced = advanced_same s.seats w p q at refl;
          history = refl;
        }))) agrees)
        (record { number = (k.seats w p at).number; begun = (k.seats w p at).begun; apart = (k.seats w p at).apart })
        (λ c pends. absurd (none-some c pends)) (λ e on stands. (k.agreement.workers w p at).way e on stands)
        (λ fin. let r = (k.agreement.workers w p at).finished fin in absurd (none-some change (sym r.calm ∙ is))) (λ v far. refl) (λ v q e on far is stands had. had) k.locks (length-set s.words t word ∙ k.words)
        (subst (LegalPlay m orders s.history s.values) (sym (courses_same s.seats w p q at refl)) k.play)

  module _ (few : (t : ℕ) → m.declared t ≡ true → t < THREADS) where
    pends_in : (c : WordChange) → p.pending ≡ Some c → pending s w ≡ Some c
    pends_in c is = ap pending_by at ∙ is

    -- a worker blocks a word as it has pending
    pub block_kept : (t : ℕ) → p.pending ≡ Some (Block t) → IsKeptState m orders (afterwards m orders s k w p at (calm p) s.locks (set s.words t Blocked) s.ticket s.now s.values s.history)
    block_kept t is = stores_on t Blocked (Block t) is (few t (k.agreement.shared.changes w (Block t) (pends_in (Block t) is)).0) (blocking_agrees m (shared_of m s k.agreement.history) w t k.agreement.shared (pends_in (Block t) is))

    -- a worker points a word as it has pending
    pub point_kept : (t l : ℕ) → p.pending ≡ Some (Point t l) → IsKeptState m orders (afterwards m orders s k w p at (calm p) s.locks (set s.words t (Lock l)) s.ticket s.now s.values s.history)
    point_kept t l is = stores_on t (Lock l) (Point t l) is (few t (k.agreement.shared.changes w (Point t l) (pends_in (Point t l) is)).0) (pointing_agrees m (shared_of m s k.agreement.history) w t l k.agreement.shared (pends_in (Point t l) is))
