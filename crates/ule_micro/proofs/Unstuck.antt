-- No state is stuck: where some worker is unfinished, the next turn of some worker is a step.
use Rattle.std.proofs.Common.{◌≡◌, ◌≢◌, ◌⊎◌, ℕ, zero, suc, ◌≤◌, ◌<◌, Bool, true, false, List, length, map, sym, refl, ap, ◌∙◌, subst, inl, inr, ⊎_elim, arith, true≢false}
use Rattle.std.specs.Prelude.{Option, Some, None, slice_get}
use Rattle.std.proofs.lemmas.Option.{none-some}
use mathlib.Core.Logic.{dite}
use native.Mathlib.Decide.{ℕ_discrete}
use Rattle.ule_micro.specs.declared.entry.Entry.{Entry}
use Rattle.ule_micro.specs.declared.entry.HeldLocks.{HeldLocks}
use Rattle.ule_micro.specs.declared.locks.TheConstants.{LOCKS}
use Rattle.ule_micro.specs.declared.seat.Phase.TheVariants as phase
use Rattle.ule_micro.specs.declared.seat.Progress.TheVariants as progress
use Rattle.ule_micro.specs.declared.seat.Seat.{Seat}
use Rattle.ule_micro.specs.declared.todo.Todo.TheVariants.{Event}
use Rattle.ule_micro.specs.declared.turn.StepDone.{StepDone}
use Rattle.ule_micro.specs.declared.turn.Turn.{Turn}
use Rattle.ule_micro.specs.declared.turn.Turn.TheVariants as turn
use Rattle.ule_micro.specs.declared.word.Word.TheVariants.{Blocked}
use Rattle.ule_micro.specs.declared.word.WordChange.{WordChange}
use Rattle.ule_micro.specs.declared.word.WordChange.TheVariants.{Point}
use Rattle.ule_micro.specs.Standings.{has}
use Rattle.ule_micro.specs.Means.{Means, carried_by, lock_of, stands_under}
use Rattle.ule_micro.specs.Histories.{effect_under, own_entries, values_under}
use Rattle.ule_micro.specs.Laws.{AreOrders, AreRising, IsLawful}
use Rattle.ule_micro.specs.Agreement.{Place, IsThere, WordAgrees, under, in_hand}
use Rattle.ule_micro.specs.States.{State, lock_holder, word_of, holds, lock_held_by, pending, pending_by, course_of_seat, hand_of_seat, took, standing_of_phase}
use Rattle.ule_micro.specs.Turns.{turn_of_worker}
use Rattle.ule_micro.specs.Theorem.{StepsNext, IsNotStuck}
use Rattle.ule_micro.specs.Kept.{IsKeptState}
use Rattle.ule_micro.proofs.Lists.{map_get, there}
use Rattle.ule_micro.proofs.Seats.{seat_course_at, held_low}
use Rattle.ule_micro.proofs.Threads.{lock_not_blocked}
use Rattle.ule_micro.proofs.Among.{first_among}
use Rattle.ule_micro.proofs.Courses.{asked_for}
use Rattle.ule_micro.proofs.Effects.{effect_is, guarded_there}
use Rattle.ule_micro.proofs.Outcomes.{Outcome, moved, lost, blocked, ended, undone, turn_outcome}
use Rattle.ule_micro.proofs.Turning.{rises_at, sought_declared}

module _ {A : Type 0} where
  -- an option is there or not
  pub there_or_not : (o : Option A) → (o ≡ None) ⊎ ((a : A) × (o ≡ Some a))
  there_or_not None = inl refl
  there_or_not (Some a) = inr (a, refl)

module _ {H O G E R C : Type 0} (m : Means H O G E R C) (orders : ℕ → List C) (laws : IsLawful m) (lists : AreOrders m orders) (s : State O G E R) (k : IsKeptState m orders s) where
  -- finds blocked: the first read of the worker's event finds the word of the thread that it seeks blocked
  abbrev FindsBlocked : Seat O E R → Type 0
  FindsBlocked p = (e : E) × (t : ℕ) × (p.phase ≡ phase.Event e progress.Open) × (m.needs e ≡ lock_of t) × (word_of s t ≡ Blocked)

  module _ (w : ℕ) (p : Seat O E R) (at : slice_get s.seats w ≡ Some p) where
    -- an event whose time was read has an effect
    not_undone : (e : E) (held : HeldLocks) (now : ℕ) → p.phase ≡ phase.Event e (progress.Timed held now) → effect_under m w e now (m.hand p.own) held s.values ≡ None → ⊥
    not_undone e held now here none = none-some _ (sym none ∙ effect_is m w e now (m.hand p.own) held s.values g.0 g.1) where
      g : (guarded : List G) × (values_under held s.values ≡ Some guarded)
      g = guarded_there m s.values held (m.needs e) k.agreement.shared.values (rises_at m orders s k w p at laws lists e (progress.Timed held now) here) ((k.agreement.workers w p at).way e (progress.Timed held now) here)

    -- a worker that holds a lock moves, where none above it is held
    pub holder_moves : (l : ℕ) → ((b v : ℕ) → l < b → lock_holder s b ≡ Some v → ⊥) → took p.phase l ≡ true → StepsNext m orders s w
    holder_moves l above took_it = by (turn_of_worker m orders s w) (turn_outcome m orders s w p at) where
      by : (r : Turn × State O G E R) → Outcome m orders s w p p.phase r → (d : StepDone) × (r.0 ≡ turn.Moved d)
      by r (moved d after many) = (d, refl)
      by r (lost b v is waits) = let z = waits l took_it in let needs = (k.agreement.workers w p at).way z.0 (progress.Half l b) z.1 in
          let low = subst AreRising needs (rises_at m orders s k w p at laws lists z.0 (progress.Half l b) z.1) in absurd (above b v low.0 is)
      by r (blocked e t here needs is) = absurd (true≢false (sym took_it ∙ ap (λ f. took f l) here))
      by r (ended here) = absurd (true≢false (sym took_it ∙ ap (λ f. took f l) here))
      by r (undone e held now here none) = absurd (not_undone e held now here none)

    -- where no lock is held, an unfinished worker moves, or finds the word of a thread that it seeks blocked
    pub free_moves : ((b : ℕ) → lock_holder s b ≡ None) → p.phase ≢ phase.Finished
        → StepsNext m orders s w ⊎ FindsBlocked p
    free_moves free unfinished = by (turn_of_worker m orders s w) (turn_outcome m orders s w p at) where
      by : (r : Turn × State O G E R) → Outcome m orders s w p p.phase r
          → ((d : StepDone) × (r.0 ≡ turn.Moved d)) ⊎ FindsBlocked p
      by r (moved d after many) = inl (d, refl)
      by r (lost b v is waits) = absurd (none-some v (sym (free b) ∙ is))
      by r (blocked e t here needs is) = inr (e, t, here, needs, is)
      by r (ended here) = absurd (unfinished here)
      by r (undone e held now here none) = absurd (not_undone e held now here none)

    -- a worker with a change pending moves
    pub pending_moves : (c : WordChange) → p.pending ≡ Some c → StepsNext m orders s w
    pending_moves c is = let z = (k.agreement.workers w p at).leaving c is in by z.0 z.2 (turn_of_worker m orders s w) (turn_outcome m orders s w p at) where
      by : (x : Entry E R) → p.phase ≡ phase.Leaving x.reply x.now x.locks → (r : Turn × State O G E R) → Outcome m orders s w p p.phase r → (d : StepDone) × (r.0 ≡ turn.Moved d)
      by x here r (moved d after many) = (d, refl)
      by x here r (lost b v held waits) = absurd (let l = first_among x.locks in let z = waits l.0 (ap (λ f. took f l.0) here ∙ l.1) in
          let y : phase.Leaving x.reply x.now x.locks ≡ phase.Event z.0 (progress.Half l.0 b) = sym here ∙ z.1 in cc)
      by x here r (blocked e t this needs word) = absurd (let y : phase.Leaving x.reply x.now x.locks ≡ phase.Event e progress.Open = sym here ∙ this in cc)
      by x here r (ended this) = absurd (let y : phase.Leaving x.reply x.now x.locks ≡ phase.Finished = sym here ∙ this in cc)
      by x here r (undone e held now this none) = absurd (not_undone e held now this none)

    -- a worker whose turn says that it is finished stands at the end of its program
    pub ends_there : (turn_of_worker m orders s w).0 ≡ turn.Finished → p.phase ≡ phase.Finished
    ends_there = by (turn_of_worker m orders s w) (turn_outcome m orders s w p at) where
      by : (r : Turn × State O G E R) → Outcome m orders s w p p.phase r → r.0 ≡ turn.Finished → p.phase ≡ phase.Finished
      by r (moved d after many) is = absurd (cc)
      by r (lost b v held waits) is = absurd (cc)
      by r (blocked e t here needs word) is = absurd (cc)
      by r (ended here) is = here
      by r (undone e held now here none) is = absurd (not_undone e held now here none)

  -- some held lock below n has no held lock above it below n, or none below n is held
  highest : (n : ℕ) → ((b v : ℕ) → n ≤ b → lock_holder s b ≡ Some v → ⊥)
      → ((l : ℕ) × (w : ℕ) × (lock_holder s l ≡ Some w) × ((b v : ℕ) → l < b → lock_holder s b ≡ Some v → ⊥)) ⊎ ((b : ℕ) → lock_holder s b ≡ None)
  highest zero above = inr (λ b. ⊎_elim (λ e. e) (λ (z : (v : ℕ) × (lock_holder s b ≡ Some v)). absurd (above b z.0 (omega arith) z.1)) (there_or_not (lock_holder s b)))
  highest (suc n) above = by (there_or_not (lock_holder s n)) (λ none. highest n (λ b v h is. dite (ℕ_discrete b n) (λ z. none-some v (sym none ∙ (ap (lock_holder s) (sym z) ∙ is))) (λ far. above b v (omega arith) is))) where
    by : ((lock_holder s n ≡ None) ⊎ ((v : ℕ) × (lock_holder s n ≡ Some v)))
        → (lock_holder s n ≡ None → ((l : ℕ) × (w : ℕ) × (lock_holder s l ≡ Some w) × ((b v : ℕ) → l < b → lock_holder s b ≡ Some v → ⊥)) ⊎ ((b : ℕ) → lock_holder s b ≡ None))
        → ((l : ℕ) × (w : ℕ) × (lock_holder s l ≡ Some w) × ((b v : ℕ) → l < b → lock_holder s b ≡ Some v → ⊥)) ⊎ ((b : ℕ) → lock_holder s b ≡ None)
    by (inl none) deeper = deeper none
    by (inr (v, is)) deeper = inl (n, v, is, λ b u h. above b u (omega arith))

  none_above : (b v : ℕ) → LOCKS ≤ b → lock_holder s b ≡ Some v → ⊥
  none_above b v h is = let z = held_low s k.agreement.shared.locks v b ((k.agreement.shared.locks b).held v is) in let c = k.locks in omega arith

  -- a worker that holds a lock is there
  holder_there : (w l : ℕ) → holds s w l ≡ true → (p : Seat O E R) × (slice_get s.seats w ≡ Some p) × (took p.phase l ≡ true)
  holder_there w l took_it = by (slice_get s.seats w) refl where
    by : (o : Option (Seat O E R)) → slice_get s.seats w ≡ o → (p : Seat O E R) × (slice_get s.seats w ≡ Some p) × (took p.phase l ≡ true)
    by None e = absurd (true≢false (sym took_it ∙ ap (λ o. lock_held_by o l) e))
    by (Some p) e = (p, e, sym (ap (λ o. lock_held_by o l) e) ∙ took_it)

  -- a worker that has a change pending, or a thread in hand, is there
  pending_there : (w : ℕ) (c : WordChange) → pending s w ≡ Some c → (p : Seat O E R) × (slice_get s.seats w ≡ Some p) × (p.pending ≡ Some c)
  pending_there w c is = by (slice_get s.seats w) refl where
    by : (o : Option (Seat O E R)) → slice_get s.seats w ≡ o → (p : Seat O E R) × (slice_get s.seats w ≡ Some p) × (p.pending ≡ Some c)
    by None e = absurd (none-some c (sym (ap pending_by e) ∙ is))
    by (Some p) e = (p, e, sym (ap pending_by e) ∙ is)

  carrier_there : (w t : ℕ) → carried_by m (map (hand_of_seat m) s.seats) w t ≡ true → (p : Seat O E R) × (slice_get s.seats w ≡ Some p) × (m.carried_in (m.hand p.own) t ≡ true)
  carrier_there w t ca = by (slice_get (map (hand_of_seat m) s.seats) w) refl where
    by : (o : Option H) → slice_get (map (hand_of_seat m) s.seats) w ≡ o → (p : Seat O E R) × (slice_get s.seats w ≡ Some p) × (m.carried_in (m.hand p.own) t ≡ true)
    by None e = absurd (true≢false (sym ca ∙ ap (λ o. elim o as (λ _. Bool) [ None ↦ false | Some h ↦ m.carried_in h t ]) e))
    by (Some h) e = let p = map_get (hand_of_seat m) s.seats w h e in (p.0, p.1, ap (λ i. m.carried_in i t) p.2 ∙ (sym (ap (λ o. elim o as (λ _. Bool) [ None ↦ false | Some h ↦ m.carried_in h t ]) e) ∙ ca))

  -- is moving: some worker moves
  abbrev pub SomeMoves : Type 0
  SomeMoves = (v : ℕ) × (v < length s.seats) × StepsNext m orders s v

  some_pending : (w : ℕ) (c : WordChange) → pending s w ≡ Some c → SomeMoves
  some_pending w c is = let z = pending_there w c is in (w, there s.seats w z.0 z.1, pending_moves w z.0 z.1 c z.2)

  asked_now : (w : ℕ) (p : Seat O E R) → slice_get s.seats w ≡ Some p → (e : E) → standing_of_phase p.phase ≡ has (Event e) → m.asks w (own_entries w s.history) (m.hand p.own) e
  asked_now w p at e is = asked_for m orders laws lists k.play w (course_of_seat p) (seat_course_at s.seats w p p at) e is

  -- a worker with a thread in hand moves where no lock is held
  carrier_moves : (free : (b : ℕ) → lock_holder s b ≡ None) (w t : ℕ) → m.declared t ≡ true → carried_by m (map (hand_of_seat m) s.seats) w t ≡ true → SomeMoves
  carrier_moves free w t dec ca = let z = carrier_there w t ca in ⊎_elim (λ moves. (w, there s.seats w z.0 z.1, moves))
      (λ (y : FindsBlocked z.0). absurd (true≢false (sym z.2 ∙ (laws.sound.seeks w (own_entries w s.history) (m.hand z.0.own) y.0 y.1 (asked_now w z.0 z.1 y.0 (ap standing_of_phase y.2)) y.3).1 t dec)))
      (free_moves w z.0 z.1 free (λ fin. true≢false (sym z.2 ∙ ((k.agreement.workers w z.0 z.1).finished fin).empty t dec)))

  -- behind a blocked word stands a worker that moves, where no lock is held
  blocked_moves : (free : (b : ℕ) → lock_holder s b ≡ None) (t : ℕ) → m.declared t ≡ true → word_of s t ≡ Blocked → SomeMoves
  blocked_moves free t dec is = by (k.agreement.shared.threads t dec).place (k.agreement.shared.threads t dec).word_agrees (k.agreement.shared.threads t dec).there where
    by : (p : Place) → WordAgrees (holds s) (pending s) t (word_of s t) p → IsThere (λ i. stands_under m s.values i t) (λ v. carried_by m (map (hand_of_seat m) s.seats) v t) p
        → SomeMoves
    by (under l) (inl (named, calm)) st = absurd (lock_not_blocked l (sym named ∙ is))
    by (under l) (inr (v, (pends, took_it, more))) st = some_pending v (Point t l) pends
    by (in_hand v) a ca = carrier_moves free v t dec ca

  -- where no lock is held, an unfinished worker moves, or one behind the blocked word that it reads
  free_some : (free : (b : ℕ) → lock_holder s b ≡ None) (w : ℕ) (p : Seat O E R) → slice_get s.seats w ≡ Some p → p.phase ≢ phase.Finished → SomeMoves
  free_some free w p at unfinished = ⊎_elim (λ moves. (w, there s.seats w p at, moves))
      (λ (y : FindsBlocked p). blocked_moves free y.1 (sought_declared m orders s k w p at laws lists y.0 progress.Open y.1 y.2 y.3) y.4) (free_moves w p at free unfinished)

  -- no state is stuck
  pub not_stuck : IsNotStuck m orders s
  not_stuck w p at unfinished = ⊎_elim
      (λ (z : (l : ℕ) × (v : ℕ) × (lock_holder s l ≡ Some v) × ((b u : ℕ) → l < b → lock_holder s b ≡ Some u → ⊥)).
      let q = holder_there z.1 z.0 ((k.agreement.shared.locks z.0).held z.1 z.2) in (z.1, there s.seats z.1 q.0 q.1, holder_moves z.1 q.0 q.1 z.0 z.3 q.2))
      (λ free. free_some free w p at unfinished)
      (highest LOCKS none_above)
