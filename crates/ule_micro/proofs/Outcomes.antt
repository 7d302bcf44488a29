-- What a turn comes to: a step, a lost take, a blocked read, or the end of the worker's program.
use Rattle.std.proofs.Common.{◌≡◌, ℕ, true, List, length, refl, sym, ap, subst, true≢false, length-set}
use Rattle.std.specs.Prelude.{Option, Some, None, slice_get}
use Rattle.ule_micro.specs.declared.entry.HeldLocks.{HeldLocks}
use Rattle.ule_micro.specs.declared.entry.HeldLocks.TheVariants.{One, Two}
use Rattle.ule_micro.specs.declared.seat.Phase.{Phase}
use Rattle.ule_micro.specs.declared.seat.Phase.TheVariants as phase
use Rattle.ule_micro.specs.declared.seat.Progress.{Progress}
use Rattle.ule_micro.specs.declared.seat.Progress.TheVariants as progress
use Rattle.ule_micro.specs.declared.seat.Seat.{Seat}
use Rattle.ule_micro.specs.declared.turn.StepDone.{StepDone}
use Rattle.ule_micro.specs.declared.turn.Turn.{Turn}
use Rattle.ule_micro.specs.declared.turn.Turn.TheVariants as turn
use Rattle.ule_micro.specs.declared.word.Word.{Word}
use Rattle.ule_micro.specs.declared.word.Word.TheVariants.{Lock, Blocked}
use Rattle.ule_micro.specs.declared.word.WordChange.{WordChange}
use Rattle.ule_micro.specs.declared.word.WordChange.TheVariants.{Block, Point}
use Rattle.ule_micro.specs.Means.{Means, Needs, one, both, lock_of}
use Rattle.ule_micro.specs.Standings.{Acted}
use Rattle.ule_micro.specs.Histories.{effect_under}
use Rattle.ule_micro.specs.States.{State, lock_holder, took, word_of}
use Rattle.ule_micro.specs.Theorem.{IsNoStep}
use Rattle.ule_micro.specs.Turns.{approach, commit, first_read, leave, open_event, step_of, take, turn_by, turn_of_worker}
use Rattle.ule_micro.proofs.Among.{among_one}

-- waits for: a worker that stands here holds no lock, or the first of two whose second is this
abbrev pub WaitsFor : {E R : Type 0} → Phase E R → ℕ → Type 0
WaitsFor {E} {R} f l = (k : ℕ) → took f k ≡ true → (e : E) × (f ≡ phase.Event e (progress.Half k l))

module _ {H O G E R C : Type 0} (m : Means H O G E R C) (orders : ℕ → List C) (s : State O G E R) (w : ℕ) (p : Seat O E R) where
  -- outcome: what the turn of a worker that stands here comes to
  pub data Outcome (f : Phase E R) : Turn × State O G E R → Type 0 where
    moved : (d : StepDone) (after : State O G E R) → length after.seats ≡ length s.seats → Outcome f (turn.Moved d, after)
    lost : (l v : ℕ) → lock_holder s l ≡ Some v → WaitsFor f l → Outcome f (turn.Lost l v, s)
    blocked : (e : E) (t : ℕ) → f ≡ phase.Event e progress.Open → m.needs e ≡ lock_of t → word_of s t ≡ Blocked → Outcome f (turn.Blocked t, s)
    ended : f ≡ phase.Finished → Outcome f (turn.Finished, s)
    undone : (e : E) (held : HeldLocks) (now : ℕ) → f ≡ phase.Event e (progress.Timed held now) → effect_under m w e now (m.hand p.own) held s.values ≡ None → Outcome f (turn.Finished, s)

  take_outcome : (f there : Phase E R) (l : ℕ) (o : Option ℕ) → lock_holder s l ≡ o → WaitsFor f l → Outcome f (take s w p l there o)
  take_outcome f there l None is waits = moved _ _ (length-set s.seats w _)
  take_outcome f there l (Some v) is waits = lost l v is waits

  read_outcome : (e : E) (t : ℕ) (x : Word) → m.needs e ≡ lock_of t → word_of s t ≡ x → Outcome (phase.Event e progress.Open) (first_read s w p e t x)
  read_outcome e t (Lock l) needs is = moved _ _ (length-set s.seats w _)
  read_outcome e t Blocked needs is = blocked e t refl needs is

  open_outcome : (e : E) (n : Needs) → m.needs e ≡ n → Outcome (phase.Event e progress.Open) (open_event m s w p e n)
  open_outcome e (one a) needs = take_outcome (phase.Event e progress.Open) _ a (lock_holder s a) refl (λ k took_it. absurd (true≢false (sym took_it)))
  open_outcome e (both a b) needs = take_outcome (phase.Event e progress.Open) _ a (lock_holder s a) refl (λ k took_it. absurd (true≢false (sym took_it)))
  open_outcome e (lock_of t) needs = read_outcome e t (word_of s t) needs refl

  commit_outcome : (e : E) (held : HeldLocks) (now : ℕ) (o : Option (Acted H G R)) → effect_under m w e now (m.hand p.own) held s.values ≡ o
      → Outcome (phase.Event e (progress.Timed held now)) (commit m s w p e held now o)
  commit_outcome e held now None is = undone e held now refl is
  commit_outcome e held now (Some after) is = moved _ _ (length-set s.seats w _)

  approach_outcome : (e : E) (way : Progress) → Outcome (phase.Event e way) (approach m s w p e way)
  approach_outcome e progress.Open = open_outcome e (m.needs e) refl
  approach_outcome e (progress.Named t l) = take_outcome (phase.Event e (progress.Named t l)) _ l (lock_holder s l) refl (λ k took_it. absurd (true≢false (sym took_it)))
  approach_outcome e (progress.Taken t l) = moved _ _ (length-set s.seats w _)
  approach_outcome e (progress.Stale l) = moved _ _ (length-set s.seats w _)
  approach_outcome e (progress.Half a b) = take_outcome (phase.Event e (progress.Half a b)) _ b (lock_holder s b) refl (λ k took_it. (e, ap (λ i. phase.Event e (progress.Half i b)) (sym (among_one a k took_it))))
  approach_outcome e (progress.Locked held) = moved _ _ (length-set s.seats w _)
  approach_outcome e (progress.Timed held now) = commit_outcome e held now (effect_under m w e now (m.hand p.own) held s.values) refl

  leave_outcome : (reply : R) (now : ℕ) (held : HeldLocks) (o : Option WordChange) → Outcome (phase.Leaving reply now held) (leave m orders s w p reply now held o)
  leave_outcome reply now held (Some (Block t)) = moved _ _ (length-set s.seats w _)
  leave_outcome reply now held (Some (Point t l)) = moved _ _ (length-set s.seats w _)
  leave_outcome reply now (One a) None = moved _ _ (length-set s.seats w _)
  leave_outcome reply now (Two a b) None = moved _ _ (length-set s.seats w _)

  step_outcome : (f : Phase E R) → Outcome f (step_of m orders s w p f)
  step_outcome phase.Finished = ended refl
  step_outcome (phase.Advance n) = moved _ _ (length-set s.seats w _)
  step_outcome (phase.Event e way) = approach_outcome e way
  step_outcome (phase.Leaving reply now held) = leave_outcome reply now held p.pending

  -- what the turn of the worker comes to
  pub turn_outcome : slice_get s.seats w ≡ Some p → Outcome p.phase (turn_of_worker m orders s w)
  turn_outcome at = subst (λ o. Outcome p.phase (turn_by m orders s w o)) (sym at) (step_outcome p.phase)

  outcome_many : (f : Phase E R) (r : Turn × State O G E R) → Outcome f r → length r.1.seats ≡ length s.seats
  outcome_many f r (moved d after many) = many
  outcome_many f r (lost l v is waits) = refl
  outcome_many f r (blocked e t here needs is) = refl
  outcome_many f r (ended here) = refl
  outcome_many f r (undone e held now here is) = refl

  outcome_unmoved : (f : Phase E R) (r : Turn × State O G E R) → Outcome f r → IsNoStep r.0 → r.1 ≡ s
  outcome_unmoved f r (moved d after many) none = absurd none
  outcome_unmoved f r (lost l v is waits) none = refl
  outcome_unmoved f r (blocked e t here needs is) none = refl
  outcome_unmoved f r (ended here) none = refl
  outcome_unmoved f r (undone e held now here is) none = refl

module _ {H O G E R C : Type 0} (m : Means H O G E R C) (orders : ℕ → List C) (s : State O G E R) (w : ℕ) where
  -- a turn leaves as many workers
  pub same_workers : length (turn_of_worker m orders s w).1.seats ≡ length s.seats
  same_workers = by (slice_get s.seats w) where
    by : (o : Option (Seat O E R)) → length (turn_by m orders s w o).1.seats ≡ length s.seats
    by None = refl
    by (Some p) = outcome_many m orders s w p p.phase (step_of m orders s w p p.phase) (step_outcome m orders s w p p.phase)

  -- a turn that is no step changes nothing
  pub unmoved : IsNoStep (turn_of_worker m orders s w).0 → (turn_of_worker m orders s w).1 ≡ s
  unmoved none = by (slice_get s.seats w) none where
    by : (o : Option (Seat O E R)) → IsNoStep (turn_by m orders s w o).0 → (turn_by m orders s w o).1 ≡ s
    by None none = refl
    by (Some p) none = outcome_unmoved m orders s w p p.phase (step_of m orders s w p p.phase) (step_outcome m orders s w p p.phase) none
