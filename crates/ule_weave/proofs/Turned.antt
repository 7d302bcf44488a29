-- What a turn tells and leaves: an entry that it is said to have made is there, and its lines stand before those to come.
use Rattle.std.proofs.Common.{◌≡◌, ℕ, ◌+◌, ◌≤◌, ◌<◌, List, ◌∷◌, ◌++◌, Option, Some, None, ap, ◌∙◌, arith}
use Rattle.std.specs.Prelude.{slice_get}
use Rattle.std.proofs.lemmas.List.Concat.{flat_map-append}
use Rattle.ule_micro.specs.declared.entry.HeldLocks.{HeldLocks}
use Rattle.ule_micro.specs.declared.entry.HeldLocks.TheVariants.{One, Two}
use Rattle.ule_micro.specs.declared.seat.Phase.{Phase}
use Rattle.ule_micro.specs.declared.seat.Phase.TheVariants as phase
use Rattle.ule_micro.specs.declared.seat.Progress.{Progress}
use Rattle.ule_micro.specs.declared.seat.Progress.TheVariants as progress
use Rattle.ule_micro.specs.declared.seat.Seat.{Seat}
use Rattle.ule_micro.specs.declared.turn.StepDone.TheVariants as done
use Rattle.ule_micro.specs.declared.turn.Turn.{Turn}
use Rattle.ule_micro.specs.declared.turn.Turn.TheVariants as turn
use Rattle.ule_micro.specs.declared.word.Word.{Word}
use Rattle.ule_micro.specs.declared.word.Word.TheVariants.{Lock, Blocked}
use Rattle.ule_micro.specs.declared.word.WordChange.{WordChange}
use Rattle.ule_micro.specs.declared.word.WordChange.TheVariants.{Block, Point}
use Rattle.ule_micro.specs.Histories.{effect_under}
use Rattle.ule_micro.specs.Means.{Means, Needs, one, both, lock_of}
use Rattle.ule_micro.specs.Standings.{Acted}
use Rattle.ule_micro.specs.States.{State, lock_holder, word_of}
use Rattle.ule_micro.specs.Turns.{approach, commit, first_read, leave, open_event, store, step_of, take, turn_by, turn_of_worker}
use Rattle.ule_trace.specs.Line.{line_text, lines_text}
use Rattle.ule_types.specs.declared.setup.Setup.{Setup}
use Rattle.ule_weave.specs.WeaveText.{SchedState, lines_after, turn_lines, turned}

-- ---- the entry of a commit

module _ {O G E R : Type 0} where
  -- tells its entry: a turn that is said to have made an entry made the last one
  abbrev pub TellsItsEntry : Turn × State O G E R → Type 0
  TellsItsEntry t = (k : ℕ) → t.0 ≡ turn.Moved (done.Commit k) → (0 < k) × (k ≤ t.1.ticket)

  take_tells : (s : State O G E R) (w : ℕ) (p : Seat O E R) (l : ℕ) (there : Phase E R) (o : Option ℕ) → TellsItsEntry (take s w p l there o)
  take_tells s w p l there None k e = absurd (cc)
  take_tells s w p l there (Some h) k e = absurd (cc)

  read_tells : (s : State O G E R) (w : ℕ) (p : Seat O E R) (a : E) (t : ℕ) (word : Word) → TellsItsEntry (first_read s w p a t word)
  read_tells s w p a t (Lock l) k e = absurd (cc)
  read_tells s w p a t Blocked k e = absurd (cc)

  store_tells : (s : State O G E R) (w : ℕ) (p : Seat O E R) (change : WordChange) → TellsItsEntry (store s w p change)
  store_tells s w p (Block t) k e = absurd (cc)
  store_tells s w p (Point t l) k e = absurd (cc)

module _ {H O G E R C : Type 0} (m : Means H O G E R C) (orders : ℕ → List C) where
  commit_tells : (s : State O G E R) (w : ℕ) (p : Seat O E R) (a : E) (held : HeldLocks) (now : ℕ) (o : Option (Acted H G R)) → TellsItsEntry (commit m s w p a held now o)
  commit_tells s w p a held now None k e = absurd (cc)
  commit_tells s w p a held now (Some after) k e = let is : s.ticket + 1 ≡ k = cc in (omega arith, omega arith)

  open_tells : (s : State O G E R) (w : ℕ) (p : Seat O E R) (a : E) (needs : Needs) → TellsItsEntry (open_event m s w p a needs)
  open_tells s w p a (one l) k e = take_tells s w p l (phase.Event a (progress.Locked (One l))) (lock_holder s l) k e
  open_tells s w p a (both l n) k e = take_tells s w p l (phase.Event a (progress.Half l n)) (lock_holder s l) k e
  open_tells s w p a (lock_of t) k e = read_tells s w p a t (word_of s t) k e

  approach_tells : (s : State O G E R) (w : ℕ) (p : Seat O E R) (a : E) (way : Progress) → TellsItsEntry (approach m s w p a way)
  approach_tells s w p a progress.Open k e = open_tells s w p a (m.needs a) k e
  approach_tells s w p a (progress.Named t l) k e = take_tells s w p l (phase.Event a (progress.Taken t l)) (lock_holder s l) k e
  approach_tells s w p a (progress.Taken t l) k e = absurd (cc)
  approach_tells s w p a (progress.Stale l) k e = absurd (cc)
  approach_tells s w p a (progress.Half l n) k e = take_tells s w p n (phase.Event a (progress.Locked (Two l n))) (lock_holder s n) k e
  approach_tells s w p a (progress.Locked held) k e = absurd (cc)
  approach_tells s w p a (progress.Timed held now) k e = commit_tells s w p a held now (effect_under m w a now (m.hand p.own) held s.values) k e

  leave_tells : (s : State O G E R) (w : ℕ) (p : Seat O E R) (reply : R) (now : ℕ) (held : HeldLocks) (o : Option WordChange) → TellsItsEntry (leave m orders s w p reply now held o)
  leave_tells s w p reply now held (Some change) k e = store_tells s w p change k e
  leave_tells s w p reply now (One l) None k e = absurd (cc)
  leave_tells s w p reply now (Two l n) None k e = absurd (cc)

  step_tells : (s : State O G E R) (w : ℕ) (p : Seat O E R) (at : Phase E R) → TellsItsEntry (step_of m orders s w p at)
  step_tells s w p phase.Finished k e = absurd (cc)
  step_tells s w p (phase.Advance n) k e = absurd (cc)
  step_tells s w p (phase.Event a way) k e = approach_tells s w p a way k e
  step_tells s w p (phase.Leaving reply now held) k e = leave_tells s w p reply now held p.pending k e

  by_tells : (s : State O G E R) (w : ℕ) (o : Option (Seat O E R)) → TellsItsEntry (turn_by m orders s w o)
  by_tells s w None k e = absurd (cc)
  by_tells s w (Some p) k e = step_tells s w p p.phase k e

  -- so does each turn
  pub turn_tells : (s : State O G E R) (w : ℕ) → TellsItsEntry (turn_of_worker m orders s w)
  turn_tells s w = by_tells s w (slice_get s.seats w)

-- ---- the lines of a turn

-- lines behind lines
pub lines-append : (xs ys : List (List (List ℕ))) → lines_text (xs ++ ys) ≡ lines_text xs ++ lines_text ys
lines-append xs ys = flat_map-append line_text xs ys

-- the lines of a turn stand before those to come
pub lines_turned : (s : Setup) (k : ℕ) (x next : SchedState) (w : ℕ) (ws : List ℕ) (did : Turn) → (turned s x w).0 ≡ did → (turned s x w).1 ≡ next
    → lines_text (lines_after s k x (w ∷ ws)) ≡ lines_text (turn_lines s (k + 1) w did next) ++ lines_text (lines_after s (k + 1) next ws)
lines_turned s k x next w ws did e f =
    lines-append (turn_lines s (k + 1) w (turned s x w).0 (turned s x w).1) (lines_after s (k + 1) (turned s x w).1 ws) ∙
    (ap (λ d. lines_text (turn_lines s (k + 1) w d (turned s x w).1) ++ lines_text (lines_after s (k + 1) (turned s x w).1 ws)) e ∙
    ap (λ y. lines_text (turn_lines s (k + 1) w did y) ++ lines_text (lines_after s (k + 1) y ws)) f)
