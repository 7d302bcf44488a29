-- Lock agreement of a step state, and that no state is stuck.
use Rattle.std.specs.Prelude.{◌≡◌, ◌≢◌, ℕ, ◌<◌, true, List, [], length, Some, None, slice_get}
use Rattle.ule_micro.specs.declared.entry.Entry.{Entry}
use Rattle.ule_micro.specs.declared.seat.Phase.TheVariants as phase
use Rattle.ule_micro.specs.declared.seat.Progress.{Progress}
use Rattle.ule_micro.specs.declared.seat.Progress.TheVariants as progress
use Rattle.ule_micro.specs.declared.seat.Seat.{Seat}
use Rattle.ule_micro.specs.declared.turn.StepDone.{StepDone}
use Rattle.ule_micro.specs.declared.turn.Turn.{Turn}
use Rattle.ule_micro.specs.declared.turn.Turn.TheVariants as turn
use Rattle.ule_micro.specs.declared.word.Word.TheVariants.{Lock}
use Rattle.ule_micro.specs.declared.word.WordChange.{WordChange}
use Rattle.ule_micro.specs.declared.locks.TheConstants.{LOCKS, THREADS}
use Rattle.ule_micro.specs.Means.{Means, both, lock_of, stands_under}
use Rattle.ule_micro.specs.Histories.{AreLocksFor, latest_of}
use Rattle.ule_micro.specs.Courses.{LegalPlay}
use Rattle.ule_micro.specs.Laws.{IsEmpty}
use Rattle.ule_micro.specs.Shared.{Agrees, Stamped, unstamped}
use Rattle.ule_micro.specs.States.{State, courses, holds, lock_holder, pending, shared_of, word_of}
use Rattle.ule_micro.specs.Turns.{turn_of_worker, seated, next_command}

module _ {H O G E R C : Type 0} (m : Means H O G E R C) where
  -- has what it needs: a worker on the way names, took or holds the locks that its event needs, and once it holds all of them a sought thread stands under its lock
  abbrev pub HasWhatItNeeds : State O G E R → E → Progress → Type 0
  HasWhatItNeeds s e progress.Open = Unit {0}
  HasWhatItNeeds s e (progress.Named t l) = (m.needs e ≡ lock_of t) × (l < LOCKS)
  HasWhatItNeeds s e (progress.Taken t l) = m.needs e ≡ lock_of t
  HasWhatItNeeds s e (progress.Stale l) = Unit {0}
  HasWhatItNeeds s e (progress.Half a b) = m.needs e ≡ both a b
  HasWhatItNeeds s e (progress.Locked held) = AreLocksFor m s.values held (m.needs e)
  HasWhatItNeeds s e (progress.Timed held now) = AreLocksFor m s.values held (m.needs e)

  -- word tells place: where a worker holds a lock, has no change pending, and that lock stands in a thread's word, the thread stands under the lock
  abbrev pub WordTellsPlace : State O G E R → Type 0
  WordTellsPlace s = (w t l : ℕ) → m.declared t ≡ true → holds s w l ≡ true → pending s w ≡ None → word_of s t ≡ Lock l → stands_under m s.values l t ≡ true

  -- with these commands of the workers
  module _ (orders : ℕ → List C) where
    -- is at rest: a worker's list of commands is at its end, and the worker holds no lock, has no change pending, and has no thread in hand
    pub record IsAtRest (s : State O G E R) (w : ℕ) (p : Seat O E R) : Type 0 where
      pub ended : slice_get (orders w) p.begun ≡ None
      pub free : (l : ℕ) → lock_holder s l ≢ Some w
      pub calm : p.pending ≡ None
      pub empty : IsEmpty m (m.hand p.own)

    -- worker agrees: what a worker has agrees with where it stands in its item
    pub record WorkerAgrees (s : State O G E R) (w : ℕ) (p : Seat O E R) : Type 0 where
      -- a worker with a change pending is leaving its last entry, under every lock of it
      pub leaving : (c : WordChange) → p.pending ≡ Some c → (x : Entry E R) × (latest_of w s.history ≡ Some x) × (p.phase ≡ phase.Leaving x.reply x.now x.locks)
      -- a worker on the way to its commit holds the locks that its event needs, and a thread that it sought stands under the lock
      pub way : (e : E) (way : Progress) → p.phase ≡ phase.Event e way → HasWhatItNeeds s e way
      -- a finished worker has no further command, holds no lock, has no change pending, and has no thread in hand
      pub finished : p.phase ≡ phase.Finished → IsAtRest s w p

    -- lock agreement of a step state: a worker holds just the locks that the steps of its present item took and did not give back, and what the workers share agrees
    pub record LockAgreement (s : State O G E R) : Type 0 where
      -- the history, each entry stamped with an amount that its time is behind the start by at least; the legal play tells what its worker had advanced
      pub history : List (Stamped E R)
      pub same_entries : unstamped history ≡ s.history
      pub shared : Agrees m (shared_of m s history)
      pub workers : (w : ℕ) (p : Seat O E R) → slice_get s.seats w ≡ Some p → WorkerAgrees s w p

    -- has legal play: the play so far is a legal play of the workers' programs, in which each entry keeps the three rules of time
    abbrev pub HasLegalPlay : State O G E R → Type 0
    HasLegalPlay s = LegalPlay m orders s.history s.values (courses s)

    -- steps next: the worker's next turn is a step
    abbrev pub StepsNext : State O G E R → ℕ → Type 0
    StepsNext s w = (done : StepDone) × ((turn_of_worker m orders s w).0 ≡ turn.Moved done)

    -- is not stuck: where some worker is unfinished, the next turn of some worker is a step
    abbrev pub IsNotStuck : State O G E R → Type 0
    IsNotStuck s = (w : ℕ) (p : Seat O E R) → slice_get s.seats w ≡ Some p → p.phase ≢ phase.Finished → (v : ℕ) × (v < length s.seats) × StepsNext s v

    -- is start: a state at the start, where all locks are free, each word names the lock of its thread's place, and each worker has the first item of its program
    pub record IsStart (s : State O G E R) : Type 0 where
      pub locks : (l : ℕ) → lock_holder s l ≡ None
      pub words : (t : ℕ) → t < THREADS → word_of s t ≡ Lock (m.word t)
      pub ticket : s.ticket ≡ 0
      pub now : s.now ≡ 20000
      pub values : s.values ≡ m.values
      pub history : s.history ≡ []
      pub workers : length s.seats ≡ length m.owns
      pub seats : (w : ℕ) (o : O) → slice_get m.owns w ≡ Some o → slice_get s.seats w ≡ Some (seated m (next_command m o 0 (orders w)) 0 0)

-- is no step: a turn that was no step, so the lock was held, the word was blocked, or the program was at its end
abbrev pub IsNoStep : Turn → Type 0
IsNoStep (turn.Moved done) = ⊥
IsNoStep (turn.Lost lock holder) = Unit {0}
IsNoStep (turn.Blocked thread) = Unit {0}
IsNoStep turn.Finished = Unit {0}
