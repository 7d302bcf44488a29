-- What the step model keeps, and how its code is said to make one turn.
use Rattle.std.specs.Prelude.{◌≡◌, ℕ, ◌≤◌, List, reverse, length, Option, Some, slice_get}
use Rattle.ule_micro.specs.declared.entry.Entry.{Entry}
use Rattle.ule_micro.specs.declared.entry.HeldLocks.{HeldLocks}
use Rattle.ule_micro.specs.declared.seat.Phase.{Phase}
use Rattle.ule_micro.specs.declared.seat.Phase.TheVariants as phase
use Rattle.ule_micro.specs.declared.seat.Seat.{Seat}
use Rattle.ule_micro.specs.declared.turn.Turn.{Turn}
use Rattle.ule_micro.specs.declared.word.Word.{Word}
use Rattle.ule_micro.specs.declared.locks.TheConstants.{LOCKS, THREADS}
use Rattle.ule_micro.specs.Means.{Means}
use Rattle.ule_micro.specs.Courses.{LegalPlay}
use Rattle.ule_micro.specs.Laws.{AreInRisingOrder}
use Rattle.ule_micro.specs.States.{State, Machine, lock_holder, courses}
use Rattle.ule_micro.specs.Turns.{turn_of_worker, take, release, at}
use Rattle.ule_micro.specs.Theorem.{LockAgreement}

module _ {H O G E R C : Type 0} (m : Means H O G E R C) (orders : ℕ → List C) where
  -- is kept seat: a worker has its number, began commands of its list, and leaves two locks in falling order
  pub record IsKeptSeat (w : ℕ) (p : Seat O E R) : Type 0 where
    pub number : m.number p.own ≡ w
    pub begun : p.begun ≤ length (orders w)
    pub apart : (reply : R) (now : ℕ) (held : HeldLocks) → p.phase ≡ phase.Leaving reply now held → AreInRisingOrder held

  -- is kept state: what the state of a step model keeps, of which lock agreement is what callers see
  pub record IsKeptState (s : State O G E R) : Type 0 where
    pub locks : length s.locks ≡ LOCKS
    pub words : length s.words ≡ THREADS
    pub workers : length s.seats ≡ length m.owns
    pub seats : (w : ℕ) (p : Seat O E R) → slice_get s.seats w ≡ Some p → IsKeptSeat w p
    pub agreement : LockAgreement m orders s
    pub play : LegalPlay m orders s.history s.values (courses s)

  -- takes next: the worker's next step takes the lock, to stand there then
  abbrev pub TakesNext : State O G E R → ℕ → ℕ → Phase E R → Type 0
  TakesNext s w l there = (p : Seat O E R) × (slice_get s.seats w ≡ Some p) × (turn_of_worker m orders s w ≡ take s w p l there (lock_holder s l))

  -- releases next: the worker's next step gives the lock back, to stand there then
  abbrev pub ReleasesNext : State O G E R → ℕ → ℕ → Phase E R → Type 0
  ReleasesNext s w l there = (p : Seat O E R) × (slice_get s.seats w ≡ Some p) × (turn_of_worker m orders s w ≡ release s l w (at p there))

  -- is turned: the turn answered this and left this
  abbrev pub IsTurned : {P : Type 0} → Machine P O G E R → ℕ → Turn → Machine P O G E R → Type 0
  IsTurned old w result new = (new.parts ≡ old.parts) × ((turn_of_worker m orders old.state w).0 ≡ result) × ((turn_of_worker m orders old.state w).1 ≡ new.state)

module _ {O G E R : Type 0} where
  -- worker stands at: the worker stands there
  abbrev pub WorkerStandsAt : State O G E R → ℕ → Phase E R → Type 0
  WorkerStandsAt s w there = (p : Seat O E R) × (slice_get s.seats w ≡ Some p) × (p.phase ≡ there)

  -- machine of: what a contract sees of these fields, whose history has its oldest entry first
  abbrev pub machine_of : {P : Type 0} → P → List (Option ℕ) → List Word → ℕ → ℕ → List G → List (Seat O E R) → List (Entry E R) → Machine P O G E R
  machine_of parts locks words ticket now values seats history = record {
    parts = parts;
    state = record { locks = locks; words = words; ticket = ticket; now = now; values = values; seats = seats; history = reverse history };
  }
