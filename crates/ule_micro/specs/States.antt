-- The state of the step model: the lock words, the threads' words, the ticket, now, the values under the locks, the workers and the history.
use Rattle.std.specs.Prelude.{◌≡◌, ℕ, ◌-◌, ◌==◌, Bool, false, List, map, Option, Some, None, slice_get, slice_index_or}
use Rattle.ule_micro.specs.declared.entry.Entry.{Entry}
use Rattle.ule_micro.specs.declared.seat.Phase.{Phase}
use Rattle.ule_micro.specs.declared.seat.Phase.TheVariants as phase
use Rattle.ule_micro.specs.declared.seat.Progress.{Progress}
use Rattle.ule_micro.specs.declared.seat.Progress.TheVariants as progress
use Rattle.ule_micro.specs.declared.seat.Seat.{Seat}
use Rattle.ule_micro.specs.declared.todo.Todo.TheVariants as todo
use Rattle.ule_micro.specs.declared.word.Word.{Word}
use Rattle.ule_micro.specs.declared.word.Word.TheVariants.{Lock}
use Rattle.ule_micro.specs.declared.word.WordChange.{WordChange}
use Rattle.ule_micro.specs.Means.{Means}
use Rattle.ule_micro.specs.Histories.{is_lock_among}
use Rattle.ule_micro.specs.Shared.{Shared, Stamped, TimeRead}
use Rattle.ule_micro.specs.Courses.{WorkerCourse}
use Rattle.ule_micro.specs.Standings.{Standing, asks, has, rests}
use Rattle.ule_micro.specs.declared.locks.TheConstants.{LIMBO}

-- state: a step state, with the newest entry of its history first
pub record State (O G E R : Type 0) : Type 0 where
  pub locks : List (Option ℕ)
  pub words : List Word
  pub ticket : ℕ
  pub now : ℕ
  pub values : List G
  pub seats : List (Seat O E R)
  pub history : List (Entry E R)

-- took on the way: whether a worker at this point of its event took the lock and did not give it back
abbrev pub took_on_the_way : Progress → ℕ → Bool
took_on_the_way progress.Open l = false
took_on_the_way (progress.Named t a) l = false
took_on_the_way (progress.Taken t a) l = a == l
took_on_the_way (progress.Stale a) l = a == l
took_on_the_way (progress.Half a b) l = a == l
took_on_the_way (progress.Locked held) l = is_lock_among held l
took_on_the_way (progress.Timed held now) l = is_lock_among held l

-- read on the way: the time that a worker at this point of its event read under its locks
abbrev pub read_on_the_way : Progress → Option TimeRead
read_on_the_way progress.Open = None
read_on_the_way (progress.Named t l) = None
read_on_the_way (progress.Taken t l) = None
read_on_the_way (progress.Stale l) = None
read_on_the_way (progress.Half a b) = None
read_on_the_way (progress.Locked held) = None
read_on_the_way (progress.Timed held now) = Some (record { locks = held; now = now })

module _ {E R : Type 0} where
  -- took: whether a worker that stands here took the lock for its present item and did not give it back
  abbrev pub took : Phase E R → ℕ → Bool
  took phase.Finished l = false
  took (phase.Advance k) l = false
  took (phase.Event e way) l = took_on_the_way way l
  took (phase.Leaving reply now held) l = is_lock_among held l

  -- read in: the time that a worker that stands here read under its locks and did not use yet
  abbrev pub read_in : Phase E R → Option TimeRead
  read_in phase.Finished = None
  read_in (phase.Advance k) = None
  read_in (phase.Event e way) = read_on_the_way way
  read_in (phase.Leaving reply now held) = None

  -- standing of phase: where a worker stands in its program
  abbrev pub standing_of_phase : Phase E R → Standing E R
  standing_of_phase phase.Finished = rests
  standing_of_phase (phase.Advance k) = has (todo.Advance k)
  standing_of_phase (phase.Event e way) = has (todo.Event e)
  standing_of_phase (phase.Leaving reply now held) = asks (Some (reply, now))

module _ {O E R : Type 0} where
  -- course of seat: the course of a worker in its program
  abbrev pub course_of_seat : Seat O E R → WorkerCourse O E R
  course_of_seat p = record { own = p.own; begun = p.begun; items = p.items; advanced = p.advanced; standing = standing_of_phase p.phase }

  -- lock held by: whether a worker, if there is one, took the lock
  abbrev pub lock_held_by : Option (Seat O E R) → ℕ → Bool
  lock_held_by None l = false
  lock_held_by (Some p) l = took p.phase l

  -- pending by: the change that a worker, if there is one, has pending
  abbrev pub pending_by : Option (Seat O E R) → Option WordChange
  pending_by None = None
  pending_by (Some p) = p.pending

  -- read by: the time that a worker, if there is one, read and did not use yet
  abbrev pub read_by : Option (Seat O E R) → Option TimeRead
  read_by None = None
  read_by (Some p) = read_in p.phase

module _ {O G E R : Type 0} where
  -- lock holder: the worker that holds the lock, or none
  abbrev pub lock_holder : State O G E R → ℕ → Option ℕ
  lock_holder s l = slice_index_or s.locks l None

  -- word of: the thread's word, which is limbo's for a number past those that there are
  abbrev pub word_of : State O G E R → ℕ → Word
  word_of s t = slice_index_or s.words t (Lock LIMBO)

  -- holds: whether the worker took the lock and did not give it back
  abbrev pub holds : State O G E R → ℕ → ℕ → Bool
  holds s w l = lock_held_by (slice_get s.seats w) l

  -- pending: the change of a word that the worker has yet to store
  abbrev pub pending : State O G E R → ℕ → Option WordChange
  pending s w = pending_by (slice_get s.seats w)

  -- time read: the time that the worker read under its locks and did not use yet
  abbrev pub time_read : State O G E R → ℕ → Option TimeRead
  time_read s w = read_by (slice_get s.seats w)

  -- courses: where each worker stands in its program
  abbrev pub courses : State O G E R → List (WorkerCourse O E R)
  courses s = map course_of_seat s.seats

module _ {O G E R : Type 0} where
  -- is entry: the entry of this number, from 1, is of this worker at this time, with this event and reply
  abbrev pub IsEntry : State O G E R → ℕ → ℕ → ℕ → E → R → Type 0
  IsEntry s k worker now event reply = (x : Entry E R) × (slice_get s.history (s.ticket - k) ≡ Some x) × (worker ≡ x.worker) × (now ≡ x.now) × (event ≡ x.event) × (reply ≡ x.reply)

module _ {H O G E R C : Type 0} (m : Means H O G E R C) where
  -- hand of seat: what a worker has in hand
  abbrev pub hand_of_seat : Seat O E R → H
  hand_of_seat p = m.hand p.own

  -- shared of: what a state shows of what the workers share, where its history is stamped so
  abbrev pub shared_of : State O G E R → List (Stamped E R) → Shared H G E R
  shared_of s history = record {
    locks = lock_holder s;
    words = word_of s;
    ticket = s.ticket;
    now = s.now;
    values = s.values;
    hands = map hand_of_seat s.seats;
    holds = holds s;
    pending = pending s;
    read = time_read s;
    advanced = map (λ (p : Seat O E R). p.advanced) s.seats;
    history = history;
  }

-- machine: what a contract sees of the step model, which is the parts that it was started with and its state
pub record Machine (P O G E R : Type 0) : Type 0 where
  pub parts : P
  pub state : State O G E R
