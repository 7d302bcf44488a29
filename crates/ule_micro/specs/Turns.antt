-- One turn of the step model, as a function of the state: each kind of step, and which one a worker makes next.
use Rattle.std.specs.Prelude.{ℕ, ◌+◌, ◌==◌, Bool, false, List, [], ◌∷◌, drop, Option, Some, None, slice_get, slice_set, if◌then◌else◌}
use Rattle.ule_micro.specs.declared.entry.HeldLocks.{HeldLocks}
use Rattle.ule_micro.specs.declared.entry.HeldLocks.TheVariants.{One, Two}
use Rattle.ule_micro.specs.declared.seat.Phase.{Phase}
use Rattle.ule_micro.specs.declared.seat.Phase.TheVariants as phase
use Rattle.ule_micro.specs.declared.seat.Progress.{Progress}
use Rattle.ule_micro.specs.declared.seat.Progress.TheVariants as progress
use Rattle.ule_micro.specs.declared.seat.Seat.{Seat}
use Rattle.ule_micro.specs.declared.todo.Todo.{Todo}
use Rattle.ule_micro.specs.declared.todo.Todo.TheVariants as todo
use Rattle.ule_micro.specs.declared.turn.StepDone.TheVariants as done
use Rattle.ule_micro.specs.declared.turn.Turn.{Turn}
use Rattle.ule_micro.specs.declared.turn.Turn.TheVariants as turn
use Rattle.ule_micro.specs.declared.word.Word.{Word}
use Rattle.ule_micro.specs.declared.word.Word.TheVariants.{Lock, Blocked}
use Rattle.ule_micro.specs.declared.word.WordChange.{WordChange}
use Rattle.ule_micro.specs.declared.word.WordChange.TheVariants.{Block, Point}
use Rattle.ule_micro.specs.Means.{Means, Needs, one, both, lock_of}
use Rattle.ule_micro.specs.Standings.{Acted}
use Rattle.ule_micro.specs.Histories.{effect_under, entry_made}
use Rattle.ule_micro.specs.States.{State, lock_holder, word_of}

-- fetched: a worker's next item, or none at the end of its program, with its own part and the count of commands begun by then
pub record Fetched (O E : Type 0) : Type 0 where
  pub item : Option (Todo E)
  pub own : O
  pub begun : ℕ

module _ {E R : Type 0} where
  -- phase with: where a worker stands that was given this item, or none at the end of its program
  abbrev pub phase_with : Option (Todo E) → Phase E R
  phase_with None = phase.Finished
  phase_with (Some (todo.Event e)) = phase.Event e progress.Open
  phase_with (Some (todo.Advance k)) = phase.Advance k

-- is named: whether the word names the lock
abbrev pub is_named : Word → ℕ → Bool
is_named (Lock k) l = k == l
is_named Blocked l = false

module _ {O E R : Type 0} where
  -- at: the worker stands there
  abbrev pub at : Seat O E R → Phase E R → Seat O E R
  at p there = record { own = p.own; begun = p.begun; items = p.items; advanced = p.advanced; pending = p.pending; phase = there }

  -- calm: the worker has no change pending
  abbrev pub calm : Seat O E R → Seat O E R
  calm p = record { own = p.own; begun = p.begun; items = p.items; advanced = p.advanced; pending = None; phase = p.phase }

module _ {O G E R : Type 0} where
  -- with seat: the worker is now as this
  abbrev pub with_seat : State O G E R → ℕ → Seat O E R → State O G E R
  with_seat s w p = record { locks = s.locks; words = s.words; ticket = s.ticket; now = s.now; values = s.values; seats = slice_set s.seats w p; history = s.history }

  -- with lock: the lock word is now this, and the worker as this
  abbrev pub with_lock : State O G E R → ℕ → Option ℕ → ℕ → Seat O E R → State O G E R
  with_lock s l holder w p = record { locks = slice_set s.locks l holder; words = s.words; ticket = s.ticket; now = s.now; values = s.values; seats = slice_set s.seats w p; history = s.history }

  -- with word: the thread's word is now this, and the worker as this
  abbrev pub with_word : State O G E R → ℕ → Word → ℕ → Seat O E R → State O G E R
  with_word s t word w p = record { locks = s.locks; words = slice_set s.words t word; ticket = s.ticket; now = s.now; values = s.values; seats = slice_set s.seats w p; history = s.history }

  -- first read: a first read of a thread's word, which found this
  abbrev pub first_read : State O G E R → ℕ → Seat O E R → E → ℕ → Word → Turn × State O G E R
  first_read s w p e t (Lock l) = (turn.Moved (done.Read t (Lock l)), with_seat s w (at p (phase.Event e (progress.Named t l))))
  first_read s w p e t Blocked = (turn.Blocked t, s)

  -- second read: a second read of a thread's word, which found this, by a worker that took the lock
  abbrev pub second_read : State O G E R → ℕ → Seat O E R → E → ℕ → ℕ → Word → Turn × State O G E R
  second_read s w p e t l word = (
    turn.Moved (done.Read t word),
    with_seat s w (at p (phase.Event e (if is_named word l then progress.Locked (One l) else progress.Stale l))),
  )

  -- take: a worker takes a lock whose word is this, to stand there then
  abbrev pub take : State O G E R → ℕ → Seat O E R → ℕ → Phase E R → Option ℕ → Turn × State O G E R
  take s w p l there None = (turn.Moved (done.Take l), with_lock s l (Some w) w (at p there))
  take s w p l there (Some holder) = (turn.Lost l holder, s)

  -- release: a worker gives a lock back, and is then as this
  abbrev pub release : State O G E R → ℕ → ℕ → Seat O E R → Turn × State O G E R
  release s l w p = (turn.Moved (done.Release l), with_lock s l None w p)

  -- read now: a worker reads the time under its locks
  abbrev pub read_now : State O G E R → ℕ → Seat O E R → E → HeldLocks → Turn × State O G E R
  read_now s w p e held = (turn.Moved (done.Now s.now), with_seat s w (at p (phase.Event e (progress.Timed held s.now))))

  -- store: a worker stores its pending change in the thread's word
  abbrev pub store : State O G E R → ℕ → Seat O E R → WordChange → Turn × State O G E R
  store s w p (Block t) = (turn.Moved (done.Block t), with_word s t Blocked w (calm p))
  store s w p (Point t l) = (turn.Moved (done.Point t l), with_word s t (Lock l) w (calm p))

module _ {H O G E R C : Type 0} (m : Means H O G E R C) where
  -- next command: the next item of a worker that begins these commands one after another, where k are begun
  abbrev pub next_command : O → ℕ → List C → Fetched O E
  next_command own k [] = record { item = None; own = own; begun = k }
  next_command own k (c ∷ cs) = elim (m.next (m.begin own c) None).0 as (λ _. Fetched O E) [
    | None ↦ next_command (m.next (m.begin own c) None).1 (k + 1) cs
    | Some x ↦ record { item = Some x; own = (m.next (m.begin own c) None).1; begun = k + 1 }
  ]

  -- fetch: the next item of a worker that tells what its last event answered, with these commands yet to begin
  abbrev pub fetch : O → ℕ → Option (R × ℕ) → List C → Fetched O E
  fetch own k told orders = elim (m.next own told).0 as (λ _. Fetched O E) [
    | None ↦ next_command (m.next own told).1 k orders
    | Some x ↦ record { item = Some x; own = (m.next own told).1; begun = k }
  ]

  -- seated: a worker with its next item
  abbrev pub seated : Fetched O E → ℕ → ℕ → Seat O E R
  seated f items advanced = record { own = f.own; begun = f.begun; items = items; advanced = advanced; pending = None; phase = phase_with f.item }

  -- seat leaving: a worker whose event had this effect
  abbrev pub seat_leaving : Seat O E R → E → HeldLocks → ℕ → Acted H G R → Seat O E R
  seat_leaving p e held now after = record {
    own = m.with_hand p.own after.hand;
    begun = p.begun;
    items = p.items + 1;
    advanced = p.advanced;
    pending = m.change e after.reply;
    phase = phase.Leaving after.reply now held;
  }

  -- commit: an event of a worker takes effect; without an effect nothing changes
  abbrev pub commit : State O G E R → ℕ → Seat O E R → E → HeldLocks → ℕ → Option (Acted H G R) → Turn × State O G E R
  commit s w p e held now None = (turn.Finished, s)
  commit s w p e held now (Some after) = (
    turn.Moved (done.Commit (s.ticket + 1)),
    record {
      locks = s.locks;
      words = s.words;
      ticket = s.ticket + 1;
      now = s.now;
      values = after.values;
      seats = slice_set s.seats w (seat_leaving p e held now after);
      history = entry_made w e held now after.reply ∷ s.history;
    },
  )

  -- open: the first step of an event, by what it needs
  abbrev pub open_event : State O G E R → ℕ → Seat O E R → E → Needs → Turn × State O G E R
  open_event s w p e (one a) = take s w p a (phase.Event e (progress.Locked (One a))) (lock_holder s a)
  open_event s w p e (both a b) = take s w p a (phase.Event e (progress.Half a b)) (lock_holder s a)
  open_event s w p e (lock_of t) = first_read s w p e t (word_of s t)

  -- approach: the next step of an event on the way to its commit
  abbrev pub approach : State O G E R → ℕ → Seat O E R → E → Progress → Turn × State O G E R
  approach s w p e progress.Open = open_event s w p e (m.needs e)
  approach s w p e (progress.Named t l) = take s w p l (phase.Event e (progress.Taken t l)) (lock_holder s l)
  approach s w p e (progress.Taken t l) = second_read s w p e t l (word_of s t)
  approach s w p e (progress.Stale l) = release s l w (at p (phase.Event e progress.Open))
  approach s w p e (progress.Half a b) = take s w p b (phase.Event e (progress.Locked (Two a b))) (lock_holder s b)
  approach s w p e (progress.Locked held) = read_now s w p e held
  approach s w p e (progress.Timed held now) = commit s w p e held now (effect_under m w e now (m.hand p.own) held s.values)

  -- with these commands of the workers
  module _ (orders : ℕ → List C) where
    -- seat going on: the worker with its next item
    abbrev pub seat_going_on : ℕ → O → ℕ → Option (R × ℕ) → ℕ → ℕ → Seat O E R
    seat_going_on w own k told items advanced = seated (fetch own k told (drop k (orders w))) items advanced

    -- advance: a worker raises the time, and goes on
    abbrev pub advance : State O G E R → ℕ → Seat O E R → ℕ → Turn × State O G E R
    advance s w p k = (
      turn.Moved (done.Advance k),
      record {
        locks = s.locks;
        words = s.words;
        ticket = s.ticket;
        now = s.now + k;
        values = s.values;
        history = s.history;
        seats = slice_set s.seats w (seat_going_on w p.own p.begun None (p.items + 1) (p.advanced + k));
      },
    )

    -- leave: a worker whose event took effect stores its pending change, or else gives back the lock that it took last, and goes on behind the last one
    abbrev pub leave : State O G E R → ℕ → Seat O E R → R → ℕ → HeldLocks → Option WordChange → Turn × State O G E R
    leave s w p reply now held (Some change) = store s w p change
    leave s w p reply now (One a) None = release s a w (seat_going_on w p.own p.begun (Some (reply, now)) p.items p.advanced)
    leave s w p reply now (Two a b) None = release s b w (at p (phase.Leaving reply now (One a)))

    -- step: the next step of a worker, by where it stands
    abbrev pub step_of : State O G E R → ℕ → Seat O E R → Phase E R → Turn × State O G E R
    step_of s w p phase.Finished = (turn.Finished, s)
    step_of s w p (phase.Advance k) = advance s w p k
    step_of s w p (phase.Event e way) = approach s w p e way
    step_of s w p (phase.Leaving reply now held) = leave s w p reply now held p.pending

    -- turn by: the turn of a worker, which does nothing where there is no such worker
    abbrev pub turn_by : State O G E R → ℕ → Option (Seat O E R) → Turn × State O G E R
    turn_by s w None = (turn.Finished, s)
    turn_by s w (Some p) = step_of s w p p.phase

    -- turn of worker: what one turn of a worker does, and the state after it
    abbrev pub turn_of_worker : State O G E R → ℕ → Turn × State O G E R
    turn_of_worker s w = turn_by s w (slice_get s.seats w)

    -- played: the state after these turns, one after another
    abbrev pub played : State O G E R → List ℕ → State O G E R
    played s [] = s
    played s (w ∷ ws) = played (turn_of_worker s w).1 ws
