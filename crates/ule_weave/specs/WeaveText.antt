-- The weave text of a setup: its turns one after another, each with what it did and what stands behind it.
use Rattle.std.specs.Prelude.{ℕ, ◌+◌, List, [], ◌∷◌, ◌++◌, filter, Option, codes}
use Rattle.std.specs.Fmt.{decimal}
use Rattle.std.specs.List.{range_with_len}
use Rattle.ule_micro.specs.declared.locks.TheConstants.{THREADS}
use Rattle.ule_micro.specs.declared.turn.Turn.{Turn}
use Rattle.ule_micro.specs.States.{State, courses, lock_holder, word_of}
use Rattle.ule_micro.specs.Theorem.{LockAgreement}
use Rattle.ule_micro.specs.Turns.{turn_of_worker}
use Rattle.ule_model.specs.LockValue.{LockValue}
use Rattle.ule_parts.specs.Plays.{IsPlayedLegally}
use Rattle.ule_parts.specs.Scheduler.{orders_of, sched_means}
use Rattle.ule_parts.specs.Workers.{Worker, declared_ids_of}
use Rattle.ule_score.specs.declared.place.Place.{Place}
use Rattle.ule_seq.specs.StepStates.{place_at, scheduler_in}
use Rattle.ule_trace.specs.Line.{lines_text}
use Rattle.ule_types.specs.Commands.{is_among}
use Rattle.ule_types.specs.declared.event.Event.{Event}
use Rattle.ule_types.specs.declared.event.Reply.{Reply}
use Rattle.ule_types.specs.declared.setup.Setup.{Setup}
use Rattle.ule_weave.specs.Start.{started}
use Rattle.ule_weave.specs.TurnText.{entry_at, locks_words, outcome_words, threads_words, turn_words}

-- sched state: a state of the step model of a scheduler
abbrev pub SchedState : Type 0
SchedState = State Worker LockValue Event Reply

-- done words: the last line, by the numbers of turns and entries
abbrev pub done_words : ℕ → ℕ → List (List ℕ)
done_words turns entries = codes "done" ∷ decimal turns ∷ decimal entries ∷ []

module _ (s : Setup) where
  -- places in: where each thread stands in this state, which is under a lock or in a worker's hand
  abbrev pub places_in : SchedState → ℕ → Option Place
  places_in x t = place_at (scheduler_in record { parts = s; state = x }) t

  -- declared in order: the declared threads in rising number
  unfoldable pub declared_in_order : List ℕ
  declared_in_order = filter (is_among (declared_ids_of s)) (range_with_len 0 THREADS)

  -- turn lines: the three lines of a turn, by its number, its worker, what it did and the state behind it
  abbrev pub turn_lines : ℕ → ℕ → Turn → SchedState → List (List (List ℕ))
  turn_lines i w did x =
      turn_words i w (outcome_words (entry_at x) did) ∷ locks_words (lock_holder x) ∷ threads_words (word_of x) (places_in x) declared_in_order ∷ []

  -- turned: what a turn of a worker does, and the state behind it
  abbrev pub turned : SchedState → ℕ → Turn × SchedState
  turned x w = turn_of_worker (sched_means s) (orders_of s) x w

  -- lines after: the lines behind those of the first k turns, which left this state, where these turns are to come
  abbrev pub lines_after : ℕ → SchedState → List ℕ → List (List (List ℕ))
  lines_after k x [] = done_words k x.ticket ∷ []
  lines_after k x (w ∷ ws) = turn_lines (k + 1) w (turned x w).0 (turned x w).1 ++ lines_after (k + 1) (turned x w).1 ws

  -- opened: the state at the start
  unfoldable pub opened : SchedState
  opened = started (sched_means s) (orders_of s)

  -- weave text: the header, and the lines of all turns
  abbrev pub weave_text : List ℕ
  weave_text = lines_text ((codes "ule-weave" ∷ codes "1" ∷ []) ∷ lines_after 0 opened s.turns)

  -- ---- what holds of every state

  -- is sound: the state meets lock agreement, and its history is one that the setup's scripts and the rules of time allow, which keeps the calendar promise
  pub record IsSound (x : SchedState) : Type 0 where
    pub agreement : LockAgreement (sched_means s) (orders_of s) x
    pub legal : IsPlayedLegally s s.scripts x.history x.values (courses x)

  -- is sound throughout: this state is sound, and so is each that these turns come to
  abbrev pub IsSoundThroughout : SchedState → List ℕ → Type 0
  IsSoundThroughout x [] = IsSound x
  IsSoundThroughout x (w ∷ ws) = IsSound x × IsSoundThroughout (turned x w).1 ws
