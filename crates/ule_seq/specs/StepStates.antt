-- What a state of the step model over a setup's scheduler shows: the scheduler, the places of threads, and the worlds that its entries went through.
use Rattle.std.specs.Prelude.{◌≡◌, ℕ, List, [], ◌∷◌, Option, Some, None, slice_get}
use Rattle.std.specs.Option.{option_map}
use Rattle.ule_score.specs.declared.place.Place.{Place}
use Rattle.ule_score.specs.declared.place.Place.TheVariants.{Hand}
use Rattle.ule_types.specs.declared.event.Entry as types
use Rattle.ule_types.specs.declared.event.Event.{Event}
use Rattle.ule_types.specs.declared.event.Reply.{Reply}
use Rattle.ule_types.specs.declared.setup.Setup.{Setup}
use Rattle.ule_model.specs.CpuValue.{first_found}
use Rattle.ule_model.specs.Ends.{end_world}
use Rattle.ule_model.specs.Legal.{IsWhole}
use Rattle.ule_model.specs.LockValue.{LockValue, found_in}
use Rattle.ule_model.specs.World.{World}
use Rattle.ule_model.specs.WorldValue.{WorldValue, holder_in}
use Rattle.ule_micro.specs.declared.seat.Phase.TheVariants as phase
use Rattle.ule_micro.specs.declared.seat.Seat.{Seat}
use Rattle.ule_micro.specs.States.{Machine, courses}
use Rattle.ule_parts.specs.Histories.{entries_in_order, scheduler_with}
use Rattle.ule_parts.specs.Plays.{IsPlayedLegally, values_and_hands_of}
use Rattle.ule_parts.specs.Workers.{Worker}

-- ---- places

-- place under: where thread t stands, if its record is in the value under this lock
abbrev pub place_under : LockValue → ℕ → Option Place
place_under v t = option_map (λ s. s.place) (found_in v t)

-- place among: where thread t stands, if it is under one of these locks
abbrev pub place_among : List LockValue → ℕ → Option Place
place_among [] t = None
place_among (v ∷ vs) t = first_found (place_under v t) (place_among vs t)

-- place at: where a scheduler has thread t, under a lock or in a worker's hand
abbrev pub place_at : WorldValue → ℕ → Option Place
place_at v t = first_found (place_among v.values t) (option_map Hand (holder_in v t))

-- ---- states of the step model

-- scheduler in: the scheduler that a state of the step model shows, by the values and by what its workers have in hand
abbrev pub scheduler_in : Machine Setup Worker LockValue Event Reply → WorldValue
scheduler_in m = scheduler_with m.parts (values_and_hands_of m.state.values (courses m.state))

-- entries in: the entries so far of a state of the step model, the oldest first
abbrev pub entries_in : Machine Setup Worker LockValue Event Reply → List types.Entry
entries_in m = entries_in_order m.state.history

-- world in: the world to which those entries lead from the start of the setup
abbrev pub world_in : Machine Setup Worker LockValue Event Reply → World
world_in m = end_world m.parts (entries_in m)

-- is finished: each worker of the step model is at the end of its program
abbrev pub IsFinished : Machine Setup Worker LockValue Event Reply → Type 0
IsFinished m = (w : ℕ) (p : Seat Worker Event Reply) → slice_get m.state.seats w ≡ Some p → p.phase ≡ phase.Finished

-- is legal so far: the entries so far are a legal history of the setup's scripts, through worlds of which the state shows the last and that keep the calendar promise,
-- and a whole one where the workers are finished
pub record IsLegalSoFar (m : Machine Setup Worker LockValue Event Reply) : Type 0 where
  pub played : IsPlayedLegally m.parts m.parts.scripts m.state.history m.state.values (courses m.state)
  pub whole : IsFinished m → IsWhole m.parts m.parts.scripts (entries_in m)
