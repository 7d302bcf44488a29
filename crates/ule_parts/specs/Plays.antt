-- What a legal play of values is as a legal history of worlds.
use Rattle.std.specs.Prelude.{◌≡◌, ℕ, List, [], map, slice_get, slice_index_or, Option, Some, None}
use Rattle.ule_score.specs.declared.record.ThreadRecord.{ThreadRecord}
use Rattle.ule_types.specs.declared.command.Command.{Command}
use Rattle.ule_types.specs.declared.event.Event.{Event}
use Rattle.ule_types.specs.declared.event.Reply.{Reply}
use Rattle.ule_types.specs.declared.setup.Setup.{Setup}
use Rattle.ule_model.specs.Legal.{IsLegal, IsWhole}
use Rattle.ule_model.specs.LockValue.{LockValue}
use Rattle.ule_micro.specs.declared.entry.Entry.{Entry}
use Rattle.ule_micro.specs.Courses.{LegalPlay, WorkerCourse}
use Rattle.ule_micro.specs.Histories.{ValuesAndHands}
use Rattle.ule_micro.specs.Laws.{AreOrders}
use Rattle.ule_micro.specs.Standings.{rests}
use Rattle.ule_parts.specs.Histories.{IsHistoryOfWorlds, entries_in_order}
use Rattle.ule_parts.specs.Scheduler.{sched_means}
use Rattle.ule_parts.specs.Workers.{Worker}

-- list of: the commands of a worker's list
abbrev pub list_of : List (List Command) → ℕ → List Command
list_of lists w = slice_index_or lists w []

-- values and hands of: these values, and the hands of the workers where they stand
abbrev pub values_and_hands_of : List LockValue → List (WorkerCourse Worker Event Reply) → ValuesAndHands (Option ThreadRecord) LockValue
values_and_hands_of values courses = record { values = values; hands = map (λ c. c.own.hand) courses }

-- are at their ends: each worker stands behind the last command of its list
abbrev pub AreAtTheirEnds : List (List Command) → List (WorkerCourse Worker Event Reply) → Type 0
AreAtTheirEnds lists courses = (w : ℕ) (c : WorkerCourse Worker Event Reply) → slice_get courses w ≡ Some c → (c.standing ≡ rests) × (slice_get (list_of lists w) c.begun ≡ None)

-- is played legally: the entries are a legal history of the lists, through worlds of which the values and hands show the last, and a whole one where the workers are at their ends
pub record IsPlayedLegally (s : Setup) (lists : List (List Command)) (h : List (Entry Event Reply)) (values : List LockValue) (courses : List (WorkerCourse Worker Event Reply)) : Type 0 where
  pub legal : IsLegal s lists (entries_in_order h)
  pub worlds : IsHistoryOfWorlds s (entries_in_order h) (values_and_hands_of values courses)
  pub whole : AreAtTheirEnds lists courses → IsWhole s lists (entries_in_order h)

-- plays are legal: each legal play of the scheduler's values, whatever its orders, is a legal history of worlds
abbrev pub PlaysAreLegal : Type 0
PlaysAreLegal = (s : Setup) (lists : List (List Command)) (h : List (Entry Event Reply)) (values : List LockValue) (courses : List (WorkerCourse Worker Event Reply))
    → AreOrders (sched_means s) (list_of lists) → LegalPlay (sched_means s) (list_of lists) h values courses → IsPlayedLegally s lists h values courses
