-- The end of a play of running threads: one whole legal history, and what stands behind it.
use Rattle.std.specs.Prelude.{◌≡◌, ℕ, ◌+◌, ◌≤◌, List, [], Some, slice_get}
use Rattle.atomic_table.specs.Seated.{TableId}
use Rattle.ule_types.specs.Outcome.{OutcomeValue}
use Rattle.ule_types.specs.declared.command.Command.{Command}
use Rattle.ule_types.specs.declared.event.Entry as types
use Rattle.ule_types.specs.declared.event.Event.{Event}
use Rattle.ule_types.specs.declared.event.Reply.{Reply}
use Rattle.ule_types.specs.declared.setup.Setup.{Setup}
use Rattle.ule_model.specs.CalendarPromise.{HasCalendarPromise}
use Rattle.ule_model.specs.Ends.{outcome_of}
use Rattle.ule_model.specs.Legal.{IsLegal, IsWhole}
use Rattle.ule_model.specs.Start.{world_at_start}
use Rattle.ule_parts.specs.Histories.{world_entry}
use Rattle.ule_parts.specs.Scheduler.{budget_of}
use Rattle.ule_micro.specs.Means.{budgets}
use Rattle.ule_words.specs.declared.log.Numbered.{Numbered}
use Rattle.ule_smp.specs.Smp.{AreDone, SchedPass}

-- stand in: each of a pass's own entries stands in the history at its number
abbrev pub StandIn : List types.Entry → List (ℕ × Numbered Event Reply) → Type 0
StandIn es mine = (j : ℕ) (x : ℕ × Numbered Event Reply) → slice_get mine j ≡ Some x → (k : ℕ) × (x.1.number ≡ k + 1) × (slice_get es k ≡ Some (world_entry x.1.entry))

-- is whole outcome: the entries are one whole legal history of the setup and these lists of commands, which keeps the calendar promise,
-- and the final lines and the time are those of its end, where each thread's word names the lock of its place
pub record IsWholeOutcome (s : Setup) (lists : List (List Command)) (o : OutcomeValue) : Type 0 where
  pub legal : IsLegal s lists o.entries
  pub whole : IsWhole s lists o.entries
  pub promise : HasCalendarPromise (world_at_start s) o.entries
  pub lines : record o { room = 0 } ≡ outcome_of s lists o.entries

-- is closed: the end of the passes' play of these lists was told, in which each pass's own entries stand at their numbers, and no other
pub record IsClosed (s : Setup) (lists : List (List Command)) (passes : List SchedPass) (o : OutcomeValue) : Type 0 where
  pub outcome : IsWholeOutcome s lists o
  pub own : (w : ℕ) (p : SchedPass) → slice_get passes w ≡ Some p → StandIn o.entries p.worker.mine
  pub makers : (k : ℕ) (e : types.Entry) → slice_get o.entries k ≡ Some e → (p : SchedPass) × (slice_get passes e.worker ≡ Some p) × (j : ℕ) × (x : ℕ × Numbered Event Reply) × (slice_get p.worker.mine j ≡ Some x) × (x.1.number ≡ k + 1)

-- is some end: the end of passes that are done was told, of some setup and some lists of commands
pub record IsSomeEnd (o : OutcomeValue) : Type 0 where
  pub setup : Setup
  pub table : TableId
  pub lists : List (List Command)
  pub passes : List SchedPass
  pub done : AreDone setup table lists passes
  pub closed : IsClosed setup lists passes o

-- has room: an outcome without entries and lines, with room for all entries that the scripts' budgets admit together
pub record HasRoom (s : Setup) (o : OutcomeValue) : Type 0 where
  pub entries : o.entries ≡ []
  pub threads : o.threads ≡ []
  pub cpus : o.cpus ≡ []
  pub room : budgets (budget_of s) s.cpus ≤ o.room
