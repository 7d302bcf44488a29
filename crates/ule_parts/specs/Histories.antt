-- What a history of values is as a history of worlds.
use Rattle.std.specs.Prelude.{◌<◌, List, map, reverse, Option}
use Rattle.std.specs.List.{AllByRecursion}
use Rattle.ule_score.specs.declared.record.ThreadRecord.{ThreadRecord}
use Rattle.ule_types.specs.declared.event.Entry as types
use Rattle.ule_types.specs.declared.event.Event.{Event}
use Rattle.ule_types.specs.declared.event.Reply.{Reply}
use Rattle.ule_types.specs.declared.setup.Setup.{Setup}
use Rattle.ule_model.specs.CalendarPromise.{HasCalendarPromise}
use Rattle.ule_model.specs.Ends.{end_world}
use Rattle.ule_model.specs.History.{KeepsRecords}
use Rattle.ule_model.specs.Legal.{IsInTime, IsReplayed, with_locks}
use Rattle.ule_model.specs.LockValue.{LockValue}
use Rattle.ule_model.specs.Start.{world_at_start}
use Rattle.ule_model.specs.Throughout.{HoldsThroughout}
use Rattle.ule_model.specs.WellMade.{IsWellMadeWorld}
use Rattle.ule_model.specs.WorldValue.{Shows, WorldValue}
use Rattle.ule_micro.specs.declared.entry.Entry.{Entry}
use Rattle.ule_micro.specs.Histories.{Leads, ValuesAndHands}
use Rattle.ule_micro.specs.Laws.{values_and_hands_at_start}
use Rattle.ule_parts.specs.Scheduler.{sched_means}

-- world entry: an entry without the locks that it was performed under
abbrev pub world_entry : Entry Event Reply → types.Entry
world_entry x = record { worker = x.worker; event = x.event; now = x.now; reply = x.reply }

-- entries in order: those of a history, the oldest first
abbrev pub entries_in_order : List (Entry Event Reply) → List types.Entry
entries_in_order h = map world_entry (reverse h)

-- scheduler with: the scheduler of a setup with these values under its locks and these hands
abbrev pub scheduler_with : Setup → ValuesAndHands (Option ThreadRecord) LockValue → WorldValue
scheduler_with s y = record { settings = s.settings; values = y.values; hands = y.hands }

-- is history of worlds: each entry is one that the world before it can make, at a time in order, and the values and hands show the world at the end;
-- all along the worlds are well made, each record keeps its bounds, and the calendar promise is kept
pub record IsHistoryOfWorlds (s : Setup) (es : List types.Entry) (y : ValuesAndHands (Option ThreadRecord) LockValue) : Type 0 where
  pub workers : AllByRecursion (λ e. e.worker < s.cpus) es
  pub replies : IsReplayed (world_at_start s) es
  pub in_time : IsInTime (with_locks (world_at_start s) es)
  pub shows : Shows (scheduler_with s y) (end_world s es)
  pub made : HoldsThroughout IsWellMadeWorld (world_at_start s) es
  pub bounds : HoldsThroughout KeepsRecords (world_at_start s) es
  pub promise : HasCalendarPromise (world_at_start s) es

-- histories are of worlds: whatever the scheduler's values and hands went through, entry by entry, worlds went through, whatever the programs
abbrev pub HistoriesAreOfWorlds : Type 0
HistoriesAreOfWorlds = (s : Setup) (h : List (Entry Event Reply)) (y : ValuesAndHands (Option ThreadRecord) LockValue)
    → Leads (sched_means s) (values_and_hands_at_start (sched_means s)) h y → IsHistoryOfWorlds s (entries_in_order h) y
