-- Worked values of an outcome that is noted and set line by line, by computing.
use Rattle.std.proofs.Common.{◌≡◌, ℕ, ◌-◌, ◌++◌, ◌==◌, pos, true, false, [], ◌∷◌, length, slice_get, Some, None, refl}
use Rattle.ule_prio.specs.declared.class.Class.TheVariants.{Ts}
use Rattle.ule_score.specs.declared.place.Place.TheVariants.{Unborn}
use Rattle.ule_score.specs.declared.record.CpuLine.{CpuLine}
use Rattle.ule_types.specs.Outcome.{OutcomeValue, placed, with_cpu}
use Rattle.ule_types.specs.declared.event.Entry.{Entry}
use Rattle.ule_types.specs.declared.event.Event.TheVariants.{Tick}
use Rattle.ule_types.specs.declared.event.Reply.TheVariants.{Ticked}
use Rattle.ule_types.specs.declared.outcome.ThreadLine.{ThreadLine}

-- ---- the calls on an outcome

-- an outcome without lines, with room for so many entries
abbrev with_room : ℕ → OutcomeValue
with_room entries = record { entries = []; threads = []; cpus = []; now = 0; room = entries }

-- the outcome with one more entry
abbrev noted : Entry → OutcomeValue → OutcomeValue
noted e o = record o { entries = o.entries ++ e ∷ []; room = o.room - 1 }

-- the outcome with this thread line in its place
abbrev with_thread_line : ThreadLine → OutcomeValue → OutcomeValue
with_thread_line l o = record o { threads = placed l o.threads }

-- the outcome with this line of CPU c
abbrev with_cpu_line : ℕ → CpuLine → OutcomeValue → OutcomeValue
with_cpu_line c l o = record o { cpus = with_cpu c l o.cpus }

-- the outcome with this time at the end
abbrev ended : ℕ → OutcomeValue → OutcomeValue
ended now o = record o { now = now }

-- ---- the entries

-- a tick of CPU 0 at this time, where no thread runs and nothing is due
abbrev entry_at : ℕ → Entry
entry_at now = record { worker = 0; event = Tick 0; now = now; reply = Ticked None false false }

-- the outcome after entries at 20000 and 20001
abbrev two_entries : OutcomeValue
two_entries = noted (entry_at 20001) (noted (entry_at 20000) (with_room 2))

-- an outcome has no entries before the first is noted
begins_empty : (length (with_room 2).entries == 0) ≡ true
begins_empty = refl

-- there is room for each of two entries where there was room for two, and none is left after them
room_is_used_up :
    ((with_room 2).room ≡ 2) × ((noted (entry_at 20000) (with_room 2)).room ≡ 1) × (two_entries.room ≡ 0)
room_is_used_up = (refl, refl, refl)

-- two entries that are noted are counted, and stand by number in the order in which they were noted
entries_keep_their_order :
    (length two_entries.entries ≡ 2) ×
    (slice_get two_entries.entries (1 - 1) ≡ Some (entry_at 20000)) ×
    (slice_get two_entries.entries (2 - 1) ≡ Some (entry_at 20001))
entries_keep_their_order = (refl, refl, refl)

-- the time at the end is the one that was set after the entries
end_is_set : (ended 20001 two_entries).now ≡ 20001
end_is_set = refl

-- ---- the thread lines

-- the line of an unborn thread with this run time
abbrev line_of : ℕ → ℕ → ThreadLine
line_of id run = record {
  id = id;
  place = Unborn;
  pos = 0;
  class = Ts;
  nice = pos 0;
  base = 172;
  lent = None;
  priority = 172;
  run = run;
  slept = 0;
  ticks = 0;
  ltick = 0;
  ftick = 0;
  slice_count = 0;
  slept_at = 0;
  last = 0;
  last_run = 0;
  bound = None;
  parent = None;
  word = Some 24;
}

-- the outcome after the lines of threads 7, 2, 255, 7 again and 0 were set
abbrev five_lines : OutcomeValue
five_lines =
    with_thread_line (line_of 0 5) (with_thread_line (line_of 7 4) (with_thread_line (line_of 255 3)
    (with_thread_line (line_of 2 2) (with_thread_line (line_of 7 1) (with_room 0)))))

-- thread lines rise by id however they are set, and the later line of thread 7 replaces the earlier one
thread_lines_rise : five_lines.threads ≡ line_of 0 5 ∷ line_of 2 2 ∷ line_of 7 4 ∷ line_of 255 3 ∷ []
thread_lines_rise = refl

-- ---- the CPU lines

-- the line of a CPU with this insertion index
abbrev cpu_line : ℕ → CpuLine
cpu_line idx = record { idx = idx; ridx = 0; resched = false; slice_end = false; switches = 0; old_switches = 0; balance = 0 }

-- the outcome after the lines of CPUs 0, 1 and 0 again were set
abbrev three_lines : OutcomeValue
three_lines = with_cpu_line 0 (cpu_line 3) (with_cpu_line 1 (cpu_line 2) (with_cpu_line 0 (cpu_line 1) (with_room 0)))

-- CPU lines are appended by number, and the later line of CPU 0 replaces the earlier one
cpu_lines_are_set_and_appended : three_lines.cpus ≡ cpu_line 3 ∷ cpu_line 2 ∷ []
cpu_lines_are_set_and_appended = refl
