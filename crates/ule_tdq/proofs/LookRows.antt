-- Worked values of what a look at a CPU sees, and of a fork, by computing. `started` is what the call `start` gives, by its
-- clause `start`; each value after it is what a call makes of the one before, by the clauses `value`, `reply`, `child` and
-- `parent` of those calls.
use Rattle.std.proofs.Common.{◌≡◌, ℕ, pos, true, false, [], replicate, Some, None, refl}
use Rattle.ule_history.specs.CpuUseUpdate.{ran_ticks, slid_use, updated_use}
use Rattle.ule_history.specs.ForkDecay.{child_history}
use Rattle.ule_prio.specs.declared.class.Class.TheVariants.{Rt, Ts}
use Rattle.ule_runq.specs.Runq.{line_from}
use Rattle.ule_score.specs.Score.{score_of}
use Rattle.ule_score.specs.TimesharePriority.{batch_priority, priority_at, timeshare_priority, use_steps}
use Rattle.ule_score.specs.declared.record.Settings.{Settings}
use Rattle.ule_score.specs.declared.record.ThreadRecord.{ThreadRecord}
use Rattle.ule_score.specs.declared.record.Why.TheVariants.{Yield}
use Rattle.ule_slice.specs.Slice.{min_slice_of, slice_of}
use Rattle.ule_threads.proofs.Absent.{absent_throughout}
use Rattle.ule_types.specs.declared.event.Reply.TheVariants.{Switched}
use Rattle.ule_model.specs.CpuChange.{ForkedFrom, value_forked}
use Rattle.ule_model.specs.CpuNumbers.{is_movable, value_summary}
use Rattle.ule_model.specs.CpuStart.{StartsAs, line_at_start, word_at_start}
use Rattle.ule_model.specs.CpuValue.{CpuValue, thread_in, value_added, value_laid, value_switched}

-- ---- the records

-- a timeshare thread of nice 0 at the start
abbrev fresh : ℕ → ThreadRecord
fresh id = record {
  id = id;
  parent = None;
  class = Ts;
  nice = pos 0;
  base = 172;
  lent = None;
  priority = 172;
  hist = record { run = 0; slept = 0 };
  usage = record { ticks = 0; ltick = 20000; ftick = 20000 };
  slice_count = 0;
  slept_at = 0;
  last = 0;
  last_run = 20000;
  bound = None;
}

-- a timeshare thread of nice 0 at the start, bound to CPU 3
abbrev bound : ℕ → ThreadRecord
bound id = record (fresh id) { bound = Some 3 }

-- a thread of a real priority that has not run since the start
abbrev urgent : ℕ → ThreadRecord
urgent id = record (fresh id) { class = Rt; base = 60; priority = 60 }

-- ---- the start

-- the customary settings
abbrev customary : Settings
customary = record { interact = 30; slice = 12; preempt = 80; steal = 2 }

-- CPU 3 without threads, as it starts by the customary settings
abbrev started : CpuValue
started = record {
  cpu = 3;
  settings = customary;
  threads = replicate 256 None;
  current = None;
  load = 0;
  real = replicate 64 [];
  batch = replicate 64 [];
  idle = replicate 64 [];
  line = line_at_start 3 16;
  balance_word = word_at_start 3 16;
}

-- a CPU that starts without threads has the value `started`
starts_so : (v : CpuValue) → StartsAs v 3 customary 16 → v ≡ started
starts_so v starts =
    rw (starts.cpu, starts.settings, absent_throughout 256 v.threads starts.slots starts.threads, starts.current, starts.load, starts.real, starts.batch, starts.idle, starts.line, starts.balance_word) refl

-- ---- what a look sees

-- the CPU after thread 7 was laid on it
laid_7 : CpuValue
laid_7 = value_laid (fresh 7) started

-- the CPU after bound thread 5 came to it beside thread 7
came_5 : CpuValue
came_5 = value_added (bound 5) false laid_7

-- the CPU after thread 9, of a real priority, came to it beside threads 5 and 7
came_9 : CpuValue
came_9 = value_added (urgent 9) false came_5

-- the CPU after a switch that chose thread 9, while threads 5 and 7 wait
switched_to_9 : CpuValue
switched_to_9 = (value_switched Yield 20000 came_9).0

-- each thread is new to the CPU that it comes to
all_new : (thread_in started 7 ≡ None) × (thread_in laid_7 5 ≡ None) × (thread_in came_5 9 ≡ None)
unfolding laid_7 came_5
all_new = (refl, refl, refl)

-- a CPU without threads has no load and the low priority 255
empty_seen : value_summary started ≡ record { load = 0; movable = 0; lowpri = 255 }
unfolding line_from
empty_seen = refl

-- a bound thread adds to the load, and can't be moved
bound_seen :
    (value_summary came_5 ≡ record { load = 2; movable = 1; lowpri = 172 }) × (is_movable came_5 5 ≡ false)
unfolding laid_7 came_5 line_from
bound_seen = (refl, refl)

-- the low priority is that of the best thread that is queued
urgent_seen : value_summary came_9 ≡ record { load = 3; movable = 2; lowpri = 60 }
unfolding laid_7 came_5 came_9 line_from
urgent_seen = refl

-- a switch chooses thread 9, which has a real priority, before two batch threads
urgent_chosen : (value_switched Yield 20000 came_9).1 ≡ Switched None (Some 9) false
unfolding laid_7 came_5 came_9 line_from
urgent_chosen = refl

-- the low priority is that of the current thread, which can't be moved
current_seen :
    (value_summary switched_to_9 ≡ record { load = 3; movable = 1; lowpri = 60 }) × (is_movable switched_to_9 7 ≡ true) ×
    (is_movable switched_to_9 9 ≡ false)
unfolding laid_7 came_5 came_9 switched_to_9 line_from
current_seen = (refl, refl, refl)

-- ---- a fork

-- the CPU after thread 7 was laid on it and chosen
switched_to_7 : CpuValue
switched_to_7 = (value_switched Yield 20000 laid_7).0

-- a switch chooses thread 7, which waits alone
only_chosen : (value_switched Yield 20000 laid_7).1 ≡ Switched None (Some 7) false
unfolding laid_7 line_from
only_chosen = refl

-- what a fork of thread 9 comes to
forked_9 : ForkedFrom
forked_9 = value_forked 20000 (fresh 9) switched_to_7

-- a child last ran on the CPU of its fork
child_born : (forked_9.parent ≡ Some 7) × (forked_9.child ≡ record (fresh 9) { parent = Some 7; slice_count = 10; last = 3 })
unfolding laid_7 switched_to_7 forked_9 timeshare_priority priority_at score_of batch_priority use_steps updated_use slid_use ran_ticks slice_of min_slice_of child_history line_from
child_born = (refl, refl)
