-- What an event does to one thread's record: a change told as data, and one function of it.
use Rattle.std.specs.Prelude.{◌≡◌, ℕ, ◌+◌, ◌-◌, ◌*◌, ◌^◌, ◌<◌, ◌≤◌, Bool, true, false, nat_le, ◌==◌, Some, None, if◌then◌else◌}
use Rattle.ule_history.specs.CpuUseUpdate.{updated_use}
use Rattle.ule_history.specs.ForkDecay.{child_history}
use Rattle.ule_history.specs.HistoryUpdate.{charged_history, rested_history}
use Rattle.ule_prio.specs.declared.class.Class.{Class}
use Rattle.ule_prio.specs.declared.class.Class.TheVariants.{Ithd, Rt, Fifo, Ts, Idle}
use Rattle.ule_score.specs.Bounds.{KeepsBounds, with_base, with_history, with_lent, with_use}
use Rattle.ule_score.specs.TimesharePriority.{IsNice, timeshare_priority}
use Rattle.ule_score.specs.declared.record.Change.{Change}
use Rattle.ule_score.specs.declared.record.Change.TheVariants.{Lend, Unlend, Renice, Inherit}
use Rattle.ule_score.specs.declared.record.Settings.{Settings}
use Rattle.ule_score.specs.declared.record.ThreadRecord.{ThreadRecord}
use Rattle.ule_slice.specs.Slice.{min_slice_of, slice_of}

-- the changes of a record that events make
pub data RecordChange : Type 0 where
  -- its thread left the processor
  ran : RecordChange
  -- its thread got the processor
  runs : RecordChange
  -- its thread left the processor to sleep
  sleeps : RecordChange
  -- its thread was woken
  woken : RecordChange
  -- its thread was current at a tick of a CPU with this load
  ticked : ℕ → RecordChange
  -- its thread came to this CPU
  placed : ℕ → RecordChange
  -- a priority was lent to it or taken back, its nice value was set, or it was charged for a child
  changed : Change → RecordChange
  -- its thread forked a child
  forks : RecordChange
  -- its thread was forked by the thread of this record on this CPU, which has this load
  forked : ThreadRecord → ℕ → ℕ → RecordChange

-- ---- the base priority

-- the record of a timeshare thread with its base priority computed anew; that of any other thread
abbrev pub rebased_in : Class → Settings → ThreadRecord → ThreadRecord
rebased_in Ts settings r = with_base r (timeshare_priority r.hist r.usage r.nice settings.interact)
rebased_in Ithd settings r = r
rebased_in Rt settings r = r
rebased_in Fifo settings r = r
rebased_in Idle settings r = r

-- a record with its base priority computed anew, as its class has it
abbrev pub rebased : Settings → ThreadRecord → ThreadRecord
rebased settings r = rebased_in r.class settings r

-- ---- the processor, after sched_switch

-- a record with its CPU use brought up to this time, at which its thread was running or not
abbrev pub used : Bool → ℕ → ThreadRecord → ThreadRecord
used running now r = with_use r (updated_use r.usage now running)

-- a record whose thread has just left the processor
abbrev pub after_running : ℕ → ThreadRecord → ThreadRecord
after_running now r = record (used true now r) { last_run = now }

-- a record whose thread has just left the processor to sleep, after sched_sleep
abbrev pub before_sleep : ℕ → ThreadRecord → ThreadRecord
before_sleep now r = record (after_running now r) { slept_at = now }

-- a record whose thread comes to CPU c
abbrev pub placed_on : ℕ → ThreadRecord → ThreadRecord
placed_on c r = record r { last = c }

-- ---- waking, after sched_wakeup

-- the record with the time that the thread slept, if any passed
abbrev pub rested : ℕ → ThreadRecord → ThreadRecord
rested now r =
    if now == r.slept_at then r
    else with_use (with_history r (rested_history r.hist (1024 * (now - r.slept_at)))) (updated_use r.usage now false)

-- a record whose thread has just been woken
abbrev pub after_sleep : Settings → ℕ → ThreadRecord → ThreadRecord
after_sleep settings now r = rebased settings (record (rested now r) { slice_count = 0; slept_at = 0 })

-- ---- a tick, after sched_clock

-- the run time of a stathz tick, in 1024ths of an hz tick
abbrev pub tick_length : ℕ
tick_length = 8062

-- the record with the run time of a tick more, and its base priority computed anew
abbrev pub charged : Settings → ThreadRecord → ThreadRecord
charged settings r = rebased settings (with_history r (charged_history r.hist tick_length))

-- whether the slice ends at this tick, by the load of the CPU
abbrev pub is_slice_end : Settings → ℕ → ThreadRecord → Bool
is_slice_end settings load r = nat_le (slice_of load settings.slice) (r.slice_count + 1)

-- the record with one tick more of its slice used
abbrev pub sliced : Settings → ℕ → ThreadRecord → ThreadRecord × Bool
sliced settings load r =
    (record r { slice_count = if is_slice_end settings load r then 0 else r.slice_count + 1 }, is_slice_end settings load r)

-- what a tick charges by class: a timeshare thread its run time, each but a Fifo thread its slice
abbrev pub charged_in : Class → Settings → ℕ → ThreadRecord → ThreadRecord × Bool
charged_in Ts settings load r = sliced settings load (charged settings r)
charged_in Ithd settings load r = sliced settings load r
charged_in Rt settings load r = sliced settings load r
charged_in Fifo settings load r = (r, false)
charged_in Idle settings load r = sliced settings load r

-- the current thread's record after a tick, and whether its slice ended
abbrev pub after_tick : Settings → ℕ → ℕ → ThreadRecord → ThreadRecord × Bool
after_tick settings now load r = charged_in r.class settings load (used true now r)

-- ---- loans, nice values and inherited run time

-- a record after a change that can move its priority
abbrev pub after_change : Settings → Change → ThreadRecord → ThreadRecord
after_change settings (Lend p) r = with_lent r (Some p)
after_change settings Unlend r = with_lent r None
after_change settings (Renice n) r = rebased settings (record r { nice = n })
after_change settings (Inherit run) r = rebased settings (with_history r (charged_history r.hist run))

-- ---- forks, after sched_fork and sched_fork_thread

-- a record whose thread has just forked a child: it is charged a tick
abbrev pub after_fork : Settings → ℕ → ThreadRecord → ThreadRecord
after_fork settings now r = charged settings (used true now r)

-- the record of a child, which keeps its number, forked by this parent on CPU c with this load
abbrev pub child_of : Settings → ℕ → ThreadRecord → ℕ → ℕ → ThreadRecord → ThreadRecord
child_of settings now parent c load r = rebased settings (record r {
  parent = Some parent.id;
  class = parent.class;
  nice = parent.nice;
  base = parent.base;
  lent = None;
  priority = parent.base;
  hist = child_history parent.hist;
  usage = updated_use parent.usage now true;
  slice_count = slice_of load settings.slice - min_slice_of settings.slice;
  slept_at = 0;
  last = c;
  last_run = now;
  bound = None;
})

-- ---- all changes

-- the record after a change at this time
abbrev pub record_after : Settings → ℕ → RecordChange → ThreadRecord → ThreadRecord
record_after settings now ran r = after_running now r
record_after settings now runs r = used false now r
record_after settings now sleeps r = before_sleep now r
record_after settings now woken r = after_sleep settings now r
record_after settings now (ticked load) r = (after_tick settings now load r).0
record_after settings now (placed c) r = placed_on c r
record_after settings now (changed change) r = after_change settings change r
record_after settings now forks r = after_fork settings now r
record_after settings now (forked parent c load) r = child_of settings now parent c load r

-- what is noted of a thread happened by this time
pub record IsBy (now : ℕ) (r : ThreadRecord) : Type 0 where
  pub ltick : r.usage.ltick ≤ now
  pub slept_at : r.slept_at ≤ now
  pub last_run : r.last_run ≤ now

-- ---- sound changes

-- a change whose own numbers are in range: a nice value that is set is one, a priority that is lent is one,
-- and a parent's record keeps its bounds
abbrev pub IsSoundChange : ℕ → RecordChange → Type 0
IsSoundChange now ran = Unit {0}
IsSoundChange now runs = Unit {0}
IsSoundChange now sleeps = Unit {0}
IsSoundChange now woken = Unit {0}
IsSoundChange now (ticked load) = Unit {0}
IsSoundChange now (placed c) = Unit {0}
IsSoundChange now (changed (Lend p)) = p < 256
IsSoundChange now (changed Unlend) = Unit {0}
IsSoundChange now (changed (Renice n)) = IsNice n
IsSoundChange now (changed (Inherit run)) = Unit {0}
IsSoundChange now forks = Unit {0}
IsSoundChange now (forked parent c load) = KeepsBounds parent × IsBy now parent × IsNice parent.nice × (parent.base < 256)

-- settings whose slice is in range
pub record HasSlice (settings : Settings) : Type 0 where
  pub low : 6 ≤ settings.slice
  pub high : settings.slice ≤ 1000

-- what every record of a world keeps beside its bounds: its numbers are in range
pub record HasNumbers (r : ThreadRecord) : Type 0 where
  pub id : r.id < 256
  pub base : r.base < 256
  pub priority : r.priority < 256
  pub nice : IsNice r.nice

-- the law: no change changes the number
abbrev pub ChangesLeaveTheNumber : Type 0
ChangesLeaveTheNumber =
    (settings : Settings) (now : ℕ) (change : RecordChange) (r : ThreadRecord) → (record_after settings now change r).id ≡ r.id

-- the law: sound changes at a time no earlier than what is noted keep the bounds
abbrev pub ChangesKeepBounds : Type 0
ChangesKeepBounds =
    (settings : Settings) (now : ℕ) (change : RecordChange) (r : ThreadRecord) → HasSlice settings → IsSoundChange now change →
    IsNice r.nice → IsBy now r → now < 2 ^ 36 → KeepsBounds r → KeepsBounds (record_after settings now change r)

-- the law: they keep the numbers in range
abbrev pub ChangesKeepNumbers : Type 0
ChangesKeepNumbers =
    (settings : Settings) (now : ℕ) (change : RecordChange) (r : ThreadRecord) → IsSoundChange now change →
    HasNumbers r → HasNumbers (record_after settings now change r)

-- the law: what they note happened by their time
abbrev pub ChangesAreByNow : Type 0
ChangesAreByNow =
    (settings : Settings) (now : ℕ) (change : RecordChange) (r : ThreadRecord) →
    IsBy now r → IsBy now (record_after settings now change r)
