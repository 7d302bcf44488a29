-- The start: an empty world in which each declared thread is queued, in order.
use Rattle.std.specs.Prelude.{ℕ, ◌+◌, ◌/◌, ◌%◌, ◌^◌, ℤ, pos, [], ◌∷◌, ◌++◌, fold, replicate, slice_set, Some, None, if◌then◌else◌}
use Rattle.ule_history.specs.declared.CpuUse.{CpuUse}
use Rattle.ule_history.specs.declared.History.{History}
use Rattle.ule_prio.specs.declared.class.Class.{Class}
use Rattle.ule_prio.specs.declared.class.Class.TheVariants as class
use Rattle.ule_score.specs.TimesharePriority.{timeshare_priority}
use Rattle.ule_score.specs.declared.place.Place.TheVariants.{Unborn}
use Rattle.ule_score.specs.declared.record.CpuLine.{CpuLine}
use Rattle.ule_score.specs.declared.record.Settings.{Settings}
use Rattle.ule_score.specs.declared.record.ThreadRecord.{ThreadRecord}
pub use Rattle.ule_search.specs.Jitter.{stepped_word}
use Rattle.ule_types.specs.declared.setup.Form.{Form}
use Rattle.ule_types.specs.declared.setup.Form.TheVariants.{Ts, Ithd, Rt, Fifo, Idle}
use Rattle.ule_types.specs.declared.setup.Setup.{Setup}
use Rattle.ule_types.specs.declared.setup.ThreadSpec.{ThreadSpec}
use Rattle.ule_model.specs.Insertion.{Ordinary, queued}
use Rattle.ule_model.specs.World.{Member, Side, World, fresh_line, side_of, with_side}

-- the time of the start, in hz ticks since the boot
abbrev pub starting_time : ℕ
starting_time = 20000

abbrev pub fresh_history : History
fresh_history = record { run = 0; slept = 0 }

abbrev pub fresh_use : CpuUse
fresh_use = record { ticks = 0; ltick = starting_time; ftick = starting_time }

abbrev pub class_of : Form → Class
class_of (Ts n) = class.Ts
class_of (Ithd p) = class.Ithd
class_of (Rt p) = class.Rt
class_of (Fifo p) = class.Fifo
class_of (Idle p) = class.Idle

-- nice is 0 outside the timeshare class
abbrev pub nice_of : Form → ℤ
nice_of (Ts n) = n
nice_of (Ithd p) = pos 0
nice_of (Rt p) = pos 0
nice_of (Fifo p) = pos 0
nice_of (Idle p) = pos 0

-- the base priority at the start: computed for a timeshare thread, declared for any other
abbrev pub base_of : Settings → Form → ℕ
base_of settings (Ts n) = timeshare_priority fresh_history fresh_use n settings.interact
base_of settings (Ithd p) = p
base_of settings (Rt p) = p
base_of settings (Fifo p) = p
base_of settings (Idle p) = p

-- the record of a declared thread
abbrev pub record_of : Settings → ThreadSpec → ThreadRecord
record_of settings spec = record {
  id = spec.id;
  parent = None;
  class = class_of spec.form;
  nice = nice_of spec.form;
  base = base_of settings spec.form;
  lent = None;
  priority = base_of settings spec.form;
  hist = fresh_history;
  usage = fresh_use;
  slice_count = 0;
  slept_at = 0;
  last = spec.cpu;
  last_run = starting_time;
  bound = if spec.bound then Some spec.cpu else None;
}

-- the record of an unborn thread
abbrev pub unborn_record : ℕ → ThreadRecord
unborn_record t = record {
  id = t;
  parent = None;
  class = class.Ts;
  nice = pos 0;
  base = 172;
  lent = None;
  priority = 172;
  hist = fresh_history;
  usage = fresh_use;
  slice_count = 0;
  slept_at = 0;
  last = 0;
  last_run = starting_time;
  bound = None;
}

-- a thread that stands among the unborn
abbrev pub unborn_member : ThreadRecord → Member
unborn_member r = record { thread = r; place = Unborn; order = pos 0 }

-- the side with a new thread queued on CPU c
abbrev pub laid_on : ℕ → ThreadRecord → Side → Side
laid_on c r s = queued Ordinary c r.id (record s { members = s.members ++ unborn_member r ∷ [] })

-- the world with a declared thread queued on its CPU
abbrev pub laid : World → ThreadSpec → World
laid w spec = with_side spec.cpu (laid_on spec.cpu (record_of w.settings spec) (side_of spec.cpu w)) w

-- the world with an unborn thread
abbrev pub with_unborn : World → ℕ → World
with_unborn w t = record w { members = w.members ++ unborn_member (unborn_record t) ∷ [] }

-- CPU 0's balance word after its first step, and the count that it gives
abbrev pub first_balance_word : ℕ → ℕ
first_balance_word jitter = stepped_word ((jitter + 16) % 2 ^ 32)

abbrev pub balance_count : ℕ → ℕ
balance_count word = 64 + word / 2 ^ 25

-- CPU 0's numbers at the start
abbrev pub start_line : ℕ → CpuLine
start_line jitter = record fresh_line { balance = balance_count (first_balance_word jitter) }

-- the world before any thread is laid
abbrev pub empty_world : Setup → World
empty_world s = record {
  settings = s.settings;
  members = [];
  lines = slice_set (replicate s.cpus fresh_line) 0 (start_line s.jitter);
  balance_word = first_balance_word s.jitter;
}

-- the world at the start
abbrev pub world_at_start : Setup → World
world_at_start s = fold with_unborn (fold laid (empty_world s) s.threads) s.unborn
