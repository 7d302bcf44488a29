-- An example of a stretch: a thread that stays queued in a calendar comes nearer by one bucket at a tick.
use Rattle.std.specs.Prelude.{◌≡◌, pos, false, List, [], ◌∷◌, replicate, Some, None, refl}
use Rattle.ule_score.specs.declared.record.Why.TheVariants as why
use Rattle.ule_types.specs.Defaults.{default_settings}
use Rattle.ule_types.specs.declared.command.Command.{Command}
use Rattle.ule_types.specs.declared.command.Command.TheVariants as command
use Rattle.ule_types.specs.declared.event.Entry.{Entry}
use Rattle.ule_types.specs.declared.event.Event.TheVariants.{Switch, Tick}
use Rattle.ule_types.specs.declared.event.Reply.TheVariants.{Switched, Ticked}
use Rattle.ule_types.specs.declared.setup.Form.TheVariants.{Ts}
use Rattle.ule_types.specs.declared.setup.Setup.{Setup}
use Rattle.ule_model.specs.CalendarIndexes.{distance_of}
use Rattle.ule_model.specs.CalendarPromise.{IsStretch, numbers_on}
use Rattle.ule_model.specs.Legal.{IsLegal, replayed}
use Rattle.ule_model.specs.Start.{world_at_start}

-- one CPU with two threads, and no script
abbrev pub one_cpu : Setup
one_cpu = record {
  settings = default_settings;
  jitter = 1;
  cpus = 1;
  groups = [];
  threads =
      record { id = 0; form = Ts (pos 0); cpu = 0; bound = false } ∷
      record { id = 1; form = Ts (pos 0); cpu = 0; bound = false } ∷ [];
  unborn = [];
  scripts = replicate 16 [];
  turns = [];
  rules = record { settings = refl; jitter = refl; cpus = refl; groups = refl; group_count = refl; group_cpus = refl; threads = refl; numbers = refl; workers = refl; idle = refl; commands = refl; budget = refl; forks = refl; forked_once = refl; turns = refl; turn_count = refl };
}

-- the worker's list: it lets thread 0 run, and a tick passes
abbrev pub yield_and_tick : List (List Command)
yield_and_tick = (command.Yield ∷ command.Tick ∷ []) ∷ []

-- thread 0 is chosen
abbrev pub yielded_entry : Entry
yielded_entry = record { worker = 0; event = Switch 0 why.Yield; now = 20000; reply = Switched None (Some 0) false }

-- the tick finds both indexes equal
abbrev pub ticked_entry : Entry
ticked_entry = record { worker = 0; event = Tick 0; now = 20000; reply = Ticked (Some 0) false false }

-- the entries of that list
abbrev pub yielded_and_ticked : List Entry
yielded_and_ticked = yielded_entry ∷ ticked_entry ∷ []

-- the entries are a legal history of that list, and a stretch of thread 1, which is 17 buckets from the removal index
-- before it and 16 after it
pub record ThreadComesNearer : Type 0 where
  pub legal : IsLegal one_cpu yield_and_tick yielded_and_ticked
  pub stretch : IsStretch 0 17 1 (world_at_start one_cpu) yielded_and_ticked
  pub before : distance_of (numbers_on 0 (world_at_start one_cpu)).ridx 17 ≡ 17
  pub after : distance_of (numbers_on 0 (replayed (world_at_start one_cpu) yielded_and_ticked)).ridx 17 ≡ 16
