-- An example of a legal history that no rounds make: an entry is earlier than the one before it, with
-- which it shares neither a lock nor the worker.
use Rattle.std.specs.Prelude.{pos, true, false, List, [], ◌∷◌, replicate, Some, None, refl}
use Rattle.ule_score.specs.declared.record.Why.TheVariants as why
use Rattle.ule_types.specs.Defaults.{default_settings}
use Rattle.ule_types.specs.declared.command.Command.{Command}
use Rattle.ule_types.specs.declared.command.Command.TheVariants.{Time, Yield}
use Rattle.ule_types.specs.declared.event.Entry.{Entry}
use Rattle.ule_types.specs.declared.event.Event.TheVariants.{Switch}
use Rattle.ule_types.specs.declared.event.Reply.TheVariants.{Switched}
use Rattle.ule_types.specs.declared.setup.Form.TheVariants.{Ts}
use Rattle.ule_types.specs.declared.setup.Setup.{Setup}
use Rattle.ule_model.specs.Conditions.{IsPossible}
use Rattle.ule_model.specs.Legal.{IsLegal, after_entry}
use Rattle.ule_model.specs.Start.{world_at_start}
use Rattle.ule_model.specs.World.{World}

-- two CPUs with a thread each, and no script
abbrev pub two_cpus : Setup
two_cpus = record {
  settings = default_settings;
  jitter = 1;
  cpus = 2;
  groups = [];
  threads =
      record { id = 0; form = Ts (pos 0); cpu = 0; bound = true } ∷
      record { id = 1; form = Ts (pos 0); cpu = 1; bound = true } ∷ [];
  unborn = [];
  scripts = replicate 16 [];
  turns = [];
  rules = record { settings = refl; jitter = refl; cpus = refl; groups = refl; group_count = refl; group_cpus = refl; threads = refl; numbers = refl; workers = refl; idle = refl; commands = refl; budget = refl; forks = refl; forked_once = refl; turns = refl; turn_count = refl };
}

-- a list of commands for each of the two workers: the first lets time pass before it yields
abbrev pub late_lists : List (List Command)
late_lists = (Time 5 ∷ Yield ∷ []) ∷ (Yield ∷ []) ∷ []

-- the first entry is a switch of CPU 0 after those five ticks
abbrev pub later_switch : Entry
later_switch = record { worker = 0; event = Switch 0 why.Yield; now = 20005; reply = Switched None (Some 0) false }

-- the second entry is a switch of CPU 1 at the start
abbrev pub earlier_switch : Entry
earlier_switch = record { worker = 1; event = Switch 1 why.Yield; now = 20000; reply = Switched None (Some 1) false }

-- the world before the second entry
abbrev pub between_switches : World
between_switches = after_entry (world_at_start two_cpus) later_switch

-- the two entries are a legal history of those lists, and each is possible at its time in the world before it
pub record LateSwitchIsLegal : Type 0 where
  pub legal : IsLegal two_cpus late_lists (later_switch ∷ earlier_switch ∷ [])
  pub later : IsPossible (world_at_start two_cpus) later_switch.worker later_switch.event later_switch.now
  pub earlier : IsPossible between_switches earlier_switch.worker earlier_switch.event earlier_switch.now
