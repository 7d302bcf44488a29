-- What holds of the scheduler of a setup, as far as the calls need it.
use Rattle.std.proofs.Common.{◌≡◌, ℕ, ◌<◌, ◌≤◌, List, Some, arith, lt-ltb}
use Rattle.std.proofs.lemmas.Bool.{false≢true}
use Rattle.std.proofs.lemmas.Option.{none-some}
use Rattle.ule_types.specs.declared.command.Command.{Command}
use Rattle.ule_types.specs.declared.command.Command.TheVariants.{Look}
use Rattle.ule_types.specs.declared.event.Event.{Event}
use Rattle.ule_types.specs.declared.event.Item.TheVariants as item
use Rattle.ule_types.specs.declared.setup.Setup.{Setup}
use Rattle.ule_program.specs.Program.{item_at, most_at}
use Rattle.ule_program.specs.declared.own.Own.{Own}
use Rattle.ule_program.specs.declared.stage.Stage.{Stage}
use Rattle.ule_program.specs.declared.stage.Stage.TheVariants.{Ended, Advances, Gives}
use Rattle.ule_parts.specs.Scheduler.{sched_means}
use Rattle.ule_parts.specs.Workers.{IsValid}
use Rattle.ule_smp.specs.Runs.{CountsEvents}

-- event counted: a stage whose item is an event has one item at least
event_counted : (own : Own) (stage : Stage) (e : Event) → item_at stage ≡ Some (item.Event e) → 1 ≤ most_at stage own
event_counted own Ended e is = absurd (none-some _ is)
event_counted own (Advances k) e is = omega arith
event_counted own (Gives f next) e is = omega arith

module _ (s : Setup) where
  -- counts events: a worker that has an event to perform has one item left at least
  pub counts_events : CountsEvents (sched_means s)
  counts_events j o e stands = event_counted o.program o.program.stage e stands.1

  -- look valid: a look at a CPU that there is may be begun at any time
  pub look_valid : (w : ℕ) (given : List Command) (c : ℕ) → c < s.cpus → IsValid s w given (Look c)
  look_valid w given c there = record { command = lt-ltb c s.cpus there; forks = λ t among. absurd (false≢true among) }
