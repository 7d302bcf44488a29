-- What the laws of the scheduler's parts say.
use Rattle.std.specs.Prelude.{◌≡◌, ℕ, ◌≤◌, true, List}
use Rattle.std.specs.List.{list_all}
use Rattle.ule_types.specs.Commands.{greatest_of, is_among, is_command}
use Rattle.ule_types.specs.Rules.{is_distinct}
use Rattle.ule_types.specs.declared.command.Command.{Command}
use Rattle.ule_types.specs.declared.setup.Setup.{Setup}
use Rattle.ule_micro.specs.Laws.{AreOrders, IsLawful, total_charge}
use Rattle.ule_parts.specs.Scheduler.{budget_of, orders_of, sched_means}
use Rattle.ule_parts.specs.Workers.{threads_forked, forks_of, declared_ids_of}

-- scheduler is lawful: the scheduler of every setup keeps all laws of the parts of a scheduler
abbrev pub SchedulerIsLawful : Type 0
SchedulerIsLawful = (s : Setup) → IsLawful (sched_means s)

-- are command lists: commands of a setup for each worker, within the budget of its script, which fork threads that its script forks, and each once
pub record AreCommandLists (s : Setup) (lists : ℕ → List Command) : Type 0 where
  pub commands : (w : ℕ) → list_all (is_command (declared_ids_of s) s.cpus) (lists w) ≡ true
  pub forks : (w t : ℕ) → is_among (threads_forked (lists w)) t ≡ true → is_among (forks_of s w) t ≡ true
  pub once : (w : ℕ) → is_distinct (threads_forked (lists w)) ≡ true
  pub charged : (w : ℕ) → total_charge (λ c. greatest_of c w s.cpus) (lists w) ≤ budget_of s w

-- scripts are orders: the scripts of every setup are such lists, and all such lists are orders of its scheduler
pub record ScriptsAreOrders : Type 0 where
  pub scripts : (s : Setup) → AreCommandLists s (orders_of s)
  pub lists : (s : Setup) (lists : ℕ → List Command) → AreCommandLists s lists → AreOrders (sched_means s) lists
