-- The lines that are the name of a command and nothing else.
use Rattle.std.specs.Prelude.{ℕ, ◌+◌, ◌==◌, if◌then◌else◌, codes, bytes_eq, Option, Some, None, List}
use Rattle.ule_types.specs.declared.command.Command.{Command}
use Rattle.ule_types.specs.declared.command.Command.TheVariants.{Tick, Yield, Resched, Exit, Idle, Balance}
use Rattle.ule_scenario.specs.Reading.{Reading, spent_items}
use Rattle.ule_scenario.specs.Reasons.{no_detail, over_budget, charge}
use Rattle.ule_scenario.specs.declared.reason.Reason.{Reason}

-- the command of such a line
unfoldable pub lone_command : List ℕ → Option Command
lone_command line =
    if bytes_eq line (codes "yield") then Some Yield else (
    if bytes_eq line (codes "tick") then Some Tick else (
    if bytes_eq line (codes "resched") then Some Resched else (
    if bytes_eq line (codes "exit") then Some Exit else (
    if bytes_eq line (codes "idle") then Some Idle else (
    if bytes_eq line (codes "balance") then Some Balance else (
    None))))))

-- the first reason against it: it is no header, it stands below no script, or the budget is spent
abbrev pub lone_reason : Reading → Command → Option Reason
lone_reason r c = if r.place == 0 then Some (no_detail 1) else (if r.place == 7 then over_budget (spent_items r + charge r (Some c)) else Some (no_detail 6))
