-- The end of a history, and what a trace tells of it, as functions of setup, lists and entries.
use Rattle.std.specs.Prelude.{ℕ, ◌+◌, List}
use Rattle.ule_types.specs.Outcome.{OutcomeValue}
use Rattle.ule_types.specs.declared.command.Command.{Command}
use Rattle.ule_types.specs.declared.event.Entry.{Entry}
use Rattle.ule_types.specs.declared.setup.Setup.{Setup}
use Rattle.ule_model.specs.Finals.{thread_lines}
use Rattle.ule_model.specs.Legal.{amount_in_all, replayed}
use Rattle.ule_model.specs.Start.{starting_time, world_at_start}
use Rattle.ule_model.specs.World.{World}

-- the world at the end of a history
abbrev pub end_world : Setup → List Entry → World
end_world s es = replayed (world_at_start s) es

-- the time at the end of a history of these lists
abbrev pub end_time : List (List Command) → ℕ
end_time lists = starting_time + amount_in_all lists

-- what a trace tells of a world at this time, behind these entries
abbrev pub outcome_at : World → ℕ → List Entry → OutcomeValue
outcome_at w now es = record { entries = es; threads = thread_lines w.members; cpus = w.lines; now = now; room = 0 }

-- what a trace tells of a history
abbrev pub outcome_of : Setup → List (List Command) → List Entry → OutcomeValue
outcome_of s lists es = outcome_at (end_world s es) (end_time lists) es
