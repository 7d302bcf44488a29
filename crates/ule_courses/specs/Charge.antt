-- What the commands of a worker are charged.
use Rattle.std.specs.Prelude.{ℕ, List}
use Rattle.std.specs.List.{sum_by}
use Rattle.ule_types.specs.Commands.{greatest_of}
use Rattle.ule_types.specs.declared.command.Command.{Command}

-- the greatest number of items of a worker's commands, on so many CPUs
abbrev pub greatest_in : ℕ → ℕ → List Command → ℕ
greatest_in cpus worker list = sum_by (λ c. greatest_of c worker cpus) list
