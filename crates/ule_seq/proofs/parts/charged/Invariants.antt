-- The sum is the charge of the commands so far.
use Rattle.std.proofs.Common.{◌≡◌, take}
use Rattle.ule_types.specs.Commands.{greatest_of}
use Rattle.ule_micro.specs.Laws.{total_charge}
use Rattle.ule_seq.proofs.parts.charged.Given as goal

abbrev pub invariant-loop-c : goal.invariant-loop-c
invariant-loop-c l = l.sum ≡ total_charge (λ c. greatest_of c l.worker l.cpus) (take l.c-index l.commands)
