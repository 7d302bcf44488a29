-- One command more is charged, within all of them.
use Rattle.std.proofs.Common.{◌+◌, arith}
use Rattle.ule_types.specs.Commands.{greatest_of}
use Rattle.ule_types.specs.declared.command.Command.{Command}
use Rattle.ule_seq.proofs.PartLaws.{charged_first, charged_next}
use Rattle.ule_seq.proofs.parts.charged.Goals as goal

pub overflow_add-sum : goal.overflow_add-sum
overflow_add-sum c =
    let next = charged_next (λ (d : Command). greatest_of d c.args.worker c.args.cpus) c.args.commands.now c.loop-c.c-index c.c-item.result c.loop-c-test.true c.c-item.is in
    let first = charged_first (λ (d : Command). greatest_of d c.args.worker c.args.cpus) c.args.commands.now (c.loop-c.c-index + 1) in
    omega (arith, next, first, c.loop-c.invariant, c.greatest-sum.ensures, c.requires)

pub loop-c-preserved : goal.loop-c-preserved
loop-c-preserved c =
    let next = charged_next (λ (d : Command). greatest_of d c.args.worker c.args.cpus) c.args.commands.now c.loop-c.c-index c.c-item.result c.loop-c-test.true c.c-item.is in
    omega (arith, next, c.loop-c.invariant, c.greatest-sum.ensures)
