-- The next list's time goes from what is left to what was added.
use Rattle.std.proofs.Common.{arith}
use Rattle.ule_check.proofs.Kept.{end_below}
use Rattle.ule_check.proofs.StartLaws.{amounts_next, script_fits}
use Rattle.ule_check.proofs.time.end_of.Goals as goal

pub amount_in-end-requires-clause-fits : goal.amount_in-end-requires-clause-fits
amount_in-end-requires-clause-fits c = omega (arith, script_fits c.args.s.now c.loop-worker.worker)

pub overflow_add-end : goal.overflow_add-end
overflow_add-end c =
    omega (arith, c.loop-worker.invariant, amounts_next c.args.s.now c.loop-worker.worker c.loop-worker-test.true, c.amount_in-end.ensures, end_below c.args.s.now)
