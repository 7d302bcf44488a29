use Rattle.std.proofs.Common.{arith}
use Rattle.ule_history.proofs.ForkDecayLemmas.{quotients-lt}
use Rattle.ule_history.proofs.fork_child.Goals as goal

pub returns-then-sum-gt-SCHED_SLP_RUN_FORK-clause-bounded :
    goal.returns-then-sum-gt-SCHED_SLP_RUN_FORK-clause-bounded
returns-then-sum-gt-SCHED_SLP_RUN_FORK-clause-bounded c =
    let sum_lt : _ = quotients-lt c.args.h.run c.args.h.slept 512000 (omega arith) c.if-sum-gt-SCHED_SLP_RUN_FORK.true in
    omega arith
