use Rattle.std.proofs.Common.{refl, ap, rules}
use Rattle.ule_tdq.specs.Queues.{QueuesValue}
use Rattle.ule_tdq.proofs.CpuLaws.{KeepsCpu_start}
use Rattle.ule_tdq.proofs.StandsLaws.{start_answers}
use Rattle.ule_tdq.proofs.tdq.Tdq.start.Goals as goal

pub invariant_of-result : goal.invariant_of-result
invariant_of-result c =
    let empty = c.in_ok-queues.ensures in
    KeepsCpu_start _ c.requires c.in_ok-threads.ensures.slots c.in_ok-threads.ensures.none c.in_ok-threads.ensures.current refl
    (ap (λ (q : QueuesValue). q.real) empty) (ap (λ (q : QueuesValue). q.batch.lists) empty) (ap (λ (q : QueuesValue). q.idle) empty)

pub returns-clause-kept : goal.returns-clause-kept
returns-clause-kept c = invariant_of-result c

pub returns-clause-stands : goal.returns-clause-stands
returns-clause-stands c = start_answers _ _ _ _ (search rules)
