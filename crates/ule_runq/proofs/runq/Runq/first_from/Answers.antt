use Rattle.std.proofs.Common.{◌<◌, refl, sym, arith}
use Rattle.ule_runq.proofs.RunqLaws.{first_from_Some, times_first}
use Rattle.ule_runq.proofs.Spelled.{all_lists_empty, first_from_empty, first_read, head_small}
use Rattle.ule_runq.proofs.runq.Runq.first_from.Goals as goal

pub returns-then-step-eq-RQ_NQS-clause-value : goal.returns-then-step-eq-RQ_NQS-clause-value
returns-then-step-eq-RQ_NQS-clause-value c =
    let sound = c.empty_from-step.ensures.whole in
    sym (first_from_empty c.args.self.now c.args.b sound c.requires
    (all_lists_empty c.args.self.now c.args.b sound c.requires (λ j below. c.empty_from-step.ensures.before j (omega arith))))

pub returns-then-step-eq-RQ_NQS-clause-none : goal.returns-then-step-eq-RQ_NQS-clause-none
returns-then-step-eq-RQ_NQS-clause-none c = (
  λ _. all_lists_empty c.args.self.now c.args.b c.empty_from-step.ensures.whole c.requires (λ j below. c.empty_from-step.ensures.before j (omega arith)),
  λ _. refl,
)

pub overflow_cast-result : goal.overflow_cast-result
overflow_cast-result c =
    let some : c.empty_from-step.result < 64 = omega (arith, c.empty_from-step.ensures.within) in
    let low = head_small _ _ _ _ c.links.ensures.spells (omega arith) c.from.ensures (c.empty_from-step.ensures.behind some) in omega arith

pub invariant_of-result : goal.invariant_of-result
invariant_of-result c =
    let some : c.empty_from-step.result < 64 = omega (arith, c.empty_from-step.ensures.within) in
    head_small _ _ _ _ c.links.ensures.spells (omega arith) c.from.ensures (c.empty_from-step.ensures.behind some)

pub returns-clause-value : goal.returns-clause-value
returns-clause-value c =
    let some : c.empty_from-step.result < 64 = omega (arith, c.empty_from-step.ensures.within) in
    sym (first_read _ _ c.args.b c.empty_from-step.result _ c.links.ensures.spells c.requires some c.empty_from-step.ensures.before
    (c.empty_from-step.ensures.behind some) c.from.ensures)

pub returns-clause-found : goal.returns-clause-found
returns-clause-found c =
    let some : c.empty_from-step.result < 64 = omega (arith, c.empty_from-step.ensures.within) in
    times_first c.args.self.now c.args.b _ _ c.links.ensures.whole c.requires
    (first_read _ _ c.args.b c.empty_from-step.result _ c.links.ensures.spells c.requires some c.empty_from-step.ensures.before
    (c.empty_from-step.ensures.behind some) c.from.ensures)

pub returns-clause-nearest : goal.returns-clause-nearest
returns-clause-nearest c =
    let some : c.empty_from-step.result < 64 = omega (arith, c.empty_from-step.ensures.within) in
    first_from_Some c.args.self.now c.args.b _ _ c.links.ensures.whole.buckets c.requires
    (first_read _ _ c.args.b c.empty_from-step.result _ c.links.ensures.spells c.requires some c.empty_from-step.ensures.before
    (c.empty_from-step.ensures.behind some) c.from.ensures)
