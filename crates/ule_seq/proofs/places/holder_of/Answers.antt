-- The next hand has the thread, or one behind it.
use Rattle.std.proofs.Common.{sym, ap, ◌∙◌}
use Rattle.ule_parts.specs.Workers.{Worker}
use Rattle.ule_seq.specs.Hands.{is_held}
use Rattle.ule_seq.proofs.StepLaws.{hand_has, hand_past}
use Rattle.ule_seq.proofs.places.holder_of.Goals as goal

pub returns-then-holds : goal.returns-then-holds
returns-then-holds c =
    sym (hand_has c.args.m.now.state.seats c.args.t c.loop-worker.worker c.loop-worker.invariant c.own.result.now c.own.ensures
    (ap (λ (o : Worker). is_held o.hand c.args.t) (sym c.behind-m.view_is) ∙ (ap (λ h. is_held h c.args.t) (sym c.get.ensures.held) ∙ (sym c.holds.ensures ∙ c.if-holds.true))))

pub loop-worker-preserved : goal.loop-worker-preserved
loop-worker-preserved c =
    hand_past c.args.m.now.state.seats c.args.t c.loop-worker.worker c.loop-worker.invariant c.own.result.now c.own.ensures
    (ap (λ (o : Worker). is_held o.hand c.args.t) (sym c.behind-m.view_is) ∙ (ap (λ h. is_held h c.args.t) (sym c.get.ensures.held) ∙ (sym c.holds.ensures ∙ c.if-holds.false)))
