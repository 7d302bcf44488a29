-- The code may perform an event that may be performed.
use Rattle.std.proofs.Common.{sym, ap, subst}
use Rattle.ule_model.specs.LockConditions.{CanStepAt}
use Rattle.ule_parts.specs.Workers.{Worker}
use Rattle.ule_parts.proofs.Calls.{may_can}
use Rattle.ule_seq.proofs.parts.SchedPartsParts.step.Goals as goal

pub step_at-requires-clause-step : goal.step_at-requires-clause-step
step_at-requires-clause-step c =
    subst (λ h. CanStepAt c.args.value.now h c.args.e.now c.args.now) (ap (λ (o : Worker). o.hand) (sym c.own.view_is))
    (may_can c.args.self.now c.args.own.now.program.worker c.args.e.now c.args.now c.args.own.now.hand c.args.value.now c.requires)
