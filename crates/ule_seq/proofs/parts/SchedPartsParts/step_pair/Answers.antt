-- The code may perform an event that may be performed, whichever lock it names first.
use Rattle.std.proofs.Common.{sym, ap, ◌∙◌, subst}
use Rattle.ule_model.specs.LockConditions.{CanStepPair}
use Rattle.ule_parts.specs.Workers.{Worker}
use Rattle.ule_seq.proofs.PartLaws.{may_falling, may_rising}
use Rattle.ule_seq.proofs.parts.SchedPartsParts.step_pair.Goals as goal

pub step_pair_at-requires : goal.step_pair_at-requires
step_pair_at-requires c =
    subst (λ h. CanStepPair c.args.first.now c.args.second.now h) (ap (λ (o : Worker). o.hand) (sym c.own.view_is))
    (may_rising c.args.self.now c.args.own.now.program.worker c.args.e.now c.args._now c.args.own.now.hand c.args.first.now c.args.second.now c.requires
    (sym c.if-names_lower_first.true ∙ c.names_lower_first.ensures))

pub step_pair_at-requires-else-names_lower_first : goal.step_pair_at-requires-else-names_lower_first
step_pair_at-requires-else-names_lower_first c =
    subst (λ h. CanStepPair c.args.second.now c.args.first.now h) (ap (λ (o : Worker). o.hand) (sym c.own.view_is))
    (may_falling c.args.self.now c.args.own.now.program.worker c.args.e.now c.args._now c.args.own.now.hand c.args.first.now c.args.second.now c.requires
    (sym c.if-names_lower_first.false ∙ c.names_lower_first.ensures))
