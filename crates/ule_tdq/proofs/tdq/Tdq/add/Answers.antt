use Rattle.std.proofs.Common.{◌∙◌, ap, arith, rules}
use Rattle.std.proofs.lemmas.Grind.{common_steps}
use Rattle.ule_model.specs.CpuValue.{value_laid}
use Rattle.ule_tdq.specs.Promise.{dial_of}
use Rattle.ule_tdq.proofs.PromiseLaws.{goes_on_by_dial, laid_goes_on}
use Rattle.ule_tdq.proofs.StandsLaws.{landing_answers}
use Rattle.ule_tdq.proofs.tdq.Tdq.add.Goals as goal

pub invariant_of-self : goal.invariant_of-self
invariant_of-self c = grind (arith, common_steps)

pub returns-clause-kept : goal.returns-clause-kept
returns-clause-kept c = invariant_of-self c

pub returns-clause-value : goal.returns-clause-value
returns-clause-value c = search rules

pub returns-clause-calendar : goal.returns-clause-calendar
returns-clause-calendar c =
    goes_on_by_dial c.args.self.now _ (value_laid c.placed_on-placed.result c.args.self.now) c.calendar_is_kept.ensures
    (ap dial_of c.self-2.view_is ∙ ap dial_of c.file-bucket.ensures.value) (laid_goes_on c.placed_on-placed.result c.args.self.now)

pub returns-clause-stands : goal.returns-clause-stands
returns-clause-stands c = landing_answers c.args.r c.args.remote c.args.self.now _ _ (returns-clause-value c) (search rules)
