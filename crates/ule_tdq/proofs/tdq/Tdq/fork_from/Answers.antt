use Rattle.std.proofs.Common.{ap, refl, rules}
use Rattle.ule_tdq.specs.Promise.{dial_of}
use Rattle.ule_tdq.proofs.PromiseLaws.{goes_on_as_it_was}
use Rattle.ule_tdq.proofs.StandsLaws.{fork_answers}
use Rattle.ule_tdq.proofs.tdq.Tdq.fork_from.Goals as goal

pub returns-in_err-t-clause-value : goal.returns-in_err-t-clause-value
returns-in_err-t-clause-value c = search rules

pub returns-in_err-t-clause-child : goal.returns-in_err-t-clause-child
returns-in_err-t-clause-child c = search rules

pub returns-in_err-t-clause-parent : goal.returns-in_err-t-clause-parent
returns-in_err-t-clause-parent c = search rules

pub returns-in_err-t-clause-calendar : goal.returns-in_err-t-clause-calendar
returns-in_err-t-clause-calendar c = goes_on_as_it_was c.args.self.now _ c.calendar_is_kept.ensures refl

pub returns-in_err-t-clause-stands : goal.returns-in_err-t-clause-stands
returns-in_err-t-clause-stands c =
    fork_answers c.args.now c.args.child.now _ _ c.args.self.now _ (returns-in_err-t-clause-value c) (returns-in_err-t-clause-child c) (returns-in_err-t-clause-parent c)

pub returns-clause-value : goal.returns-clause-value
returns-clause-value c = search rules

pub returns-clause-child : goal.returns-clause-child
returns-clause-child c = search rules

pub returns-clause-parent : goal.returns-clause-parent
returns-clause-parent c = search rules

pub returns-clause-calendar : goal.returns-clause-calendar
returns-clause-calendar c = goes_on_as_it_was c.args.self.now _ c.calendar_is_kept.ensures (ap dial_of c.charge_fork.ensures.value)

pub returns-clause-stands : goal.returns-clause-stands
returns-clause-stands c =
    fork_answers c.args.now c.args.child.now _ _ c.args.self.now _ (returns-clause-value c) (returns-clause-child c) (returns-clause-parent c)

pub returns-clause-kept : goal.returns-clause-kept
returns-clause-kept c = c.charge_fork.ensures.kept

pub returns-clause-no_earlier : goal.returns-clause-no_earlier
returns-clause-no_earlier c = c.charge_fork.ensures.no_earlier
