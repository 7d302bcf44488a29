use Rattle.std.proofs.Common.{arith}
use Rattle.std.proofs.lemmas.Grind.{common_steps}
use Rattle.ule_tdq.proofs.PromiseLaws.{changed_goes_on}
use Rattle.ule_tdq.proofs.StandsLaws.{change_answers}
use Rattle.ule_tdq.proofs.tdq.Tdq.change.Goals as goal

pub returns-clause-calendar : goal.returns-clause-calendar
returns-clause-calendar c =
    changed_goes_on c.kind_of_queued-kind.result _ c.args.remote c.after_change-new.result c.args.self.now c.keep.new.self c.follow.new.self
    c.calendar_is_kept.ensures c.keep.ensures.value c.follow.ensures.value

pub returns-clause-value : goal.returns-clause-value
returns-clause-value c = grind (arith, common_steps)

pub returns-clause-reply : goal.returns-clause-reply
returns-clause-reply c = grind (arith, common_steps)

pub returns-clause-stands : goal.returns-clause-stands
returns-clause-stands c =
    change_answers c.args.t c.args.c c.args.remote c.args.self.now _ _ c.requires.present (returns-clause-value c) (returns-clause-reply c)

pub returns-clause-kept : goal.returns-clause-kept
returns-clause-kept c = c.follow.ensures.kept
