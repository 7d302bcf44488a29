use Rattle.std.proofs.Common.{refl, rules}
use Rattle.ule_model.specs.CpuValue.{value_taken}
use Rattle.ule_tdq.specs.Records.{leaving}
use Rattle.ule_tdq.proofs.PromiseLaws.{goes_on_as_it_was, goes_on_by_value, taken_goes_on}
use Rattle.ule_tdq.proofs.StandsLaws.{leaving_answers}
use Rattle.ule_tdq.proofs.tdq.Tdq.take_current.Goals as goal

pub returns-in_err-t-clause-value : goal.returns-in_err-t-clause-value
returns-in_err-t-clause-value c = search rules

pub returns-in_err-t-clause-taken : goal.returns-in_err-t-clause-taken
returns-in_err-t-clause-taken c = search rules

pub returns-in_err-t-clause-calendar : goal.returns-in_err-t-clause-calendar
returns-in_err-t-clause-calendar c =
    goes_on_as_it_was c.args.self.now _ c.calendar_is_kept.ensures refl

pub returns-in_err-t-clause-stands : goal.returns-in_err-t-clause-stands
returns-in_err-t-clause-stands c =
    leaving_answers c.args.sleeping c.args.now c.args.self.now _ _ (returns-in_err-t-clause-value c) (returns-in_err-t-clause-taken c)

pub returns-in_err-t-clause-no_earlier : goal.returns-in_err-t-clause-no_earlier
returns-in_err-t-clause-no_earlier c = c.requires.in_time

pub returns-in_err-r-clause-value : goal.returns-in_err-r-clause-value
returns-in_err-r-clause-value c = search rules

pub returns-in_err-r-clause-taken : goal.returns-in_err-r-clause-taken
returns-in_err-r-clause-taken c = search rules

pub returns-in_err-r-clause-calendar : goal.returns-in_err-r-clause-calendar
returns-in_err-r-clause-calendar c =
    goes_on_as_it_was c.args.self.now _ c.calendar_is_kept.ensures refl

pub returns-in_err-r-clause-stands : goal.returns-in_err-r-clause-stands
returns-in_err-r-clause-stands c =
    leaving_answers c.args.sleeping c.args.now c.args.self.now _ _ (returns-in_err-r-clause-value c) (returns-in_err-r-clause-taken c)

pub returns-in_err-r-clause-no_earlier : goal.returns-in_err-r-clause-no_earlier
returns-in_err-r-clause-no_earlier c = c.requires.in_time

pub returns-clause-value : goal.returns-clause-value
returns-clause-value c = search rules

pub returns-clause-taken : goal.returns-clause-taken
returns-clause-taken c = search rules

pub returns-clause-calendar : goal.returns-clause-calendar
returns-clause-calendar c =
    goes_on_by_value c.args.self.now c.choose_next.new.self (value_taken (leaving c.args.sleeping) c.args.now c.args.self.now).0 c.calendar_is_kept.ensures
    (returns-clause-value c) (taken_goes_on (leaving c.args.sleeping) c.args.now c.args.self.now)

pub returns-clause-stands : goal.returns-clause-stands
returns-clause-stands c =
    leaving_answers c.args.sleeping c.args.now c.args.self.now _ _ (returns-clause-value c) (returns-clause-taken c)

pub returns-clause-kept : goal.returns-clause-kept
returns-clause-kept c = c.choose_next.ensures.kept

pub returns-clause-no_earlier : goal.returns-clause-no_earlier
returns-clause-no_earlier c = c.choose_next.ensures.no_earlier

pub choose_next-requires-clause-in_time : goal.choose_next-requires-clause-in_time
choose_next-requires-clause-in_time c = c.let_go.ensures.no_earlier c.args.now c.requires.in_time
