use Rattle.std.proofs.Common.{rules}
use Rattle.ule_model.specs.CpuValue.{value_switched}
use Rattle.ule_tdq.proofs.PromiseLaws.{goes_on_by_value, switched_ahead, switched_goes_on}
use Rattle.ule_tdq.proofs.StandsLaws.{switch_answers}
use Rattle.ule_tdq.proofs.tdq.Tdq.switch.Goals as goal

pub returns-then-is_unasked-clause-value : goal.returns-then-is_unasked-clause-value
returns-then-is_unasked-clause-value c = search rules

pub returns-then-is_unasked-clause-reply : goal.returns-then-is_unasked-clause-reply
returns-then-is_unasked-clause-reply c = search rules

pub returns-then-is_unasked-clause-calendar : goal.returns-then-is_unasked-clause-calendar
returns-then-is_unasked-clause-calendar c =
    goes_on_by_value c.args.self.now _ (value_switched c.args.why c.args.now c.args.self.now).0 c.calendar_is_kept.ensures
    (returns-then-is_unasked-clause-value c) (switched_goes_on c.args.why c.args.now c.args.self.now)

pub returns-then-is_unasked-clause-stands : goal.returns-then-is_unasked-clause-stands
returns-then-is_unasked-clause-stands c =
    switch_answers c.args.why c.args.now c.args.self.now _ _ (returns-then-is_unasked-clause-value c) (returns-then-is_unasked-clause-reply c)

pub returns-in-None-clause-value : goal.returns-in-None-clause-value
returns-in-None-clause-value c = search rules

pub returns-in-None-clause-reply : goal.returns-in-None-clause-reply
returns-in-None-clause-reply c = search rules

pub returns-in-None-clause-calendar : goal.returns-in-None-clause-calendar
returns-in-None-clause-calendar c =
    goes_on_by_value c.args.self.now c.choose_next.new.self (value_switched c.args.why c.args.now c.args.self.now).0 c.calendar_is_kept.ensures
    (returns-in-None-clause-value c) (switched_goes_on c.args.why c.args.now c.args.self.now)

pub returns-in-None-clause-stands : goal.returns-in-None-clause-stands
returns-in-None-clause-stands c =
    switch_answers c.args.why c.args.now c.args.self.now c.choose_next.new.self _ (returns-in-None-clause-value c) (returns-in-None-clause-reply c)

pub returns-in-None-clause-kept : goal.returns-in-None-clause-kept
returns-in-None-clause-kept c = c.choose_next.ensures.kept

pub returns-in-Some-clause-value : goal.returns-in-Some-clause-value
returns-in-Some-clause-value c = search rules

pub returns-in-Some-clause-reply : goal.returns-in-Some-clause-reply
returns-in-Some-clause-reply c = search rules

pub returns-in-Some-clause-calendar : goal.returns-in-Some-clause-calendar
returns-in-Some-clause-calendar c =
    goes_on_by_value c.args.self.now c.choose_next-in-Some.new.self (value_switched c.args.why c.args.now c.args.self.now).0 c.calendar_is_kept.ensures
    (returns-in-Some-clause-value c) (switched_goes_on c.args.why c.args.now c.args.self.now)

pub returns-in-Some-clause-stands : goal.returns-in-Some-clause-stands
returns-in-Some-clause-stands c =
    switch_answers c.args.why c.args.now c.args.self.now c.choose_next-in-Some.new.self _ (returns-in-Some-clause-value c) (returns-in-Some-clause-reply c)

pub returns-in-Some-clause-kept : goal.returns-in-Some-clause-kept
returns-in-Some-clause-kept c = c.choose_next-in-Some.ensures.kept

pub returns-then-is_unasked-clause-ahead : goal.returns-then-is_unasked-clause-ahead
returns-then-is_unasked-clause-ahead c = switched_ahead c.args.why c.args.now c.args.self.now

pub returns-in-None-clause-ahead : goal.returns-in-None-clause-ahead
returns-in-None-clause-ahead c = switched_ahead c.args.why c.args.now c.args.self.now

pub returns-in-Some-clause-ahead : goal.returns-in-Some-clause-ahead
returns-in-Some-clause-ahead c = switched_ahead c.args.why c.args.now c.args.self.now

pub returns-then-is_unasked-clause-no_earlier : goal.returns-then-is_unasked-clause-no_earlier
returns-then-is_unasked-clause-no_earlier c = c.requires.in_time

pub returns-in-None-clause-no_earlier : goal.returns-in-None-clause-no_earlier
returns-in-None-clause-no_earlier c = c.choose_next.ensures.no_earlier

pub returns-in-Some-clause-no_earlier : goal.returns-in-Some-clause-no_earlier
returns-in-Some-clause-no_earlier c = c.choose_next-in-Some.ensures.no_earlier

pub choose_next-requires-in-Some-clause-in_time : goal.choose_next-requires-in-Some-clause-in_time
choose_next-requires-in-Some-clause-in_time c = c.give_way.ensures.no_earlier
