use Rattle.std.proofs.Common.{rules}
use Rattle.ule_model.specs.CpuValue.{value_ticked}
use Rattle.ule_tdq.proofs.PromiseLaws.{goes_on_by_value, ticked_goes_on}
use Rattle.ule_tdq.proofs.StandsLaws.{tick_answers}
use Rattle.ule_tdq.proofs.tdq.Tdq.clock.Goals as goal

pub returns-in-None-clause-value : goal.returns-in-None-clause-value
returns-in-None-clause-value c = search rules

pub returns-in-None-clause-reply : goal.returns-in-None-clause-reply
returns-in-None-clause-reply c = search rules

pub returns-in-None-clause-calendar : goal.returns-in-None-clause-calendar
returns-in-None-clause-calendar c =
    goes_on_by_value c.args.self.now c.count_tick.new.self (value_ticked c.args.now c.args.self.now).0 c.calendar_is_kept.ensures
    (returns-in-None-clause-value c) (ticked_goes_on c.args.now c.args.self.now)

pub returns-in-None-clause-stands : goal.returns-in-None-clause-stands
returns-in-None-clause-stands c =
    tick_answers c.args.now c.args.self.now c.count_tick.new.self _ (returns-in-None-clause-value c) (returns-in-None-clause-reply c)

pub returns-in-Some-clause-value : goal.returns-in-Some-clause-value
returns-in-Some-clause-value c = search rules

pub returns-in-Some-clause-reply : goal.returns-in-Some-clause-reply
returns-in-Some-clause-reply c = search rules

pub returns-in-Some-clause-calendar : goal.returns-in-Some-clause-calendar
returns-in-Some-clause-calendar c =
    goes_on_by_value c.args.self.now c.charge_tick.new.self (value_ticked c.args.now c.args.self.now).0 c.calendar_is_kept.ensures
    (returns-in-Some-clause-value c) (ticked_goes_on c.args.now c.args.self.now)

pub returns-in-Some-clause-stands : goal.returns-in-Some-clause-stands
returns-in-Some-clause-stands c =
    tick_answers c.args.now c.args.self.now c.charge_tick.new.self _ (returns-in-Some-clause-value c) (returns-in-Some-clause-reply c)

pub returns-in-Some-clause-kept : goal.returns-in-Some-clause-kept
returns-in-Some-clause-kept c = c.charge_tick.ensures.kept

pub returns-in-Some-clause-no_earlier : goal.returns-in-Some-clause-no_earlier
returns-in-Some-clause-no_earlier c = c.charge_tick.ensures.no_earlier
