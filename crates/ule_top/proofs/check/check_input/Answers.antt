use Rattle.std.proofs.Common.{arith}
use Rattle.ule_top.proofs.CheckLaws.{front_within, input_gave, input_told}
use Rattle.ule_top.proofs.check.check_input.Goals as goal

pub split_at-requires : goal.split_at-requires
split_at-requires g c = omega (arith, front_within c.args.input.now, c.in-Ok.ensures.3)

pub returns-in-Ok : goal.returns-in-Ok
returns-in-Ok g c = input_gave c.args.input.now _ c.in-Ok.setup c.in-Ok.count _ _ _ c.requires c.in-Ok.ensures c.split_at.ensures.back c.check_trace.ensures

pub returns-in-Err : goal.returns-in-Err
returns-in-Err g c = input_told c.args.input.now c.in-Err.fault c.why_refused.result _ _ _ c.requires c.in-Err.ensures c.why_refused.ensures c.tell.ensures
