use Rattle.ule_top.proofs.CheckLaws.{fault_gave, trace_gave}
use Rattle.ule_top.proofs.check.check_trace.Goals as goal

pub returns-in-Ok : goal.returns-in-Ok
returns-in-Ok g c = trace_gave c.args.setup.now c.args.text.now c.in-Ok.outcome _ _ _ c.in-Ok.ensures c.judge.ensures

pub returns-in-Err : goal.returns-in-Err
returns-in-Err g c = fault_gave c.args.setup.now c.args.text.now c.in-Err.fault _ _ _ c.in-Err.ensures c.tell_fault.ensures
