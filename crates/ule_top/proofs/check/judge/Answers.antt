use Rattle.ule_top.proofs.CheckLaws.{verdict_gave}
use Rattle.ule_top.proofs.check.judge.Goals as goal

pub returns : goal.returns
returns g c = verdict_gave _ _ _ _ _ _ _ _ c.len.ensures c.in-Ok.ensures c.status_of.ensures.value (c.finish.ensures _ _ c.write_verdict-written.ensures)
