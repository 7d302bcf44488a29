use Rattle.ule_top.proofs.CheckLaws.{checks_input, checks_unread}
use Rattle.ule_top.proofs.check.check.Goals as goal

pub returns-in-Ok : goal.returns-in-Ok
returns-in-Ok g c = checks_input _ _ _ _ _ _ c.in-Ok.ensures (rw c.as_slice.ensures at c.check_input.ensures)

pub returns-in-Err : goal.returns-in-Err
returns-in-Err g c = checks_unread _ _ _ _ _ c.in-Err.why c.in-Err.ensures c.tell.ensures
