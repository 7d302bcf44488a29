use Rattle.ule_top.proofs.WeaveLaws.{weaves_setup, weaves_unread}
use Rattle.ule_top.proofs.weave.weave.Goals as goal

pub returns-in-Ok : goal.returns-in-Ok
returns-in-Ok g c = weaves_setup _ _ _ _ _ c.in-Ok.setup c.in-Ok.ensures c.weave_setup.ensures

pub returns-in-Err : goal.returns-in-Err
returns-in-Err g c = weaves_unread _ _ _ _ _ c.in-Err.why c.in-Err.ensures c.tell.ensures
