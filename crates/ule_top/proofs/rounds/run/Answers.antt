use Rattle.ule_top.proofs.RunLaws.{runs_setup, runs_unread}
use Rattle.ule_top.proofs.rounds.run.Goals as goal

pub returns-in-Ok : goal.returns-in-Ok
returns-in-Ok g c = runs_setup _ _ _ _ _ c.in-Ok.setup c.in-Ok.ensures c.play_setup.ensures

pub returns-in-Err : goal.returns-in-Err
returns-in-Err g c = runs_unread _ _ _ _ _ c.in-Err.why c.in-Err.ensures c.tell.ensures
