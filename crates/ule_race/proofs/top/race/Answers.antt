use Rattle.ule_race.proofs.RaceLaws.{races_setup, races_unread}
use Rattle.ule_race.proofs.top.race.Goals as goal

pub returns-in-Ok : goal.returns-in-Ok
returns-in-Ok g c = races_setup _ _ _ _ _ _ c.in-Ok.setup c.in-Ok.ensures c.race_setup.ensures

pub returns-in-Err : goal.returns-in-Err
returns-in-Err g c = races_unread _ _ _ _ _ c.in-Err.why c.in-Err.ensures c.tell.ensures
