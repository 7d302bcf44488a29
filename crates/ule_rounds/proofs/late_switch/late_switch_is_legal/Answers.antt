use Rattle.ule_rounds.proofs.LateSwitchLaws.{late_switch_is_legal}
use Rattle.ule_rounds.proofs.late_switch.late_switch_is_legal.Goals as goal

pub returns : goal.returns
returns c = late_switch_is_legal
