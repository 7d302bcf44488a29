use Rattle.ule_topo.proofs.InsideLaws.{behind_is_inside}
use Rattle.ule_topo.proofs.laws.groups_behind_are_inside.Goals as goal

pub returns : goal.returns
returns c = behind_is_inside
