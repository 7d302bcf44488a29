use Rattle.std.proofs.Common.{refl}
use Rattle.ule_runq.proofs.Spelled.{SpellsLists-empty}
use Rattle.ule_runq.proofs.links.Links.empty.Goals as goal

pub returns : goal.returns
returns c = SpellsLists-empty _ refl refl refl refl refl refl
