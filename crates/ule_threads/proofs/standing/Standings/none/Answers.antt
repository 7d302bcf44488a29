use Rattle.ule_threads.proofs.SlotLaws.{none_of_all}
use Rattle.ule_threads.proofs.standing.Standings.none.Goals as goal

pub returns-clause-none : goal.returns-clause-none
returns-clause-none c = none_of_all c.in-Ok.slots.items c.in-Ok.ensures.items
