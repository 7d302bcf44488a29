use Rattle.ule_pick.proofs.AnyLaws.{something_found}
use Rattle.ule_pick.proofs.laws.something_is_found.Goals as goal

pub returns : goal.returns
returns c = something_found
