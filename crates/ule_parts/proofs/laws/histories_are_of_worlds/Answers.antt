use Rattle.ule_parts.proofs.Legality as legality
use Rattle.ule_parts.proofs.laws.histories_are_of_worlds.Goals as goal

pub returns : goal.returns
returns c = legality.histories_are_of_worlds
