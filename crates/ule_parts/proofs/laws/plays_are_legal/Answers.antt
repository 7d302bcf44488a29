use Rattle.ule_parts.proofs.Legality as legality
use Rattle.ule_parts.proofs.laws.plays_are_legal.Goals as goal

pub returns : goal.returns
returns c = legality.plays_are_legal
