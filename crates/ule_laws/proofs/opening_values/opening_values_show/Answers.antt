use Rattle.ule_laws.proofs.OpeningLaws.{opening_shows}
use Rattle.ule_laws.proofs.opening_values.opening_values_show.Goals as goal

pub returns : goal.returns
returns c = opening_shows
