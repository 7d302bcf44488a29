use Rattle.ule_score.proofs.BoundsLemmas.{better_of-lower}
use Rattle.ule_score.proofs.bounds.effective_priority_is_the_lower.Goals as goal

pub returns : goal.returns
returns c = better_of-lower
