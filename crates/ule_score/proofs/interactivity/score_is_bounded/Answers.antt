use Rattle.ule_score.proofs.ScoreLemmas.{score_of-le}
use Rattle.ule_score.proofs.interactivity.score_is_bounded.Goals as goal

pub returns-clause-score : goal.returns-clause-score
returns-clause-score c = score_of-le
