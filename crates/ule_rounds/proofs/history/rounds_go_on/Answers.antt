use Rattle.ule_rounds.proofs.HistoryLaws.{rounds_go_on}
use Rattle.ule_rounds.proofs.history.rounds_go_on.Goals as goal

pub returns : goal.returns
returns c = rounds_go_on
