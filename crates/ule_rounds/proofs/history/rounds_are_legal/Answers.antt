use Rattle.ule_rounds.proofs.HistoryLaws.{history_of_rounds}
use Rattle.ule_rounds.proofs.history.rounds_are_legal.Goals as goal

pub returns : goal.returns
returns c = history_of_rounds
