use Rattle.ule_rounds.proofs.HistoryLaws.{rounds_are_plays}
use Rattle.ule_rounds.proofs.history.rounds_are_plays.Goals as goal

pub returns : goal.returns
returns c = rounds_are_plays
