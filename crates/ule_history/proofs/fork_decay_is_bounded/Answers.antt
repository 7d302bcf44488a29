use Rattle.ule_history.proofs.ForkDecayLemmas.{child_history-lt}
use Rattle.ule_history.proofs.fork_decay_is_bounded.Goals as goal

pub returns : goal.returns
returns c = child_history-lt
