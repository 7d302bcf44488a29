use Rattle.ule_history.proofs.HistoryUpdateLemmas.{IsBoundedHistory-updated_history}
use Rattle.ule_history.proofs.history_update_is_bounded.Goals as goal

pub returns : goal.returns
returns c = IsBoundedHistory-updated_history
