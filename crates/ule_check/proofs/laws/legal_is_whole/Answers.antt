-- What is judged legal is a whole legal history.
use Rattle.ule_check.proofs.Sound.{legal_is_whole}
use Rattle.ule_check.proofs.laws.legal_is_whole.Goals as goal

pub returns : goal.returns
returns c = legal_is_whole
