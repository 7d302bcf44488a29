-- A whole legal history and its end is judged legal.
use Rattle.ule_check.proofs.WholeLaws.{whole_is_legal}
use Rattle.ule_check.proofs.laws.whole_is_legal.Goals as goal

pub returns : goal.returns
returns c = whole_is_legal
