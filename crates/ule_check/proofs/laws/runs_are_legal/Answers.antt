-- The rounds are judged legal.
use Rattle.ule_check.proofs.WholeLaws.{runs_are_legal}
use Rattle.ule_check.proofs.laws.runs_are_legal.Goals as goal

pub returns : goal.returns
returns c = runs_are_legal
