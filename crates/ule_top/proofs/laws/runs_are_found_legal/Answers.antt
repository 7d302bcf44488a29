-- A scenario with the trace of its rounds is found legal.
use Rattle.ule_top.proofs.FoundLegal.{runs_are_found_legal}
use Rattle.ule_top.proofs.laws.runs_are_found_legal.Goals as goal

pub returns : goal.returns
returns c = runs_are_found_legal
