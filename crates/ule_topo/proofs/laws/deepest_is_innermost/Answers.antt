use Rattle.ule_topo.proofs.InsideLaws.{deepest_innermost}
use Rattle.ule_topo.proofs.laws.deepest_is_innermost.Goals as goal

pub returns : goal.returns
returns c = deepest_innermost
