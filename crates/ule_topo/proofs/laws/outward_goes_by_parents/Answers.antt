use Rattle.ule_topo.proofs.InsideLaws.{outward_by_parents, outward_meets_holders}
use Rattle.ule_topo.proofs.laws.outward_goes_by_parents.Goals as goal

pub returns-clause-parents : goal.returns-clause-parents
returns-clause-parents c = outward_by_parents

pub returns-clause-holders : goal.returns-clause-holders
returns-clause-holders c = outward_meets_holders
