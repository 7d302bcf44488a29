use Rattle.std.proofs.Common.{◌+◌, arith}
use Rattle.ule_topo.proofs.InsideLaws.{cpu_there}
use Rattle.ule_topo.proofs.topology.Topology.mask.Goals as goal

pub returns-clause-there : goal.returns-clause-there
returns-clause-there c d has_it =
    cpu_there c.args.self.now.cpus c.args.self.now.groups c.groups.ensures.tree d (c.args.g + 1) c.args.g (omega arith) c.requires has_it
