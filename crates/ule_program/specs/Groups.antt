-- The topology of a setup.
use Rattle.std.specs.Prelude.{ℕ, List, ◌∷◌, [], Result, Ok, Err}
use Rattle.ule_topo.specs.Build.{built, lone_root}
use Rattle.ule_topo.specs.Tree.{Tree}
use Rattle.ule_topo.specs.declared.fault.BuildFault.{BuildFault}
use Rattle.ule_topo.specs.declared.group.Group.{Group}
use Rattle.ule_topo.specs.declared.group.GroupLine.{GroupLine}

-- the groups that were built, or one root of all CPUs where the lines have a fault
abbrev pub groups_built : ℕ → Result Tree BuildFault → List Group
groups_built cpus (Ok t) = t.groups
groups_built cpus (Err f) = lone_root cpus ∷ []

-- the topology of so many CPUs and these group lines
abbrev pub topology_of : ℕ → List GroupLine → Tree
topology_of cpus lines = record { cpus = cpus; groups = groups_built cpus (built cpus lines) }
