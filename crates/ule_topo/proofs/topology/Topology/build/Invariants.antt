use Rattle.std.proofs.Common.{◌≡◌, ◌-◌, take, drop, replicate, length}
use Rattle.ule_topo.specs.Build.{built, built_behind}
use Rattle.ule_topo.specs.Tree.{no_group}
use Rattle.ule_topo.proofs.topology.Topology.build.Given as goal

-- the lines from here on build, behind the groups so far, what all lines build
abbrev pub invariant-loop-i : goal.invariant-loop-i
invariant-loop-i l = record {
  built : built_behind l.cpus (take l.i l.table) (drop l.i l.lines) ≡ built l.cpus l.lines;
  rest : drop l.i l.table ≡ replicate (15 - l.i) no_group;
  full : length l.table ≡ 15;
}
