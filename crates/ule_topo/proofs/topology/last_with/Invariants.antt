use Rattle.std.proofs.Common.{◌≡◌, ◌<◌, filter, length}
use Rattle.ule_topo.specs.Mask.{below, has_cpu}
use Rattle.ule_topo.specs.Tree.{group_at, last_group}
use Rattle.ule_topo.proofs.topology.last_with.Given as goal

-- the last group so far that has the CPU was found
abbrev pub invariant-loop-i : goal.invariant-loop-i
invariant-loop-i l = record {
  last : l.found ≡ last_group (filter (λ g. has_cpu (group_at l.groups g).cpus l.c) (below l.i));
  there : l.found < length l.groups;
}
