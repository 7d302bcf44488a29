use Rattle.std.proofs.Common.{◌≡◌, ◌+◌, ◌*◌, ◌≤◌, ◌++◌, length, map}
use Rattle.std.specs.Prelude.{filter}
use Rattle.std.specs.Fmt.{decimal}
use Rattle.ule_topo.specs.Mask.{below, has_cpu}
use Rattle.ule_trace.specs.Line.{spaced}
use Rattle.ule_plain.proofs.line.spell_cpus.Given as goal

-- the CPUs so far stand behind what was held
abbrev pub invariant-loop-c : goal.invariant-loop-c
invariant-loop-c l = record {
  text : l.held ≡ l.initial.held ++ spaced (map decimal (filter (has_cpu l.mask) (below l.c)));
  growth : length l.held ≤ length l.initial.held + 4 * l.c;
}
