-- The lines of the CPUs so far.
use Rattle.std.proofs.Common.{◌≡◌, take}
use Rattle.ule_seq.specs.Outcomes.{queue_lines}
use Rattle.ule_seq.proofs.world.World.set_cpus.Given as goal

abbrev pub invariant-loop-guarded : goal.invariant-loop-guarded
invariant-loop-guarded l = l.out ≡ record l.initial.out { cpus = queue_lines (take l.guarded-index l.self.values) }
