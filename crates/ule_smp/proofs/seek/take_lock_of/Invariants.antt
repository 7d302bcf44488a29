use Rattle.std.proofs.Common.{◌≡◌}
use Rattle.ule_smp.proofs.seek.take_lock_of.Given as goal

abbrev pub invariant-loop : goal.invariant-loop
invariant-loop g l = l.p ≡ record l.initial.p { worker = record l.initial.p.worker { read = l.p.worker.read } }
