use Rattle.ule_micro.specs.Opening.{AreFreeLocks}
use Rattle.ule_micro.proofs.opening.free_locks.Given as goal

abbrev pub invariant-loop-lock : goal.invariant-loop-lock
invariant-loop-lock l = AreFreeLocks l._lock l.locks.items
