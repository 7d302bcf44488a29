-- The workers so far have no further event.
use Rattle.std.proofs.Common.{◌≡◌, drop}
use Rattle.ule_check.specs.JudgeValue.{missing_in}
use Rattle.ule_check.proofs.judge.missing.Given as goal

abbrev pub invariant-loop-worker : goal.invariant-loop-worker
invariant-loop-worker l = missing_in 0 l.seats ≡ missing_in l.worker (drop l.worker l.seats)
