-- The time so far, with that of the lists left, is that at the end.
use Rattle.std.proofs.Common.{◌≡◌, ◌+◌, drop}
use Rattle.ule_model.specs.Ends.{end_time}
use Rattle.ule_model.specs.Legal.{amount_in_all}
use Rattle.ule_check.proofs.time.end_of.Given as goal

abbrev pub invariant-loop-worker : goal.invariant-loop-worker
invariant-loop-worker l = l.end + amount_in_all (drop l.worker l.s.scripts) ≡ end_time l.s.scripts
