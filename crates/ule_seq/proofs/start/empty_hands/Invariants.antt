-- The workers so far have an empty hand each.
use Rattle.std.proofs.Common.{◌≡◌, None, replicate}
use Rattle.ule_seq.proofs.start.empty_hands.Given as goal

abbrev pub invariant-loop-worker : goal.invariant-loop-worker
invariant-loop-worker l = l.hands.items ≡ replicate l._worker None
