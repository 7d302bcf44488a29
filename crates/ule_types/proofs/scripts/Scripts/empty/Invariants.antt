use Rattle.std.proofs.Common.{◌≡◌, [], vec_len, replicate}
use Rattle.ule_types.proofs.scripts.Scripts.empty.Given as goal

abbrev pub invariant-loop-worker : goal.invariant-loop-worker
invariant-loop-worker l = (l.scripts.items ≡ replicate l._worker []) × (vec_len l.scripts ≡ l._worker)
