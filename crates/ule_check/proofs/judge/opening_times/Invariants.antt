-- The times so far are that of the start.
use Rattle.std.proofs.Common.{◌≡◌, replicate}
use Rattle.ule_check.proofs.judge.opening_times.Given as goal

abbrev pub invariant-loop-lock : goal.invariant-loop-lock
invariant-loop-lock l = l.times.items ≡ replicate l._lock 20000
