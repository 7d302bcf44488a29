use Rattle.std.proofs.Common.{◌≡◌}
use Rattle.ule_words.proofs.locks.Locks.take.Given as goal

abbrev pub invariant-loop : goal.invariant-loop
invariant-loop g l = l.p ≡ l.initial.p
