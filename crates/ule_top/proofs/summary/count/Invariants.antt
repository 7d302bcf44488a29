use Rattle.std.proofs.Common.{◌≡◌, ◌≤◌, take}
use Rattle.ule_top.specs.Summary.{count_of, is_one_of}
use Rattle.ule_top.proofs.summary.count.Given as goal

abbrev pub invariant-loop-k : goal.invariant-loop-k
invariant-loop-k l = (l.n ≡ count_of (is_one_of l.which) (take l.k l.o.entries)) × (l.n ≤ l.k)
