use Rattle.std.proofs.Common.{◌≡◌}
use Rattle.ule_search.specs.Search.{comes_first, may_be_lowest, rank_up}
use Rattle.ule_search.proofs.BestLaws.{Kept}
use Rattle.ule_search.proofs.search.lowest_among.Given as goal

-- the lowest of the CPUs so far
abbrev pub invariant-loop-c : goal.invariant-loop-c
invariant-loop-c l = l.kept ≡ Kept comes_first (rank_up l.groups l.keys) (may_be_lowest l.group l.mask l.looks l.above l.limit) l.c
