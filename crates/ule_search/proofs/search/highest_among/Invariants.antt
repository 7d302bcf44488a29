use Rattle.std.proofs.Common.{◌≡◌}
use Rattle.ule_search.specs.Search.{comes_last, may_be_highest, rank_down}
use Rattle.ule_search.proofs.BestLaws.{Kept}
use Rattle.ule_search.proofs.search.highest_among.Given as goal

-- the highest of the CPUs so far
abbrev pub invariant-loop-c : goal.invariant-loop-c
invariant-loop-c l = l.kept ≡ Kept comes_last (rank_down l.groups l.keys) (may_be_highest l.group l.mask l.looks l.at_least) l.c
