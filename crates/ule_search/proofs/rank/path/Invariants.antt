use Rattle.std.proofs.Common.{◌≡◌, drop}
use Rattle.ule_search.specs.Search.{path_through}
use Rattle.ule_search.proofs.rank.path.Given as goal

-- the path through the groups from here on
abbrev pub invariant-loop-i : goal.invariant-loop-i
invariant-loop-i l = l.path ≡ path_through (drop l.i l.groups) l.keys l.c
