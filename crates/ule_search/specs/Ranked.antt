-- CPUs with their lists, as the loops of the searches keep them.
use Rattle.std.specs.Prelude.{ℕ, ℤ, Bool, List, Option, Some, None, if◌then◌else◌}
use Rattle.ule_search.specs.declared.rank.Ranked.{Ranked}

-- a CPU with its list
abbrev pub with_rank : (ℕ → List ℤ) → ℕ → Ranked
with_rank rank c = record { cpu = c; rank = rank c }

-- the CPU that was found, if one was, with its list
abbrev pub found_with_rank : (ℕ → List ℤ) → Option ℕ → Option Ranked
found_with_rank rank None = None
found_with_rank rank (Some c) = Some (with_rank rank c)

-- the CPU that is kept, if one is
abbrev pub ranked_cpu : Option Ranked → Option ℕ
ranked_cpu None = None
ranked_cpu (Some r) = Some r.cpu

-- the better of one that is kept, if one is, and a next one
abbrev pub better_ranked : (List ℤ → List ℤ → Bool) → Option Ranked → Ranked → Option Ranked
better_ranked before None r = Some r
better_ranked before (Some kept) r = if before r.rank kept.rank then Some r else Some kept
