-- Worked values of the searches, by computing.
use Rattle.std.proofs.Common.{◌≡◌, List, [], ◌∷◌, replicate, map, pos, negsuc, Some, None, refl}
use Rattle.ule_topo.specs.Mask.{below, has_cpu}
use Rattle.ule_topo.specs.Tree.{Tree}
use Rattle.ule_topo.specs.declared.look.Summary.{Summary}
use Rattle.ule_search.specs.Jitter.{draw_of_word, word_after_steps}
use Rattle.ule_search.specs.Search.{best_cpu, comes_first, groups_behind, highest, key_of, keys_of, lowest, may_be_highest, may_be_lowest, path_through, rank_by, sum_below, sum_of, word_after_search}

-- ---- two groups of two CPUs, each with one movable thread

-- CPUs 0 and 1, and 2 and 3, in a root
abbrev two_pairs : Tree
two_pairs = record {
  cpus = 4;
  groups =
      record { id = 0; parent = None; cpus = 15; depth = 1 }
      ∷ record { id = 1; parent = Some 0; cpus = 3; depth = 2 }
      ∷ record { id = 2; parent = Some 0; cpus = 12; depth = 2 } ∷ [];
}

-- a look at each of four CPUs of load 1
abbrev four_of_load_1 : List Summary
four_of_load_1 = replicate 4 (record { load = 1; movable = 1; lowpri = 255 })

-- what the word 1 draws
draws : map (λ n. draw_of_word (word_after_steps n 1)) (1 ∷ 2 ∷ 3 ∷ 4 ∷ []) ≡ 0 ∷ 7 ∷ 13 ∷ 14 ∷ []
unfolding word_after_steps
draws = refl

-- the keys with these draws
keys : keys_of four_of_load_1 None 1 ≡ pos 256 ∷ pos 249 ∷ pos 243 ∷ pos 242 ∷ []
unfolding word_after_steps key_of below
keys = refl

-- the sums of the two groups
sums : (sum_of (keys_of four_of_load_1 None 1) 3 ≡ pos 505) × (sum_of (keys_of four_of_load_1 None 1) 12 ≡ pos 485)
unfolding word_after_steps key_of sum_below below has_cpu
sums = (refl, refl)

-- the path of CPU 3 below the root: the sum of its group, then its key twice; below its own group, its key alone
paths :
    (path_through (groups_behind two_pairs 0) (keys_of four_of_load_1 None 1) 3 ≡ pos 485 ∷ pos 242 ∷ pos 242 ∷ []) ×
    (path_through (groups_behind two_pairs 2) (keys_of four_of_load_1 None 1) 3 ≡ pos 242 ∷ pos 242 ∷ pos 242 ∷ [])
unfolding word_after_steps key_of sum_below below has_cpu path_through
paths = (refl, refl)

-- the lowest is CPU 3, and the highest CPU 0
lowest_and_highest : (lowest two_pairs 0 four_of_load_1 15 (negsuc 0) 1 None 1 ≡ Some 3) × (highest two_pairs 0 four_of_load_1 15 1 1 ≡ Some 0)
unfolding word_after_steps key_of sum_below below has_cpu path_through rank_by comes_first best_cpu may_be_lowest may_be_highest
lowest_and_highest = (refl, refl)

-- no CPU has a load of 0, or of 2: none is found, and four numbers are drawn all the same
none_is_found :
    (lowest two_pairs 0 four_of_load_1 15 (negsuc 0) 0 None 1 ≡ None) × (highest two_pairs 0 four_of_load_1 15 2 1 ≡ None) ×
    (word_after_search four_of_load_1 1 ≡ word_after_steps 4 1)
unfolding word_after_steps key_of sum_below below has_cpu path_through rank_by comes_first best_cpu may_be_lowest may_be_highest
none_is_found = (refl, refl, refl)

-- ---- two CPUs of one group, alike

-- two CPUs in a root
abbrev pair : Tree
pair = record { cpus = 2; groups = record { id = 0; parent = None; cpus = 3; depth = 1 } ∷ [] }

-- a look at each, of load 1
abbrev two_of_load_1 : List Summary
two_of_load_1 = replicate 2 (record { load = 1; movable = 1; lowpri = 255 })

-- both searches find the first, since the word 0 draws 0 twice
first_of_equals : (lowest pair 0 two_of_load_1 3 (negsuc 0) 1 None 0 ≡ Some 0) × (highest pair 0 two_of_load_1 3 1 0 ≡ Some 0)
unfolding word_after_steps key_of sum_below below has_cpu path_through rank_by comes_first best_cpu may_be_lowest may_be_highest
first_of_equals = (refl, refl)

-- the preferred CPU is the lower of the two
preferred_is_lower : lowest pair 0 two_of_load_1 3 (negsuc 0) 1 (Some 1) 0 ≡ Some 1
unfolding word_after_steps key_of sum_below below has_cpu path_through rank_by comes_first best_cpu may_be_lowest
preferred_is_lower = refl
