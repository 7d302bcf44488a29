-- Worked values of a plan, by computing.
use Rattle.std.proofs.Common.{◌≡◌, ℕ, List, [], ◌∷◌, Some, None, true, false, refl}
use Rattle.ule_topo.specs.Mask.{below, has_cpu, without_cpu}
use Rattle.ule_topo.specs.Tree.{Tree}
use Rattle.ule_topo.specs.declared.look.Summary.{Summary}
use Rattle.ule_search.specs.Jitter.{word_after_steps}
use Rattle.ule_search.specs.Search.{best_cpu, comes_first, key_of, may_be_highest, may_be_lowest, path_through, rank_by, sum_below}
use Rattle.ule_balance.specs.Plan.{opening_plan, plan_next, plan_told}

-- two CPUs in a root
abbrev pair : Tree
pair = record { cpus = 2; groups = record { id = 0; parent = None; cpus = 3; depth = 1 } ∷ [] }

-- looks at two CPUs of these loads, each of which has as many movable threads
abbrev loads : ℕ → ℕ → List Summary
loads a b = record { load = a; movable = a; lowpri = 172 } ∷ record { load = b; movable = b; lowpri = 172 } ∷ []

-- of loads 3 and 1 CPU 0 gives to CPU 1; each search draws twice
first_pair :
    ((plan_next pair (loads 3 1) (opening_plan 2) 0).pair ≡ Some (0, 1)) ×
    ((plan_next pair (loads 3 1) (opening_plan 2) 0).plan ≡ record { donors = 2; takers = 2; high = Some 0; fresh = true }) ×
    ((plan_next pair (loads 3 1) (opening_plan 2) 0).word ≡ word_after_steps 4 0)
unfolding word_after_steps key_of sum_below below has_cpu without_cpu path_through rank_by comes_first best_cpu may_be_highest may_be_lowest
first_pair = (refl, refl, refl)

-- after a move CPU 1 gives nothing to CPU 0, which has given all that it may
ends_after_a_move : (plan_next pair (loads 3 1) (plan_told 1 true (plan_next pair (loads 3 1) (opening_plan 2) 0).plan) 0).pair ≡ None
unfolding word_after_steps key_of sum_below below has_cpu without_cpu path_through rank_by comes_first best_cpu may_be_highest may_be_lowest
ends_after_a_move = refl

-- after a failure CPU 0 is kept, and finds no other taker; CPU 1, sought in its place, finds none either
ends_after_a_failure :
    ((plan_next pair (loads 3 1) (plan_told 1 false (plan_next pair (loads 3 1) (opening_plan 2) 0).plan) 0).pair ≡ None) ×
    ((plan_next pair (loads 3 1) (plan_told 1 false (plan_next pair (loads 3 1) (opening_plan 2) 0).plan) 0).plan ≡ record { donors = 0; takers = 0; high = Some 1; fresh = true })
unfolding word_after_steps key_of sum_below below has_cpu without_cpu path_through rank_by comes_first best_cpu may_be_highest may_be_lowest
ends_after_a_failure = (refl, refl)

-- of equal loads none gives
equal_loads : (plan_next pair (loads 2 2) (opening_plan 2) 0).pair ≡ None
unfolding word_after_steps key_of sum_below below has_cpu without_cpu path_through rank_by comes_first best_cpu may_be_highest may_be_lowest
equal_loads = refl
