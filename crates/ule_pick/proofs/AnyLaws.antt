-- The last search always finds a CPU.
use Rattle.std.proofs.Common.{◌≡◌, ◌-◌, ◌^◌, ◌&&◌, ◌≤◌, ℕ, negsuc, pos, int_lt, nat_le, true, Some, List, refl, sym, ◌∙◌, ap, subst, arith}
use Rattle.std.proofs.lemmas.Bool.{and_from, le-leb, false≢true}
use Rattle.ule_topo.specs.Looks.{look_at}
use Rattle.ule_topo.specs.Mask.{all_cpus, has_cpu}
use Rattle.ule_topo.specs.Tree.{mask_of}
use Rattle.ule_topo.specs.declared.look.Summary.{Summary}
use Rattle.ule_topo.proofs.MaskLaws.{all_cpus_have}
use Rattle.ule_search.specs.Laws.{FindsLowest}
use Rattle.ule_search.specs.Search.{may_be_lowest}
use Rattle.ule_search.proofs.FoundLaws.{lowest_least}
use Rattle.ule_pick.specs.Choice.{SomethingIsFound}

-- a CPU of any priority, within a limit, may be the lowest
may_be : (group mask : ℕ) (looks : List Summary) (limit c : ℕ) → has_cpu group c ≡ true → has_cpu mask c ≡ true → (look_at looks c).load ≤ limit →
    may_be_lowest group mask looks (negsuc 0) limit c ≡ true
unfolding may_be_lowest
may_be group mask looks limit c is_in fits low =
    let s : Summary = look_at looks c in
    and_from (has_cpu group c && has_cpu mask c && int_lt (negsuc 0) (pos s.lowpri)) (nat_le s.load limit)
    (and_from (has_cpu group c && has_cpu mask c) (int_lt (negsuc 0) (pos s.lowpri)) (and_from (has_cpu group c) (has_cpu mask c) is_in fits) refl) (le-leb s.load limit low)

-- CPU 0 may be the lowest, so one is found
pub something_found : SomethingIsFound
something_found t card looks x tree some cpus long light none =
    let all = all_cpus t.cpus in
    let first : has_cpu all 0 ≡ true = all_cpus_have t.cpus 0 cpus in
    let root = tree.root some in
    let nothing = subst (FindsLowest t 0 looks all (negsuc 0) (2 ^ 32 - 1) (Some card.last) x) none (lowest_least t 0 looks all (negsuc 0) (2 ^ 32 - 1) (Some card.last) x) in
    false≢true (sym (nothing 0 (omega (arith, long))) ∙ may_be (mask_of t 0) all looks (2 ^ 32 - 1) 0 (ap (λ n. has_cpu n 0) root.all ∙ first) first (omega arith))
