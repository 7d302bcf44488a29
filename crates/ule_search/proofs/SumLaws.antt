-- Sums of keys, CPU by CPU.
use Rattle.std.proofs.Common.{◌≡◌, ℕ, ◌+◌, true, false, List, [], ◌∷◌, filter, fold, ℤ, pos, ◌+ℤ◌, refl, ◌∙◌, ap}
use Rattle.std.proofs.lemmas.List.Sums.{fold-append}
use Rattle.ule_topo.specs.Mask.{below, has_cpu}
use Rattle.ule_topo.proofs.BelowLaws.{filter_below_in, filter_below_out}
use Rattle.ule_search.specs.Search.{key_at, sum_below}

-- the sum with the next CPU, where the mask has it
pub sum_more : (n : ℕ) (keys : List ℤ) (mask : ℕ) → has_cpu mask n ≡ true → sum_below (n + 1) keys mask ≡ (sum_below n keys mask +ℤ key_at keys n)
unfolding sum_below
sum_more n keys mask is_in =
    let f : ℤ → ℕ → ℤ = λ a c. a +ℤ key_at keys c in
    ap (fold f (pos 0)) (filter_below_in (has_cpu mask) n is_in) ∙ fold-append f (pos 0) (filter (has_cpu mask) (below n)) (n ∷ [])

-- and where the mask hasn't it
pub sum_same : (n : ℕ) (keys : List ℤ) (mask : ℕ) → has_cpu mask n ≡ false → sum_below (n + 1) keys mask ≡ sum_below n keys mask
unfolding sum_below
sum_same n keys mask is_out = ap (fold (λ a c. a +ℤ key_at keys c) (pos 0)) (filter_below_out (has_cpu mask) n is_out)

-- the sum of no CPU
pub sum_none : (keys : List ℤ) (mask : ℕ) → sum_below 0 keys mask ≡ pos 0
unfolding sum_below below
sum_none keys mask = refl
