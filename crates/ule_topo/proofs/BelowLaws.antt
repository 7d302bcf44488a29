-- Lists of the numbers below a bound that pass a test.
use Rattle.std.proofs.Common.{◌≡◌, ℕ, zero, suc, ◌+◌, ◌<◌, ◌≤◌, Bool, true, false, [], ◌∷◌, ◌++◌, refl, ◌∙◌, ap, arith, add-one, append-nil, if◌then◌else◌}
use Rattle.std.proofs.lemmas.List.Elements.{filter-append}
use Rattle.std.specs.Prelude.{filter}
use Rattle.ule_topo.specs.Mask.{below}

-- no number is below 0
pub filter_below_none : (p : ℕ → Bool) → filter p (below 0) ≡ []
unfolding below
filter_below_none p = refl

-- one more number
pub below_more : (n : ℕ) → below (n + 1) ≡ below n ++ n ∷ []
unfolding below
below_more n = rw add-one refl

-- one more number that is tested
filter_next : (p : ℕ → Bool) (n : ℕ) → filter p (below (n + 1)) ≡ filter p (below n) ++ filter p (n ∷ [])
filter_next p n = ap (filter p) (below_more n) ∙ filter-append p (below n) (n ∷ [])

-- one more number that passes
pub filter_below_in : (p : ℕ → Bool) (n : ℕ) → p n ≡ true → filter p (below (n + 1)) ≡ filter p (below n) ++ n ∷ []
filter_below_in p n is = filter_next p n ∙ ap (λ b. filter p (below n) ++ (if b then n ∷ [] else [])) is

-- one more number that doesn't
pub filter_below_out : (p : ℕ → Bool) (n : ℕ) → p n ≡ false → filter p (below (n + 1)) ≡ filter p (below n)
filter_below_out p n is = filter_next p n ∙ ap (λ b. filter p (below n) ++ (if b then n ∷ [] else [])) is ∙ append-nil (filter p (below n))

-- more numbers of which none passes
pub filter_below_gap : (p : ℕ → Bool) (n k : ℕ) → ((h : ℕ) → n ≤ h → h < n + k → p h ≡ false) → filter p (below (n + k)) ≡ filter p (below n)
filter_below_gap p n zero none = ap (λ m. filter p (below m)) (omega arith)
filter_below_gap p n (suc k) none =
    let next : n + suc k ≡ n + k + 1 = omega arith in
    ap (λ m. filter p (below m)) next ∙ filter_below_out p (n + k) (none (n + k) (omega arith) (omega arith))
    ∙ filter_below_gap p n k (λ h low high. none h low (omega arith))
