-- The rounds through lists of distinct numbers below 256, where links are mended.
use Rattle.std.proofs.Common.{◌≡◌, ◌≢◌, ◌==◌, ℕ, zero, suc, ◌<◌, ◌≤◌, List, length, cond, get_or, refl, sym, ◌∙◌, ap, subst, ⊎_elim, arith, add-one}
use Rattle.std.proofs.lemmas.Bool.{cases_lt}
use Rattle.std.proofs.lemmas.List.{get_or_default, get_or_past}
use Rattle.std.proofs.lemmas.List.Edits.{length-insert, get_or-insert_below, get_or-insert_at, get_or-insert_above, length-remove, get_or-remove_below, get_or-remove_above}
use Rattle.std.proofs.lemmas.List.Sums.{get_or-le-sum_by}
use Rattle.std.specs.List.{insert, remove}
use Rattle.ule_runq.proofs.Counts.{count, once, once_same, count_two}
use Rattle.ule_runq.specs.Links.{round_at, IsChain}

-- the numbers of a list are below 256, and each stands there once
pub record IsRow (xs : List ℕ) : Type 0 where
  pub once : (u : ℕ) → count u xs ≤ 1
  pub small : (u : ℕ) → 0 < count u xs → u < 256

-- what stands at a place stands in the list
pub count_at : (xs : List ℕ) (i d : ℕ) → i < length xs → 0 < count (get_or xs i d) xs
count_at xs i d inside =
    let t : ℕ = get_or xs i d in
    let some : once t t ≤ count t xs = get_or-le-sum_by (λ x. cond (x == t) 1 0) xs i d inside in
    let one : once t t ≡ 1 = once_same t in
    omega arith

-- what stands at a place is below 256
pub small_at : (xs : List ℕ) (i : ℕ) → IsRow xs → i < length xs → get_or xs i 256 < 256
small_at xs i row inside = row.small (get_or xs i 256) (count_at xs i 256 inside)

-- two places in rising order have different numbers
apart_places : (xs : List ℕ) (i j : ℕ) → IsRow xs → i < j → j ≤ length xs → get_or xs i 256 ≡ get_or xs j 256 → ⊥
apart_places xs i j row order most same =
    ⊎_elim
    (λ (inside : j < length xs).
    let two = count_two (get_or xs j 256) xs i j order inside (get_or_default xs i 0 256 (omega arith) ∙ same) (get_or_default xs j 0 256 inside) in
    let few = row.once (get_or xs j 256) in
    omega arith)
    (λ (past : length xs ≤ j).
    let end : get_or xs j 256 ≡ 256 = get_or_past xs j 256 past in
    let low = small_at xs i row (omega arith) in
    omega arith)
    (cases_lt j (length xs))

-- two places of a list, or its end, with the same number are one
pub same_place : (xs : List ℕ) (i j : ℕ) → IsRow xs → i ≤ length xs → j ≤ length xs → get_or xs i 256 ≡ get_or xs j 256 → i ≡ j
same_place xs i j row iin jin same =
    ⊎_elim
    (λ (less : i < j). absurd (apart_places xs i j row less jin same))
    (λ (most : j ≤ i). ⊎_elim
    (λ (less : j < i). absurd (apart_places xs j i row less iin (sym same)))
    (λ (least : i ≤ j). omega arith)
    (cases_lt j i))
    (cases_lt i j)

-- the same of the round's places before its end
pub same_round : (xs : List ℕ) (i j : ℕ) → IsRow xs → i ≤ length xs → j ≤ length xs → round_at xs i ≡ round_at xs j → i ≡ j
same_round xs zero zero row iin jin same = refl
same_round xs zero (suc j) row iin jin same = absurd (let low = small_at xs j row (omega arith) in omega arith)
same_round xs (suc i) zero row iin jin same = absurd (let low = small_at xs i row (omega arith) in omega arith)
same_round xs (suc i) (suc j) row iin jin same = ap suc (same_place xs i j row (omega arith) (omega arith) same)

-- what holds of 256 and of each number of a list holds at each place of its round
pub round_in : (P : ℕ → Type 0) (xs : List ℕ) → P 256 → ((u : ℕ) → 0 < count u xs → P u) → (k : ℕ) → P (round_at xs k)
round_in P xs none each zero = none
round_in P xs none each (suc k) =
    ⊎_elim
    (λ (inside : k < length xs). each (get_or xs k 256) (count_at xs k 256 inside))
    (λ (past : length xs ≤ k). subst P (sym (get_or_past xs k 256 past)) none)
    (cases_lt k (length xs))

module _ (next prev next' prev' : ℕ → ℕ) (xs : List ℕ) (chain : IsChain next prev xs) where
  -- a chain stays where the links of its places stay
  pub chain_kept : (next' 256 ≡ next 256) × (prev' 256 ≡ prev 256) → ((u : ℕ) → 0 < count u xs → (next' u ≡ next u) × (prev' u ≡ prev u)) → IsChain next' prev' xs
  chain_kept none each k most =
      let same = round_in (λ u. (next' u ≡ next u) × (prev' u ≡ prev u)) xs none each in
      ((same k).0 ∙ (chain k most).0, (same (suc k)).1 ∙ (chain k most).1)

module _ (xs : List ℕ) (k : ℕ) (inside : k < length xs) where
  -- the places up to the removed one stay
  removed_before : (j : ℕ) → j ≤ k → round_at (remove xs k) j ≡ round_at xs j
  removed_before zero most = refl
  removed_before (suc j) most = get_or-remove_below xs k 256 j (omega arith) inside

  -- the places behind the removed one move up by one
  removed_behind : (j : ℕ) → k < j → round_at (remove xs k) j ≡ round_at xs (suc j)
  removed_behind zero more = absurd (omega arith)
  removed_behind (suc j) more = get_or-remove_above xs k 256 j (omega arith) inside ∙ ap (λ n. get_or xs n 256) (add-one j)

  module _ (next prev next' prev' : ℕ → ℕ) (row : IsRow xs) (chain : IsChain next prev xs) where
    -- a thread is unlinked where the places around it lead to each other
    pub chain_removed : next' (round_at xs k) ≡ round_at xs (suc (suc k)) → ((u : ℕ) → u ≢ round_at xs k → next' u ≡ next u) →
        prev' (round_at xs (suc (suc k))) ≡ round_at xs k → ((u : ℕ) → u ≢ round_at xs (suc (suc k)) → prev' u ≡ prev u) → IsChain next' prev' (remove xs k)
    chain_removed over nexts back prevs j most =
        let shorter = length-remove xs k inside in
        ⊎_elim
        (λ (before : j < k).
        rw (removed_before j (omega arith), removed_before (suc j) (omega arith)) (
          nexts (round_at xs j) (λ same. let is = same_round xs j k row (omega arith) (omega arith) same in omega arith) ∙ (chain j (omega arith)).0,
          prevs (round_at xs (suc j)) (λ same. let is = same_place xs j (suc k) row (omega arith) (omega arith) same in omega arith) ∙ (chain j (omega arith)).1,
        ))
        (λ (from : k ≤ j). ⊎_elim
        (λ (behind : k < j).
        rw (removed_behind j behind, removed_behind (suc j) (omega arith)) (
          nexts (round_at xs (suc j)) (λ same. let is = same_round xs (suc j) k row (omega arith) (omega arith) same in omega arith) ∙ (chain (suc j) (omega arith)).0,
          prevs (round_at xs (suc (suc j))) (λ same. let is = same_place xs (suc j) (suc k) row (omega arith) (omega arith) same in omega arith) ∙ (chain (suc j) (omega arith)).1,
        ))
        (λ (most' : j ≤ k).
        let here : j ≡ k = omega arith in
        rw here rw (removed_before k (omega arith), removed_behind (suc k) (omega arith)) (over, back))
        (cases_lt k j))
        (cases_lt j k)

module _ (xs : List ℕ) (k t : ℕ) (inside : k ≤ length xs) where
  -- the places up to the new one stay
  inserted_before : (j : ℕ) → j ≤ k → round_at (insert xs k t) j ≡ round_at xs j
  inserted_before zero most = refl
  inserted_before (suc j) most = get_or-insert_below xs k t 256 j (omega arith) inside

  -- the new one stands behind them
  inserted_here : round_at (insert xs k t) (suc k) ≡ t
  inserted_here = get_or-insert_at xs k t 256 inside

  -- the places behind it move back by one
  inserted_behind : (j : ℕ) → k < j → round_at (insert xs k t) (suc j) ≡ round_at xs j
  inserted_behind zero more = absurd (omega arith)
  inserted_behind (suc j) more = ap (λ n. get_or (insert xs k t) n 256) (sym (add-one j)) ∙ get_or-insert_above xs k t 256 j (omega arith) inside

  module _ (next prev next' prev' : ℕ → ℕ) (row : IsRow xs) (absent : count t xs ≡ 0) (small : t < 256) (chain : IsChain next prev xs) where
    -- no place has the new number yet
    other : (j : ℕ) → round_at xs j ≢ t
    other j = round_in (λ u. u ≢ t) xs (λ same. omega arith) (λ u some same. let none : count u xs ≡ 0 = ap (λ x. count x xs) same ∙ absent in omega arith) j

    -- a thread is linked in where two places that led to each other lead to it
    pub chain_inserted : next' (round_at xs k) ≡ t → next' t ≡ round_at xs (suc k) → ((u : ℕ) → u ≢ round_at xs k → u ≢ t → next' u ≡ next u) →
        prev' (round_at xs (suc k)) ≡ t → prev' t ≡ round_at xs k → ((u : ℕ) → u ≢ round_at xs (suc k) → u ≢ t → prev' u ≡ prev u) → IsChain next' prev' (insert xs k t)
    chain_inserted into out nexts back_out back_into prevs j most =
        let longer = length-insert xs k t inside in
        ⊎_elim
        (λ (before : j < k).
        rw (inserted_before j (omega arith), inserted_before (suc j) (omega arith)) (
          nexts (round_at xs j) (λ same. let is = same_round xs j k row (omega arith) (omega arith) same in omega arith) (other j) ∙ (chain j (omega arith)).0,
          prevs (round_at xs (suc j)) (λ same. let is = same_place xs j k row (omega arith) (omega arith) same in omega arith) (other (suc j)) ∙ (chain j (omega arith)).1,
        ))
        (λ (from : k ≤ j). ⊎_elim
        (λ (behind : suc k < j). later j behind most)
        (λ (near : j ≤ suc k). ⊎_elim
        (λ (first : j < suc k).
        let here : j ≡ k = omega arith in
        rw here rw (inserted_before k (omega arith), inserted_here) (into, back_into))
        (λ (second : suc k ≤ j).
        let here : j ≡ suc k = omega arith in
        rw here rw (inserted_here, inserted_behind (suc k) (omega arith)) (out, back_out))
        (cases_lt j (suc k)))
        (cases_lt (suc k) j))
        (cases_lt j k)
      where
        later : (i : ℕ) → suc k < i → i ≤ length (insert xs k t) →
            (next' (round_at (insert xs k t) i) ≡ round_at (insert xs k t) (suc i)) × (prev' (round_at (insert xs k t) (suc i)) ≡ round_at (insert xs k t) i)
        later zero behind many = absurd (omega arith)
        later (suc i) behind many =
            let longer = length-insert xs k t inside in
            rw (inserted_behind i (omega arith), inserted_behind (suc i) (omega arith)) (
              nexts (round_at xs i) (λ same. let is = same_round xs i k row (omega arith) (omega arith) same in omega arith) (other i) ∙ (chain i (omega arith)).0,
              prevs (round_at xs (suc i)) (λ same. let is = same_place xs i k row (omega arith) (omega arith) same in omega arith) (other (suc i)) ∙ (chain i (omega arith)).1,
            )
