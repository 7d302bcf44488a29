-- Numbers of which no two are the same, by how often each stands.
use Rattle.std.proofs.Common.{◌≡◌, ℕ, zero, suc, ◌+◌, ◌<◌, ◌≤◌, ◌==◌, Bool, true, false, not, cond, List, [], ◌∷◌, ◌++◌, length, set, get_or, refl, sym, ap, ◌∙◌, arith, ⊎_elim}
use Rattle.std.specs.Prelude.{nat_lt}
use Rattle.std.specs.List.{list_all, flat_map}
use Rattle.std.proofs.lemmas.Bool.{and_from, and_parts, not-true, eqb-true, eq-eqb, false≢true, or_cases, or_parts, lt-ltb}
use Rattle.std.proofs.lemmas.Grind.{flat_map-append}
use Rattle.std.proofs.lemmas.List.{append-nil}
use Rattle.std.proofs.lemmas.List.Folds.{list_all-append}
use Rattle.ule_types.specs.Commands.{is_among, forked_by}
use Rattle.ule_types.specs.Rules.{is_distinct, are_numbers, forked_in_all}
use Rattle.ule_types.specs.declared.command.Command.{Command}

-- how often a number stands in a list
abbrev pub times_among : ℕ → List ℕ → ℕ
times_among x [] = 0
times_among x (y ∷ ys) = cond (y == x) 1 0 + times_among x ys

-- how often a number stands in two lists
times-append : (x : ℕ) (xs ys : List ℕ) → times_among x (xs ++ ys) ≡ times_among x xs + times_among x ys
times-append x [] ys = omega arith
times-append x (z ∷ xs) ys = omega (arith, times-append x xs ys)

-- a number that isn't among others
times_none : (x : ℕ) (xs : List ℕ) → is_among xs x ≡ false → times_among x xs ≡ 0
times_none x [] none = refl
times_none x (y ∷ xs) none =
    let parts = or_parts (y == x) (is_among xs x) none in
    rw (parts.0, times_none x xs parts.1) refl

-- a number that is among others
times_some : (x : ℕ) (xs : List ℕ) → is_among xs x ≡ true → 1 ≤ times_among x xs
times_some x [] some = absurd (false≢true some)
times_some x (y ∷ xs) some =
    ⊎_elim
    (λ here. rw here (omega arith))
    (λ later. omega (arith, times_some x xs later))
    (or_cases (y == x) (is_among xs x) some)

-- no number stands twice among distinct ones
distinct_once : (xs : List ℕ) (x : ℕ) → is_distinct xs ≡ true → times_among x xs ≤ 1
distinct_once [] x all = omega arith
distinct_once (y ∷ xs) x all =
    let parts = and_parts (not (is_among xs y)) (is_distinct xs) all in
    by_first (y == x) refl (not-true (is_among xs y) parts.0) (distinct_once xs x parts.1)
  where
    by_first : (b : Bool) → (y == x) ≡ b → is_among xs y ≡ false → times_among x xs ≤ 1 → cond (y == x) 1 0 + times_among x xs ≤ 1
    by_first true here none once =
        let same : y ≡ x = eqb-true y x here in
        let later : times_among x xs ≡ 0 = times_none x xs (ap (is_among xs) (sym same) ∙ none) in
        rw (here, later) (omega arith)
    by_first false other none once = rw other (omega (arith, once))

-- numbers of which none stands twice
once_distinct : (xs : List ℕ) → ((x : ℕ) → times_among x xs ≤ 1) → is_distinct xs ≡ true
once_distinct [] once = refl
once_distinct (y ∷ xs) once =
    and_from (not (is_among xs y)) (is_distinct xs) (not_later (is_among xs y) refl) (once_distinct xs (λ x. omega (arith, once x)))
  where
    not_later : (b : Bool) → is_among xs y ≡ b → not (is_among xs y) ≡ true
    not_later true some =
        let here : (y == y) ≡ true = eq-eqb y y refl in
        let two : cond (y == y) 1 0 + times_among y xs ≤ 1 = once y in
        let first : 1 + times_among y xs ≤ 1 = rw here at two in
        absurd (omega (arith, first, times_some y xs some))
    not_later false none = ap not none

-- how often each stands among distinct numbers and another one
times_new : (xs : List ℕ) (t x : ℕ) → is_distinct xs ≡ true → is_among xs t ≡ false → times_among x xs + times_among x (t ∷ []) ≤ 1
times_new xs t x all none = by_last (t == x) refl
  where
    by_last : (b : Bool) → (t == x) ≡ b → times_among x xs + times_among x (t ∷ []) ≤ 1
    by_last true here =
        let gone : times_among x xs ≡ 0 = times_none x xs (ap (is_among xs) (sym (eqb-true t x here)) ∙ none) in
        rw (gone, here) (omega arith)
    by_last false other = rw other (omega (arith, distinct_once xs x all))

-- a list with one number more, which is none of those of a list of distinct ones
pub distinct_with : (xs ys : List ℕ) (t : ℕ) → ((x : ℕ) → times_among x ys ≡ times_among x xs + times_among x (t ∷ [])) → is_distinct xs ≡ true → is_among xs t ≡ false → is_distinct ys ≡ true
distinct_with xs ys t more all none = once_distinct ys (λ x. omega (arith, more x, times_new xs t x all none))

-- a list in which each number stands as often as in a list of distinct ones
pub distinct_as : (xs ys : List ℕ) → ((x : ℕ) → times_among x ys ≡ times_among x xs) → is_distinct xs ≡ true → is_distinct ys ≡ true
distinct_as xs ys same all = once_distinct ys (λ x. omega (arith, same x, distinct_once xs x all))

-- numbers with one more between them that is none of them
pub numbers_between : (xs ys : List ℕ) (t : ℕ) → t < 256 → are_numbers (xs ++ ys) ≡ true → is_among (xs ++ ys) t ≡ false → are_numbers ((xs ++ t ∷ []) ++ ys) ≡ true
numbers_between xs ys t small all none =
    let below : ℕ → Bool = λ u. nat_lt u 256 in
    let parts = and_parts (list_all below (xs ++ ys)) (is_distinct (xs ++ ys)) all in
    let halves = and_parts (list_all below xs) (list_all below ys) (sym (list_all-append below xs ys) ∙ parts.0) in
    let front : list_all below (xs ++ t ∷ []) ≡ true = list_all-append below xs (t ∷ []) ∙ and_from (list_all below xs) (list_all below (t ∷ [])) halves.0 (and_from (nat_lt t 256) true (lt-ltb t 256 small) refl) in
    and_from (list_all below ((xs ++ t ∷ []) ++ ys)) (is_distinct ((xs ++ t ∷ []) ++ ys))
    (list_all-append below (xs ++ t ∷ []) ys ∙ and_from (list_all below (xs ++ t ∷ [])) (list_all below ys) front halves.1)
    (distinct_with (xs ++ ys) ((xs ++ t ∷ []) ++ ys) t
    (λ x. omega (arith, times-append x (xs ++ t ∷ []) ys, times-append x xs (t ∷ []), times-append x xs ys)) parts.1 none)

-- numbers with one more behind them that is none of them
pub numbers_behind : (xs : List ℕ) (t : ℕ) → t < 256 → are_numbers xs ≡ true → is_among xs t ≡ false → are_numbers (xs ++ t ∷ []) ≡ true
numbers_behind xs t small all none =
    let whole : xs ++ [] ≡ xs = append-nil xs in
    ap are_numbers (sym (append-nil (xs ++ t ∷ []))) ∙ numbers_between xs [] t small (ap are_numbers whole ∙ all) (ap (λ (l : List ℕ). is_among l t) whole ∙ none)

-- how often a thread is forked with one command more
pub times_forked : (x w : ℕ) (scripts : List (List Command)) (c : Command) → w < length scripts →
    times_among x (forked_in_all (set scripts w (get_or scripts w [] ++ c ∷ []))) ≡ times_among x (forked_in_all scripts) + times_among x (forked_by c)
times_forked x w [] c within = absurd (omega arith)
times_forked x zero (s ∷ scripts) c within =
    let last = append-nil (forked_by c) in
    omega (
      arith,
      times-append x (flat_map forked_by (s ++ c ∷ [])) (forked_in_all scripts),
      times-append x (flat_map forked_by s) (forked_in_all scripts),
      ap (times_among x) (flat_map-append forked_by s (c ∷ [])),
      times-append x (flat_map forked_by s) (flat_map forked_by (c ∷ [])),
      ap (times_among x) last,
    )
times_forked x (suc w) (s ∷ scripts) c within =
    omega (
      arith,
      times-append x (flat_map forked_by s) (forked_in_all (set scripts w (get_or scripts w [] ++ c ∷ []))),
      times-append x (flat_map forked_by s) (forked_in_all scripts),
      times_forked x w scripts c (omega arith),
    )

-- a test of all that are forked, with one command more
pub all_forked : (p : ℕ → Bool) (w : ℕ) (scripts : List (List Command)) (c : Command) → w < length scripts →
    list_all p (forked_in_all scripts) ≡ true → list_all p (forked_by c) ≡ true → list_all p (forked_in_all (set scripts w (get_or scripts w [] ++ c ∷ []))) ≡ true
all_forked p w [] c within all more = absurd (omega arith)
all_forked p zero (s ∷ scripts) c within all more =
    let parts = and_parts (list_all p (flat_map forked_by s)) (list_all p (forked_in_all scripts)) (sym (list_all-append p (flat_map forked_by s) (forked_in_all scripts)) ∙ all) in
    let last : list_all p (flat_map forked_by (c ∷ [])) ≡ true = ap (list_all p) (append-nil (forked_by c)) ∙ more in
    let front : list_all p (flat_map forked_by (s ++ c ∷ [])) ≡ true =
    ap (list_all p) (flat_map-append forked_by s (c ∷ [])) ∙ list_all-append p (flat_map forked_by s) (flat_map forked_by (c ∷ []))
    ∙ and_from (list_all p (flat_map forked_by s)) (list_all p (flat_map forked_by (c ∷ []))) parts.0 last in
    list_all-append p (flat_map forked_by (s ++ c ∷ [])) (forked_in_all scripts) ∙ and_from (list_all p (flat_map forked_by (s ++ c ∷ []))) (list_all p (forked_in_all scripts)) front parts.1
all_forked p (suc w) (s ∷ scripts) c within all more =
    let others = forked_in_all (set scripts w (get_or scripts w [] ++ c ∷ [])) in
    let parts = and_parts (list_all p (flat_map forked_by s)) (list_all p (forked_in_all scripts)) (sym (list_all-append p (flat_map forked_by s) (forked_in_all scripts)) ∙ all) in
    list_all-append p (flat_map forked_by s) others ∙ and_from (list_all p (flat_map forked_by s)) (list_all p others) parts.0 (all_forked p w scripts c (omega arith) parts.1 more)
