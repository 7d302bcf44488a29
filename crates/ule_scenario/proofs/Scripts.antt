-- A command more: what is charged, and what is forked.
use Rattle.std.proofs.Common.{◌≡◌, ℕ, zero, suc, ◌+◌, ◌<◌, Bool, true, false, ◌||◌, List, [], ◌∷◌, ◌++◌, length, map, set, get_or, refl, arith, sym, ap, ◌∙◌}
use Rattle.std.specs.Prelude.{sum, ◌==◌}
use Rattle.std.specs.List.{flat_map}
use Rattle.std.proofs.lemmas.List.Folds.{list_any-append}
use Rattle.std.proofs.lemmas.List.Sums.{sum-map, sum_by-append}
use Rattle.std.proofs.lemmas.Grind.{common_steps, flat_map-append}
use Rattle.ule_types.specs.Commands.{greatest_of, forked_by, is_among}
use Rattle.ule_types.specs.Rules.{budget_from, forked_in_all}
use Rattle.ule_types.specs.declared.command.Command.{Command}
use Rattle.ule_scenario.specs.Marks.{AreMarks}

-- what one script is charged with one command more
charge_push : (worker cpus : ℕ) (xs : List Command) (c : Command) → sum (map (λ x. greatest_of x worker cpus) (xs ++ c ∷ [])) ≡ sum (map (λ x. greatest_of x worker cpus) xs) + greatest_of c worker cpus
charge_push worker cpus xs c =
    let f : Command → ℕ = λ x. greatest_of x worker cpus in
    let a = sum-map f (xs ++ c ∷ []) in
    let b = sum_by-append f xs (c ∷ []) in
    let d = sum-map f xs in
    omega (arith, a, b, d)

-- what all are charged
pub budget_grows : (first w cpus : ℕ) (scripts : List (List Command)) (c : Command) → w < length scripts
    → budget_from first cpus (set scripts w (get_or scripts w [] ++ c ∷ [])) ≡ budget_from first cpus scripts + greatest_of c (first + w) cpus
budget_grows first w cpus [] c within = absurd (omega (arith, within))
budget_grows first zero cpus (s ∷ scripts) c within =
    let e : first + 0 ≡ first = omega arith in
    rw e (omega (arith, charge_push first cpus s c))
budget_grows first (suc w) cpus (s ∷ scripts) c within =
    let e : first + suc w ≡ first + 1 + w = omega arith in
    rw e (omega (arith, budget_grows (first + 1) w cpus scripts c (omega arith)))

-- a thread in lists
either : (xs ys : List ℕ) (t : ℕ) → is_among (xs ++ ys) t ≡ (is_among xs t || is_among ys t)
either xs ys t = list_any-append (λ u. u == t) xs ys

-- the second and the third of three tests change places
turn : (a b c : Bool) → ((a || b) || c) ≡ ((a || c) || b)
turn true b c = refl
turn false true true = refl
turn false true false = refl
turn false false true = refl
turn false false false = refl

-- three tests one after another
assoc : (a b c : Bool) → (a || (b || c)) ≡ ((a || b) || c)
assoc true b c = refl
assoc false b c = refl

-- the threads that are forked, with one command more
pub forks_grow : (w : ℕ) (scripts : List (List Command)) (c : Command) → w < length scripts
    → (t : ℕ) → is_among (forked_in_all (set scripts w (get_or scripts w [] ++ c ∷ []))) t ≡ is_among (forked_in_all scripts ++ forked_by c) t
forks_grow w [] c within t = absurd (omega (arith, within))
forks_grow zero (s ∷ scripts) c within t =
    let f = is_among (flat_map forked_by s) t in
    let g = is_among (forked_in_all scripts) t in
    let h = is_among (forked_by c) t in
    either (flat_map forked_by (s ++ c ∷ [])) (forked_in_all scripts) t
    ∙ ap (λ b. b || g) (ap (λ l. is_among l t) (flat_map-append forked_by s (c ∷ [])) ∙ either (flat_map forked_by s) (flat_map forked_by (c ∷ [])) t ∙ ap (λ b. f || b) (last (forked_by c) t))
    ∙ turn f h g
    ∙ sym (either (flat_map forked_by s ++ forked_in_all scripts) (forked_by c) t ∙ ap (λ b. b || h) (either (flat_map forked_by s) (forked_in_all scripts) t))
  where
    last : (xs : List ℕ) (t : ℕ) → is_among (xs ++ []) t ≡ is_among xs t
    last [] t = refl
    last (x ∷ xs) t = ap (λ b. (x == t) || b) (last xs t)
forks_grow (suc w) (s ∷ scripts) c within t =
    let f = is_among (flat_map forked_by s) t in
    let g = is_among (forked_in_all scripts) t in
    let h = is_among (forked_by c) t in
    either (flat_map forked_by s) _ t
    ∙ ap (λ b. f || b) (forks_grow w scripts c (omega arith) t ∙ either (forked_in_all scripts) (forked_by c) t)
    ∙ assoc f g h
    ∙ sym (either (flat_map forked_by s ++ forked_in_all scripts) (forked_by c) t ∙ ap (λ b. b || h) (either (flat_map forked_by s) (forked_in_all scripts) t))

-- the same threads in another order
pub same_marks : (table : List Bool) (ids others : List ℕ) → ((t : ℕ) → is_among others t ≡ is_among ids t) → AreMarks table ids → AreMarks table others
same_marks table ids others e m = record { size = m.size; each = λ t. m.each t ∙ sym (e t) }

-- the same threads, with none more
pub no_more : (table : List Bool) (ids : List ℕ) → AreMarks table ids → AreMarks table (ids ++ [])
no_more table ids m = same_marks table ids (ids ++ []) (λ t. grind (arith, common_steps)) m

-- what all workers are charged, with one command more
pub charged_more : (w cpus : ℕ) (scripts : List (List Command)) (c : Command) → w < length scripts
    → budget_from 0 cpus (set scripts w (get_or scripts w [] ++ c ∷ [])) ≡ budget_from 0 cpus scripts + greatest_of c w cpus
charged_more w cpus scripts c within =
    let e : 0 + w ≡ w = omega arith in
    budget_grows 0 w cpus scripts c within ∙ ap (λ (n : ℕ). budget_from 0 cpus scripts + greatest_of c n cpus) e
