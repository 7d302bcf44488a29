-- What the workers of a judge that has judged nothing have: orderly courses with empty hands, and no more items than their scripts are charged.
use Rattle.std.proofs.Common.{◌≡◌, ℕ, zero, suc, ◌+◌, ◌≤◌, List, [], ◌∷◌, map, sum, sum_by, slice_get, slice_set, take, Some, None, refl, sym, ◌∙◌, ap, subst, ⊎_elim, arith}
use Rattle.std.proofs.lemmas.Bool.{cases_eq}
use Rattle.std.proofs.lemmas.List.Sums.{sum_by-cons, sum-map}
use Rattle.std.proofs.lemmas.Option.{same_Some, slice_get_within}
use Rattle.ule_types.specs.Commands.{greatest_of}
use Rattle.ule_types.specs.Rules.{budget_from}
use Rattle.ule_types.specs.declared.command.Command.{Command}
use Rattle.ule_types.specs.declared.setup.Setup.{Setup}
use Rattle.ule_topo.specs.Tree.{Tree}
use Rattle.ule_program.specs.Courses.{Course, course_of}
use Rattle.ule_program.specs.Groups.{topology_of}
use Rattle.ule_program.specs.Program.{own_of_setup}
use Rattle.ule_model.specs.Places.{is_number}
use Rattle.ule_model.specs.Rounds.{greatest_rounds, opening_courses}
use Rattle.ule_model.specs.Start.{world_at_start}
use Rattle.ule_courses.specs.Charge.{greatest_in}
use Rattle.ule_courses.proofs.Courses.{HasOrder, left_of}
use Rattle.ule_courses.proofs.Hands.{DoAgree, hand_at}
use Rattle.ule_members.proofs.Lists.{slice_get-set_other, slice_get-set_same}
use Rattle.ule_members.proofs.Setups.{HasScripts, setup_scripts}
use Rattle.ule_laws.proofs.StartLaws.{start_no_hand}
use Rattle.ule_micro.specs.Laws.{values_and_hands_at_start}
use Rattle.ule_parts.specs.Histories.{scheduler_with}
use Rattle.ule_parts.specs.Scheduler.{orders_of, sched_means}
use Rattle.ule_parts.specs.Workers.{declared_ids_of}
use Rattle.ule_parts.proofs.Lawful.{start_shown}
use Rattle.ule_parts.proofs.Locks.{hand_some}
use Rattle.ule_parts.proofs.Orders.{are_scripts}
use Rattle.ule_rounds.proofs.ChargeLaws.{opens_orderly}
use Rattle.ule_rounds.proofs.Plays.{opened_courses, opening_is}

-- the topology of a setup
abbrev pub tree_of : Setup → Tree
tree_of s = topology_of s.cpus s.groups

-- ---- one course changed among all

-- what holds of the element written, and of each other, holds of each afterwards
pub each_after_set : {X : Type 0} (Q : ℕ → X → Type 0) (xs : List X) (i : ℕ) (x v : X) → slice_get xs i ≡ Some x → Q i v →
    ((j : ℕ) (y : X) → (j ≡ i → ⊥) → slice_get xs j ≡ Some y → Q j y) → (j : ℕ) (y : X) → slice_get (slice_set xs i v) j ≡ Some y → Q j y
each_after_set Q xs i x v got here others j y found =
    ⊎_elim
    (λ (same : j ≡ i).
    let at : slice_get (slice_set xs i v) i ≡ Some y = subst (λ k. slice_get (slice_set xs i v) k ≡ Some y) same found in
    let is : v ≡ y = same_Some v y (sym (slice_get-set_same xs i v (slice_get_within xs i x got)) ∙ at) in
    subst (λ k. Q k y) (sym same) (subst (Q i) is here))
    (λ (other : j ≡ i → ⊥). others j y other (sym (slice_get-set_other xs i j v other) ∙ found))
    (cases_eq j i)

-- ---- the items left

-- the greatest number of items that all workers still have
abbrev pub all_left : ℕ → List Course → ℕ
all_left cpus courses = sum_by (left_of cpus) courses

-- the items left at the start are the budget of the workers
pub left_at_start : (s : Setup) (n : ℕ) (scripts : List (List Command)) → all_left s.cpus (opened_courses s n scripts) ≡ budget_from n s.cpus scripts
left_at_start s n [] = refl
left_at_start s n (script ∷ scripts) =
    let first : left_of s.cpus (course_of (own_of_setup s n) script) ≡ sum (map (λ c. greatest_of c n s.cpus) script) =
    (let none : 0 + greatest_in s.cpus n script ≡ greatest_in s.cpus n script = omega arith in none ∙ sym (sum-map (λ c. greatest_of c n s.cpus) script)) in
    omega (arith, first, left_at_start s (n + 1) scripts, sum_by-cons (left_of s.cpus) (course_of (own_of_setup s n) script) (opened_courses s (n + 1) scripts))

-- the budget of the first workers is within that of all
pub budget_of_first : (cpus worker n : ℕ) (scripts : List (List Command)) → budget_from worker cpus (take n scripts) ≤ budget_from worker cpus scripts
budget_of_first cpus worker zero scripts = omega arith
budget_of_first cpus worker (suc n) [] = omega arith
budget_of_first cpus worker (suc n) (script ∷ scripts) =
    let rest : budget_from (worker + 1) cpus (take n scripts) ≤ budget_from (worker + 1) cpus scripts = budget_of_first cpus (worker + 1) n scripts in
    omega arith

-- there are as many rounds as items left at the start
pub opening_left : (s : Setup) → all_left s.cpus (opening_courses s) ≤ greatest_rounds
opening_left s =
    let kept : HasScripts s = setup_scripts s in
    omega (arith, left_at_start s 0 (take s.cpus s.scripts), budget_of_first s.cpus 0 s.cpus s.scripts, kept.budget)

-- ---- the opening

-- at the start every hand is empty
pub hands_at_start : (s : Setup) (n : ℕ) (scripts : List (List Command)) (worker : ℕ) → hand_at (opened_courses s n scripts) worker ≡ None
hands_at_start s n [] worker = refl
hands_at_start s n (script ∷ scripts) zero = refl
hands_at_start s n (script ∷ scripts) (suc worker) = hands_at_start s (n + 1) scripts worker

-- so each worker has in hand what its course says
pub opening_hands : (s : Setup) → DoAgree (world_at_start s).members (opening_courses s)
opening_hands s h t =
    sym (hand_some (scheduler_with s (values_and_hands_at_start (sched_means s))) (world_at_start s) h None (start_shown s) (start_no_hand s h) t) ∙
    sym (ap (is_number t) (hands_at_start s 0 (take s.cpus s.scripts) h))

-- each worker of a setup opens with an orderly course
pub opening_order : (s : Setup) (now worker : ℕ) (course : Course) → slice_get (opening_courses s) worker ≡ Some course → HasOrder (declared_ids_of s) worker (tree_of s) now course
opening_order s now worker course got =
    subst (HasOrder (declared_ids_of s) worker (tree_of s) now) (opening_is s worker course got)
    (opens_orderly (declared_ids_of s) (own_of_setup s worker) now (orders_of s worker) ((are_scripts s).commands worker))
