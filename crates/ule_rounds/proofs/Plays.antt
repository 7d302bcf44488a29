-- The courses of rounds at their opening, and a number of all workers.
use Rattle.std.proofs.Common.{◌≡◌, ℕ, zero, suc, ◌+◌, List, [], ◌∷◌, length, map, sum_by, slice_get, slice_index_or, slice_set, take, Some, sym, ◌∙◌, ap, arith}
use Rattle.std.specs.List.{enumerate_from}
use Rattle.std.proofs.lemmas.List.{length-map, length-take-le}
use Rattle.std.proofs.lemmas.List.FromFn.{length-enumerate_from}
use Rattle.std.proofs.lemmas.List.Sums.{sum_by-set}
use Rattle.std.proofs.lemmas.Option.{get_or_from_slice_get, none-some, same_Some, slice_get_within}
use Rattle.ule_types.specs.declared.command.Command.{Command}
use Rattle.ule_types.specs.declared.setup.Setup.{Setup}
use Rattle.ule_model.specs.Legal.{opening_of}
use Rattle.ule_program.specs.Courses.{Course, course_of}
use Rattle.ule_program.specs.Program.{own_of_setup}
use Rattle.ule_model.specs.Rounds.{opening_courses}
use Rattle.ule_members.proofs.Setups.{HasScripts, setup_scripts}

-- ---- a number of all workers

-- where one of a list is changed, the sum of a number of all changes by that of this one
pub sum_set : {X : Type 0} (f : X → ℕ) (xs : List X) (i : ℕ) (x v : X) → slice_get xs i ≡ Some x → sum_by f (slice_set xs i v) + f x ≡ sum_by f xs + f v
sum_set f xs i x v got =
    ap (λ (n : ℕ). sum_by f (slice_set xs i v) + n) (sym (ap f (get_or_from_slice_get xs i x x got))) ∙
    sum_by-set f xs i v x (slice_get_within xs i x got)

-- ---- the opening play

-- the courses of some workers before their first commands
abbrev pub opened_courses : Setup → ℕ → List (List Command) → List Course
opened_courses s n scripts = map (λ e. course_of (own_of_setup s e.0) e.1) (enumerate_from n scripts)

-- each worker of the setup has a course
pub opening_count : (s : Setup) → length (opening_courses s) ≡ s.cpus
opening_count s =
    let kept : HasScripts s = setup_scripts s in
    length-map (enumerate_from 0 (take s.cpus s.scripts)) (λ e. course_of (own_of_setup s e.0) e.1) ∙
    length-enumerate_from 0 (take s.cpus s.scripts) ∙
    length-take-le s.cpus s.scripts (omega (arith, kept.count, kept.cpus))

-- the course of a worker begins its script
course_first : (s : Setup) (n k : ℕ) (scripts : List (List Command)) (worker : ℕ) (course : Course) →
    slice_get (opened_courses s n (take k scripts)) worker ≡ Some course → course_of (own_of_setup s (n + worker)) (slice_index_or scripts worker []) ≡ course
course_first s n zero scripts worker course got = absurd (none-some course got)
course_first s n (suc k) [] worker course got = absurd (none-some course got)
course_first s n (suc k) (script ∷ scripts) zero course got =
    let e : n + 0 ≡ n = omega arith in
    ap (λ u. course_of (own_of_setup s u) script) e ∙ same_Some (course_of (own_of_setup s n) script) course got
course_first s n (suc k) (script ∷ scripts) (suc worker) course got =
    let e : n + suc worker ≡ n + 1 + worker = omega arith in
    ap (λ u. course_of (own_of_setup s u) (slice_index_or scripts worker [])) e ∙ course_first s (n + 1) k scripts worker course got

-- each worker opens with its script
pub opening_is : (s : Setup) (worker : ℕ) (course : Course) → slice_get (opening_courses s) worker ≡ Some course → opening_of s s.scripts worker ≡ course
opening_is s worker course got =
    let e : worker ≡ 0 + worker = omega arith in
    ap (λ u. course_of (own_of_setup s u) (slice_index_or s.scripts worker [])) e ∙ course_first s 0 s.cpus s.scripts worker course got
