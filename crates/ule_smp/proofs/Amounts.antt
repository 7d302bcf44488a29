-- What the workers advanced is what their lists add.
use Rattle.std.proofs.Common.{◌≡◌, ℕ, zero, suc, ◌+◌, ◌≤◌, List, [], ◌∷◌, length, slice_get, Some, None, refl, sym, ap, ◌∙◌, arith}
use Rattle.std.proofs.lemmas.List.Sums.{sum_by-cons}
use Rattle.ule_types.specs.Commands.{amount_of}
use Rattle.ule_types.specs.declared.command.Command.{Command}
use Rattle.ule_model.specs.Legal.{amount_in, amount_in_all}
use Rattle.ule_program.specs.Courses.{Course, next_step}
use Rattle.ule_program.specs.Laws.{time_at}
use Rattle.ule_program.specs.Program.{once_given}
use Rattle.ule_program.specs.declared.own.Own.{Own}
use Rattle.ule_program.proofs.Following.{begun_adds}
use Rattle.ule_program.proofs.Leading.{ended_stage}
use Rattle.ule_courses.proofs.Courses.{KeptAtBegin, ended_from, next_in_is, time_from, time_of, told_at}
use Rattle.ule_micro.specs.Shared.{together}
use Rattle.ule_parts.specs.Plays.{list_of}

-- at a course without a next item no time is left to add
pub finished_time : (course : Course) → next_step course ≡ None → time_of course ≡ 0
finished_time course none =
    let end = ended_from (λ script own. time_from script own ≡ time_of course) kept course.script (told_at course) refl (sym (next_in_is course.script course.own course.last) ∙ none) in
    let short : time_at end.own.stage ≡ 0 = ap time_at end.ended in
    omega (arith, end.holds, short)
  where
    kept : KeptAtBegin (λ script own. time_from script own ≡ time_of course)
    kept c cs own none was =
        let ended : time_at own.stage ≡ 0 = ap time_at (ended_stage own.stage none) in
        omega (arith, was, ended, (begun_adds c (once_given own)).1, sum_by-cons amount_of c cs)

-- the amounts of all workers are together what all lists add, where each is what its list adds and no other list has a command
pub all_added : (lists : List (List Command)) (amounts : List ℕ) → ((w a : ℕ) → slice_get amounts w ≡ Some a → a ≡ amount_in (list_of lists w)) → ((w : ℕ) → length amounts ≤ w → list_of lists w ≡ [])
    → together amounts ≡ amount_in_all lists
all_added [] [] each others = refl
all_added [] (a ∷ more_amounts) each others = let first = each 0 a refl in let rest = all_added [] more_amounts (λ w b at. each (suc w) b at) (λ w past. refl) in omega arith
all_added (list ∷ lists) [] each others = let none : amount_in list ≡ 0 = ap amount_in (others 0 (omega arith)) in
    let rest = all_added lists [] (λ w b at. each (suc w) b at) (λ w past. others (suc w) (omega arith)) in
    let more : amount_in_all (list ∷ lists) ≡ amount_in list + amount_in_all lists = sum_by-cons amount_in list lists in omega arith
all_added (list ∷ lists) (a ∷ more_amounts) each others = let first = each 0 a refl in
    let rest = all_added lists more_amounts (λ w b at. each (suc w) b at) (λ w past. others (suc w) (omega (arith, past))) in
    let more : amount_in_all (list ∷ lists) ≡ amount_in list + amount_in_all lists = sum_by-cons amount_in list lists in omega arith
