-- What the judges of a setup keep, and that they are behind no more entries than all scripts have items.
use Rattle.std.proofs.Common.{◌≡◌, ℕ, ◌+◌, ◌≤◌, slice_get, Option, Some, None, option_and_then, refl, arith}
use Rattle.std.proofs.lemmas.Option.{none-some}
use Rattle.ule_types.specs.declared.setup.Setup.{Setup}
use Rattle.ule_program.specs.Courses.{Course}
use Rattle.ule_model.specs.Rounds.{greatest_rounds}
use Rattle.ule_check.proofs.Openings.{all_left, opening_left}
use Rattle.ule_check.specs.Judge.{Due, Judge, due_at, due_of}
use Rattle.ule_check.specs.JudgeValue.{IsReached, goes_on, starts}
use Rattle.ule_check.proofs.Kept.{IsKept, kept_at_start}
use Rattle.ule_check.proofs.Sound.{faultless, kept_behind, left_behind}

-- where the definition's judge finds what is due
pub record HasCourse (j : Judge) (worker : ℕ) (d : Due) : Type 0 where
  pub course : Course
  pub got : slice_get j.courses worker ≡ Some course
  pub due : due_of (j.amount worker) course ≡ Some d

-- what is due is due of a course
pub has_course : (j : Judge) (worker : ℕ) (d : Due) → due_at j worker ≡ Some d → HasCourse j worker d
has_course j worker d due = at_course (slice_get j.courses worker) refl due
  where
    at_course : (o : Option Course) → slice_get j.courses worker ≡ o → option_and_then (due_of (j.amount worker)) o ≡ Some d → HasCourse j worker d
    at_course None got is = absurd (none-some d is)
    at_course (Some course) got is = record { course = course; got = got; due = is }

-- every judge keeps what a judge keeps
pub reached_kept : (s : Setup) (n : ℕ) (j : Judge) → IsReached s n j → IsKept s j.world j.courses j.own j.latest
reached_kept s _ _ (starts) = kept_at_start s
reached_kept s _ _ (goes_on n j d e reached due none) =
    let at = has_course j e.worker d due in
    kept_behind s j e (reached_kept s n j reached) at.course at.got d at.due (faultless s j d e none)

-- a judge is behind no more entries than all scripts have items
pub reached_left : (s : Setup) (n : ℕ) (j : Judge) → IsReached s n j → n + all_left s.cpus j.courses ≤ greatest_rounds
reached_left s _ _ (starts) = omega (arith, opening_left s)
reached_left s _ _ (goes_on n j d e reached due none) =
    let at = has_course j e.worker d due in
    omega (arith, reached_left s n j reached, left_behind s j e (reached_kept s n j reached) at.course at.got d at.due (faultless s j d e none))
