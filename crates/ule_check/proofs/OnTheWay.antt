-- On the way to a worker's next event: the judge's facts hold at the course where the event is found.
use Rattle.std.proofs.Common.{◌≡◌, ℕ, zero, suc, ◌≤◌, true, List, [], ◌∷◌, slice_get, slice_set, Some, refl, ◌∙◌, ap, subst, arith}
use Rattle.std.proofs.lemmas.Option.{slice_get_within}
use Rattle.ule_types.specs.declared.setup.Setup.{Setup}
use Rattle.ule_model.specs.Conditions.{IsPossible}
use Rattle.ule_model.specs.Events.{is_ready, locks_of}
use Rattle.ule_model.specs.Legal.{Performs, Timed, advances}
use Rattle.ule_program.specs.Courses.{Course}
use Rattle.ule_model.specs.Step.{step}
use Rattle.ule_members.proofs.Lists.{slice_get-set_same}
use Rattle.ule_check.proofs.Openings.{all_left}
use Rattle.ule_check.specs.Judge.{Due, Judge, due_of, with_time, with_times}
use Rattle.ule_check.proofs.Dues.{IsDue, KeptByAdvances, due_holds}
use Rattle.ule_check.proofs.Kept.{IsKept, IsPlaced, kept_advanced, kept_performed, left_advanced, placed, possible}
use Rattle.ule_check.proofs.NotedTimes.{IsOnTime}

-- an element put twice at one place
set_twice : {X : Type 0} (xs : List X) (i : ℕ) (x y : X) → slice_set (slice_set xs i x) i y ≡ slice_set xs i y
set_twice [] i x y = refl
set_twice (z ∷ zs) zero x y = refl
set_twice (z ∷ zs) (suc i) x y = ap (λ ys. z ∷ ys) (set_twice zs i x y)

module _ (s : Setup) (j : Judge) (w : ℕ) (kept : IsKept s j.world j.courses j.own j.latest) (course : Course) (got : slice_get j.courses w ≡ Some course) (d : Due)
    (due : due_of (j.amount w) course ≡ Some d) where
  -- where the worker stands on its way to the event
  pub record IsOnTheWay (to : Course) (passed : ℕ) : Type 0 where
    pub courses : List Course
    pub is_kept : IsKept s j.world courses j.own j.latest
    pub there : slice_get courses w ≡ Some to
    pub set_same : (c : Course) → slice_set courses w c ≡ slice_set j.courses w c
    pub left : all_left s.cpus courses ≤ all_left s.cpus j.courses
    pub performs : (xs : List Timed) (end : Course) (total : ℕ) → Performs to passed xs end total → Performs course (j.amount w) xs end total

  -- an advance leads on
  goes_on : KeptByAdvances IsOnTheWay
  goes_on to after k passed next way = record {
    courses = slice_set way.courses w after;
    is_kept = kept_advanced s j.world way.courses j.own j.latest w k to after way.is_kept way.there next;
    there = slice_get-set_same way.courses w after (slice_get_within way.courses w to way.there);
    set_same = λ c. set_twice way.courses w after c ∙ way.set_same c;
    left = omega (arith, way.left, left_advanced s j.world way.courses j.own j.latest w k to after way.is_kept way.there next);
    performs = λ xs end total performs. way.performs xs end total (advances to after end passed k total xs next performs);
  }

  -- so the event is found on the way
  pub found : IsDue IsOnTheWay d
  found = due_holds IsOnTheWay goes_on course (j.amount w) d
      (record { courses = j.courses; is_kept = kept; there = got; set_same = λ c. refl; left = omega arith; performs = λ xs end total performs. performs }) due

  -- what is known of the event before its time is judged
  pub due_placed : IsPlaced j.world w d.event
  due_placed = placed s j.world found.holds.courses j.own j.latest w d.event found.course d.course found.holds.is_kept found.holds.there found.next

  module _ (now : ℕ) (ready : is_ready j.world w d.event ≡ true) (on : IsOnTime j.own j.latest j.world w d.event now) where
    -- on time it is possible
    pub due_possible : IsPossible j.world w d.event now
    due_possible = possible s j.world found.holds.courses j.own j.latest w d.event found.course d.course found.holds.is_kept found.holds.there found.next now ready on

    -- and the judge goes on behind it
    pub due_kept : IsKept s (step j.world w d.event now).0 (slice_set j.courses w (record d.course { last = Some ((step j.world w d.event now).1, now) }))
        (with_time w now j.own) (with_times (locks_of j.world d.event) now j.latest)
    due_kept =
        subst (λ (cs : List Course). IsKept s (step j.world w d.event now).0 cs (with_time w now j.own) (with_times (locks_of j.world d.event) now j.latest))
        (found.holds.set_same (record d.course { last = Some ((step j.world w d.event now).1, now) }))
        (kept_performed s j.world found.holds.courses j.own j.latest w d.event found.course d.course found.holds.is_kept found.holds.there found.next now ready on)
