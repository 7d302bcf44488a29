-- Where a worker stands in the program of its list, by the entries that it made and what it advanced.
use Rattle.std.proofs.Common.{◌≡◌, ℕ, ◌+◌, List, [], ◌∷◌, ◌++◌, slice_get, Some, None, refl, sym, ap, ◌∙◌, subst, arith, reverse, append_assoc}
use Rattle.std.proofs.lemmas.List.{append-nil, reverse-append, reverse-reverse}
use Rattle.ule_types.specs.declared.command.Command.{Command}
use Rattle.ule_types.specs.declared.event.Event.{Event}
use Rattle.ule_types.specs.declared.event.Reply.{Reply}
use Rattle.ule_types.specs.declared.setup.Setup.{Setup}
use Rattle.ule_model.specs.Legal.{Performs, stays}
use Rattle.ule_program.specs.Courses.{Course, course_of, next_in, next_step}
use Rattle.ule_program.specs.Program.{own_of_setup}
use Rattle.ule_courses.proofs.Courses.{performs_acted, performs_advanced}
use Rattle.ule_parts.specs.Histories.{world_entry}
use Rattle.ule_parts.specs.Scheduler.{sched_means}
use Rattle.ule_parts.specs.Workers.{Worker, owns_from}
use Rattle.ule_parts.proofs.Playing.{next_at, next_of_rest, told_next}
use Rattle.ule_parts.proofs.Standing.{first_own}
use Rattle.ule_smp.specs.Runs.{Point, Runs, opening_point}
use Rattle.ule_smp.specs.Runs as runs
use Rattle.ule_smp.proofs.Made.{timed_made}

-- onto: commands, the newest first, before those that are not begun
abbrev pub onto : List Command → List Command → List Command
onto [] rest = rest
onto (c ∷ given) rest = onto given (c ∷ rest)

onto_is : (given rest : List Command) → onto given rest ≡ reverse given ++ rest
onto_is [] rest = refl
onto_is (c ∷ given) rest = onto_is given (c ∷ rest) ∙ (sym (append_assoc (reverse given) (c ∷ []) rest) ∙ ap (λ cs. cs ++ rest) (sym (reverse-append (c ∷ []) given)))

-- a whole list was begun where its commands are those begun, in turn
pub onto_reverse : (list : List Command) → onto (reverse list) [] ≡ list
onto_reverse list = onto_is (reverse list) [] ∙ (append-nil (reverse (reverse list)) ∙ reverse-reverse list)

module _ (s : Setup) (w : ℕ) where
  -- own at start: a worker's own part at the start
  abbrev pub own_at_start : Worker
  own_at_start = record { program = own_of_setup s w; hand = None }

  -- it is that of the scheduler
  pub opens_so : (first : Worker) → slice_get (owns_from s 0 s.cpus) w ≡ Some first → first ≡ own_at_start
  opens_so first at = (first_own s 0 s.cpus w first at).1 ∙ ap (λ u. record { program = own_of_setup s u; hand = None }) (let a : 0 + w ≡ w = omega arith in a)

  -- is course at: the entries that a worker made, and what it advanced, lead it to where it stands, with these commands not begun
  pub record IsCourseAt (given rest : List Command) (at : Point Worker Event Reply) : Type 0 where
    pub course : Course
    pub performs : Performs (course_of (own_of_setup s w) (onto given rest)) 0 (timed_made at.mine) course at.advanced
    pub next : next_step course ≡ next_at rest at.own.program at.standing

  -- before its first command it stands where the course of its list does
  first_next : (rest : List Command) → next_in rest (own_of_setup s w) None ≡ next_of_rest rest (own_of_setup s w)
  unfolding next_in
  first_next [] = refl
  first_next (c ∷ cs) = refl

  -- a worker that ran its program stands so, whatever commands are not begun
  pub runs_course : {given : List Command} {items : ℕ} {at : Point Worker Event Reply} → Runs (sched_means s) (opening_point own_at_start) given items at → (rest : List Command) → IsCourseAt given rest at
  runs_course runs.stays rest = record { course = course_of (own_of_setup s w) rest; performs = stays (course_of (own_of_setup s w) rest) 0; next = first_next rest }
  runs_course (runs.begins {given} {items} {at} c ran is) rest = let k = runs_course ran (c ∷ rest) in record {
    course = k.course;
    performs = k.performs;
    next = k.next ∙ ap (next_at (c ∷ rest) at.own.program) is;
  }
  runs_course (runs.answers {given} {items} {at} told ran is) rest = let k = runs_course ran rest in record {
    course = k.course;
    performs = k.performs;
    next = k.next ∙ (ap (next_at rest at.own.program) is ∙ told_next rest at.own.program told);
  }
  runs_course (runs.advances {given} {items} {at} j ran is) rest = let k = runs_course ran rest in record {
    course = course_of at.own.program rest;
    performs = performs_advanced j (course_of at.own.program rest) k.performs (k.next ∙ ap (next_at rest at.own.program) is);
    next = refl;
  }
  runs_course (runs.performs {given} {items} {at} hand x ran is) rest = let k = runs_course ran rest in record {
    course = record (course_of at.own.program rest) { last = Some (x.entry.reply, x.entry.now) };
    performs = performs_acted (world_entry x.entry) (course_of at.own.program rest) k.performs (k.next ∙ ap (next_at rest at.own.program) is);
    next = refl;
  }
