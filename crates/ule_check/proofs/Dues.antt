-- A worker's next event: how it is found along the steps of its program, and how a program's entries begin with it.
use Rattle.std.proofs.Common.{◌≡◌, ℕ, ◌+◌, List, [], ◌∷◌, Option, Some, None, refl, sym, ◌∙◌, ap, subst}
use Rattle.std.proofs.lemmas.Option.{none-some, same_Some}
use Rattle.ule_types.specs.declared.command.Command.{Command}
use Rattle.ule_types.specs.declared.event.Item.{Item}
use Rattle.ule_types.specs.declared.event.Item.TheVariants as item
use Rattle.ule_types.specs.declared.event.Reply.{Reply}
use Rattle.ule_program.specs.Courses.{Course, next_in, next_step, or_else, stepped}
use Rattle.ule_program.specs.Program.{after_giving, begun, item_at, next_of, once_given, told_last}
use Rattle.ule_program.specs.declared.own.Own.{Own}
use Rattle.ule_program.specs.declared.stage.Stage.{Stage}
use Rattle.ule_program.specs.declared.stage.Stage.TheVariants.{Advances, Ended, Gives}
use Rattle.ule_model.specs.Legal.{Performs, Timed, acts, advances, stays}
use Rattle.ule_check.specs.Judge.{Due, due_of, event_or, next_event}

-- an advance of time is the last item of its command
ended_after : (st : Stage) (k : ℕ) → item_at st ≡ Some (item.Advance k) → after_giving st ≡ Ended
ended_after Ended k is = absurd (none-some (item.Advance k) is)
ended_after (Advances j) k is = refl
ended_after (Gives e next) k is = absurd (cc)

-- ---- by the steps of a program

-- the next event behind a step that a program comes to
abbrev by_step : ℕ → Option (Item × Course) → Option Due
by_step amount None = None
by_step amount (Some (item.Advance k, after)) = due_of (amount + k) after
by_step amount (Some (item.Event e, after)) = Some (record { event = e; course = after; amount = amount })

-- a worker's next event is found by the steps of its program
due_by_step : (script : List Command) (own : Own) (last : Option (Reply × ℕ)) (amount : ℕ) → next_event script own last amount ≡ by_step amount (next_in script own last)
unfolding next_event next_in
due_by_step [] own last amount = at_item (next_of last own).0 refl
  where
    at_item : (o : Option Item) → (next_of last own).0 ≡ o → event_or [] (next_of last own).1 amount o (λ passed. None) ≡ by_step amount (stepped [] o (next_of last own).1)
    at_item None is = refl
    at_item (Some (item.Event e)) is = refl
    at_item (Some (item.Advance k)) is =
        sym (ap (λ (st : Stage). event_or [] (record (told_last last own) { stage = after_giving st }) (amount + k) (item_at st) (λ passed. None))
        (ended_after (told_last last own).stage k is))
due_by_step (c ∷ cs) own last amount = at_item (next_of last own).0 refl (due_by_step cs (begun c (next_of last own).1) None amount)
  where
    at_item : (o : Option Item) → (next_of last own).0 ≡ o → next_event cs (begun c (next_of last own).1) None amount ≡ by_step amount (next_in cs (begun c (next_of last own).1) None) →
        event_or (c ∷ cs) (next_of last own).1 amount o (λ passed. next_event cs (begun c (next_of last own).1) None passed) ≡
        by_step amount (or_else (stepped (c ∷ cs) o (next_of last own).1) (next_in cs (begun c (next_of last own).1) None))
    at_item None is rest = rest
    at_item (Some (item.Event e)) is rest = refl
    at_item (Some (item.Advance k)) is rest =
        ap (λ (st : Stage). next_event cs (begun c (record (told_last last own) { stage = st })) None (amount + k)) (ended_after (told_last last own).stage k is) ∙
        sym (ap (λ (st : Stage). event_or (c ∷ cs) (record (told_last last own) { stage = after_giving st }) (amount + k) (item_at st)
        (λ passed. next_event cs (begun c (record (told_last last own) { stage = after_giving st })) None passed))
        (ended_after (told_last last own).stage k is))

-- so it is, whatever step that is
pub due_is : (course : Course) (amount : ℕ) (o : Option (Item × Course)) → next_step course ≡ o → due_of amount course ≡ by_step amount o
due_is course amount o is = due_by_step course.script course.own course.last amount ∙ ap (by_step amount) is

-- ---- what holds along the advances before an event

-- what an advance of time keeps
abbrev pub KeptByAdvances : (Course → ℕ → Type 0) → Type 0
KeptByAdvances P = (course after : Course) (k amount : ℕ) → next_step course ≡ Some (item.Advance k, after) → P course amount → P after (amount + k)

-- where the next event of a worker is found
pub record IsDue (P : Course → ℕ → Type 0) (d : Due) : Type 0 where
  pub course : Course
  pub holds : P course d.amount
  pub next : next_step course ≡ Some (item.Event d.event, d.course)

-- where a worker that has no further event ends
pub record HasEnded (P : Course → ℕ → Type 0) : Type 0 where
  pub course : Course
  pub amount : ℕ
  pub holds : P course amount
  pub none : next_step course ≡ None

-- behind an advance of time, the next step is of the commands not begun
after_advance : (script : List Command) (own : Own) (k : ℕ) (n : Own → Option (Item × Course)) → item_at own.stage ≡ Some (item.Advance k) →
    or_else (stepped script (item_at (after_giving own.stage)) (once_given (once_given own))) (n (once_given (once_given own))) ≡ n (once_given own)
after_advance script own k n is =
    ap (λ (st : Stage). or_else (stepped script (item_at st) (record own { stage = after_giving st })) (n (record own { stage = after_giving st }))) (ended_after own.stage k is) ∙
    sym (ap (λ (st : Stage). n (record own { stage = st })) (ended_after own.stage k is))

-- what holds of a worker at its course, and is kept by advances, holds where its next event is found
due_found : (P : Course → ℕ → Type 0) → KeptByAdvances P → (script : List Command) (own : Own) (last : Option (Reply × ℕ)) (amount : ℕ) (at : Course) (d : Due) →
    next_step at ≡ next_in script own last → P at amount → next_event script own last amount ≡ Some d → IsDue P d
unfolding next_event next_in
due_found P kept [] own last amount at d same holds due = at_item (next_of last own).0 refl due
  where
    at_item : (o : Option Item) → (next_of last own).0 ≡ o → event_or [] (next_of last own).1 amount o (λ passed. None) ≡ Some d → IsDue P d
    at_item None is found = absurd (none-some d found)
    at_item (Some (item.Advance k)) is found = absurd (none-some d found)
    at_item (Some (item.Event e)) is found =
        subst (IsDue P) (same_Some _ d found) (record { course = at; holds = holds; next = same ∙ ap (λ (x : Option Item). stepped [] x (next_of last own).1) is })
due_found P kept (c ∷ cs) own last amount at d same holds due =
    at_item (next_of last own).0 refl due (λ passed to. due_found P kept cs (begun c (next_of last own).1) None passed to d)
  where
    step_is : (o : Option Item) → (next_of last own).0 ≡ o → next_step at ≡ or_else (stepped (c ∷ cs) o (next_of last own).1) (next_in cs (begun c (next_of last own).1) None)
    step_is o is = same ∙ ap (λ (x : Option Item). or_else (stepped (c ∷ cs) x (next_of last own).1) (next_in cs (begun c (next_of last own).1) None)) is

    at_item : (o : Option Item) → (next_of last own).0 ≡ o →
        event_or (c ∷ cs) (next_of last own).1 amount o (λ passed. next_event cs (begun c (next_of last own).1) None passed) ≡ Some d →
        ((passed : ℕ) (to : Course) → next_step to ≡ next_in cs (begun c (next_of last own).1) None → P to passed →
        next_event cs (begun c (next_of last own).1) None passed ≡ Some d → IsDue P d) → IsDue P d
    at_item None is found rest = rest amount at (step_is None is) holds found
    at_item (Some (item.Event e)) is found rest =
        subst (IsDue P) (same_Some _ d found) (record { course = at; holds = holds; next = step_is (Some (item.Event e)) is })
    at_item (Some (item.Advance k)) is found rest =
        let to : Course = record { script = c ∷ cs; own = (next_of last own).1; last = None } in
        rest (amount + k) to (after_advance (c ∷ cs) (told_last last own) k (λ x. next_in cs (begun c x) None) is)
        (kept at to k amount (step_is (Some (item.Advance k)) is) holds) found

-- the same where the worker has no further event
ended_found : (P : Course → ℕ → Type 0) → KeptByAdvances P → (script : List Command) (own : Own) (last : Option (Reply × ℕ)) (amount : ℕ) (at : Course) →
    next_step at ≡ next_in script own last → P at amount → next_event script own last amount ≡ None → HasEnded P
unfolding next_event next_in
ended_found P kept [] own last amount at same holds due = at_item (next_of last own).0 refl due
  where
    at_item : (o : Option Item) → (next_of last own).0 ≡ o → event_or [] (next_of last own).1 amount o (λ passed. None) ≡ None → HasEnded P
    at_item None is found = record { course = at; amount = amount; holds = holds; none = same ∙ ap (λ (x : Option Item). stepped [] x (next_of last own).1) is }
    at_item (Some (item.Event e)) is found = absurd (none-some _ (sym found))
    at_item (Some (item.Advance k)) is found =
        let to : Course = record { script = []; own = (next_of last own).1; last = None } in
        record {
          course = to;
          amount = amount + k;
          holds = kept at to k amount (same ∙ ap (λ (x : Option Item). stepped [] x (next_of last own).1) is) holds;
          none = ap (λ (st : Stage). stepped [] (item_at st) (record (told_last last own) { stage = after_giving st })) (ended_after (told_last last own).stage k is);
        }
ended_found P kept (c ∷ cs) own last amount at same holds due =
    at_item (next_of last own).0 refl due (λ passed to. ended_found P kept cs (begun c (next_of last own).1) None passed to)
  where
    step_is : (o : Option Item) → (next_of last own).0 ≡ o → next_step at ≡ or_else (stepped (c ∷ cs) o (next_of last own).1) (next_in cs (begun c (next_of last own).1) None)
    step_is o is = same ∙ ap (λ (x : Option Item). or_else (stepped (c ∷ cs) x (next_of last own).1) (next_in cs (begun c (next_of last own).1) None)) is

    at_item : (o : Option Item) → (next_of last own).0 ≡ o →
        event_or (c ∷ cs) (next_of last own).1 amount o (λ passed. next_event cs (begun c (next_of last own).1) None passed) ≡ None →
        ((passed : ℕ) (to : Course) → next_step to ≡ next_in cs (begun c (next_of last own).1) None → P to passed →
        next_event cs (begun c (next_of last own).1) None passed ≡ None → HasEnded P) → HasEnded P
    at_item None is found rest = rest amount at (step_is None is) holds found
    at_item (Some (item.Event e)) is found rest = absurd (none-some _ (sym found))
    at_item (Some (item.Advance k)) is found rest =
        let to : Course = record { script = c ∷ cs; own = (next_of last own).1; last = None } in
        rest (amount + k) to (after_advance (c ∷ cs) (told_last last own) k (λ x. next_in cs (begun c x) None) is)
        (kept at to k amount (step_is (Some (item.Advance k)) is) holds) found

-- what holds at a course holds where its next event is found
pub due_holds : (P : Course → ℕ → Type 0) → KeptByAdvances P → (course : Course) (amount : ℕ) (d : Due) → P course amount → due_of amount course ≡ Some d → IsDue P d
due_holds P kept course amount d holds due = due_found P kept course.script course.own course.last amount course d refl holds due

-- and where the worker ends
pub ended_holds : (P : Course → ℕ → Type 0) → KeptByAdvances P → (course : Course) (amount : ℕ) → P course amount → due_of amount course ≡ None → HasEnded P
ended_holds P kept course amount holds due = ended_found P kept course.script course.own course.last amount course refl holds due

-- ---- how a program's entries begin

-- entries of a program begin with this one: it is the next event, and the others follow
pub record HasFirst (course : Course) (amount : ℕ) (x : Timed) (es : List Timed) (end : Course) (total : ℕ) : Type 0 where
  pub after : Course
  pub due : due_of amount course ≡ Some (record { event = x.entry.event; course = after; amount = x.amount })
  pub rest : Performs (record after { last = Some (x.entry.reply, x.entry.now) }) x.amount es end total

-- what the entries of a program begin with; where there are none and the program is at its end, no event is next
abbrev pub BeginsWith : Course → ℕ → List Timed → Course → ℕ → Type 0
BeginsWith course amount [] end total = next_step end ≡ None → due_of amount course ≡ None
BeginsWith course amount (x ∷ es) end total = HasFirst course amount x es end total

-- the entries of a program begin with its next event
pub performs_first : (course end : Course) (amount total : ℕ) (es : List Timed) → Performs course amount es end total → BeginsWith course amount es end total
performs_first _ _ _ _ _ (stays course amount) = λ none. due_is course amount None none
performs_first _ _ _ _ _ (advances course after end amount k total es next rest) = earlier es (performs_first after end (amount + k) total es rest)
  where
    earlier : (xs : List Timed) → BeginsWith after (amount + k) xs end total → BeginsWith course amount xs end total
    earlier [] ends = λ none. due_is course amount (Some (item.Advance k, after)) next ∙ ends none
    earlier (x ∷ xs) first = record { after = first.after; due = due_is course amount (Some (item.Advance k, after)) next ∙ first.due; rest = first.rest }
performs_first _ _ _ _ _ (acts course after end amount total e es next rest) =
    record { after = after; due = due_is course amount (Some (item.Event e.event, after)) next; rest = rest }
