-- The time that a worker's list adds is what it added so far and what it still adds.
use Rattle.std.proofs.Common.{◌≡◌, ℕ, ◌+◌, List, Some, None, refl, sym, ap, ◌∙◌, arith}
use Rattle.std.proofs.lemmas.List.Sums.{sum_by-cons}
use Rattle.std.proofs.lemmas.Option.{none-some}
use Rattle.ule_types.specs.Commands.{amount_of}
use Rattle.ule_types.specs.declared.event.Event.{Event}
use Rattle.ule_types.specs.declared.event.Item.{Item}
use Rattle.ule_types.specs.declared.event.Item.TheVariants as item
use Rattle.ule_types.specs.declared.event.Reply.{Reply}
use Rattle.ule_model.specs.Legal.{Performs, Timed, acts, advances, amount_in, stays}
use Rattle.ule_program.specs.Courses.{Course, next_step}
use Rattle.ule_program.specs.Laws.{time_at}
use Rattle.ule_program.specs.Program.{after_giving, heard, item_at, once_given}
use Rattle.ule_program.specs.declared.own.Own.{Own}
use Rattle.ule_program.specs.declared.stage.Stage.{Stage}
use Rattle.ule_program.specs.declared.stage.Stage.TheVariants.{Ended, Advances, Gives}
use Rattle.ule_program.proofs.Leading.{ended_stage}
use Rattle.ule_program.proofs.Following.{after_goes_on, begun_adds}
use Rattle.ule_courses.proofs.Courses.{HasRunOut, IsFound, KeptAtBegin, ended_from, next_found, next_in_is, time_from, time_of, told_at}

-- what is left to add at a course stays so when the next command is begun
kept : (course : Course) → KeptAtBegin (λ script own. time_from script own ≡ time_of course)
kept course c cs own none was =
    let ended : time_at own.stage ≡ 0 = ap time_at (ended_stage own.stage none) in
    omega (arith, was, ended, (begun_adds c (once_given own)).1, sum_by-cons amount_of c cs)

-- so it is where its next item is found
found : (course after : Course) (i : Item) → next_step course ≡ Some (i, after) → IsFound (λ script own. time_from script own ≡ time_of course) i after
found course after i next = next_found (λ script own. time_from script own ≡ time_of course) (kept course) course i after refl next

-- a course without a next item adds no time
pub ended_time : (course : Course) → next_step course ≡ None → time_of course ≡ 0
ended_time course none =
    let end : HasRunOut (λ script own. time_from script own ≡ time_of course) =
    ended_from (λ script own. time_from script own ≡ time_of course) (kept course) course.script (told_at course) refl (sym (next_in_is course.script course.own course.last) ∙ none) in
    omega (arith, end.holds, ap time_at end.ended)

-- an advance's stage adds its amount, and the stage after it none
advance_adds : (st : Stage) (k : ℕ) → item_at st ≡ Some (item.Advance k) → (time_at st ≡ k) × (time_at (after_giving st) ≡ 0)
advance_adds Ended k is = absurd (none-some (item.Advance k) is)
advance_adds (Advances j) k is = (let same : j ≡ k = cc in same, refl)
advance_adds (Gives e next) k is = absurd (cc)

-- an event's stage adds none, and neither does what follows its reply
event_adds : (st : Stage) (e : Event) (r : Reply) (now : ℕ) (own : Own) → item_at st ≡ Some (item.Event e) → (time_at st ≡ 0) × (time_at (heard (after_giving st) r now own).stage ≡ 0)
event_adds Ended e r now own is = absurd (none-some (item.Event e) is)
event_adds (Advances k) e r now own is = absurd (cc)
event_adds (Gives f next) e r now own is = (refl, (after_goes_on next r now own).1)

-- an advance adds its amount
advance_time : (course after : Course) (k : ℕ) → next_step course ≡ Some (item.Advance k, after) → k + time_of after ≡ time_of course
advance_time course after k next =
    let f = found course after (item.Advance k) next in
    let adds = advance_adds f.own.stage k f.item in
    let left : time_of after ≡ time_at (after_giving f.own.stage) + amount_in f.script = ap time_of f.gone in
    omega (arith, adds.0, adds.1, left, f.holds)

-- an event adds no time, whatever its reply
event_time : (course after : Course) (e : Event) (r : Reply) (now : ℕ) → next_step course ≡ Some (item.Event e, after) → time_of (record after { last = Some (r, now) }) ≡ time_of course
event_time course after e r now next =
    let f = found course after (item.Event e) next in
    let adds = event_adds f.own.stage e r now (once_given f.own) f.item in
    let left : time_of (record after { last = Some (r, now) }) ≡ time_at (heard (after_giving f.own.stage) r now (once_given f.own)).stage + amount_in f.script =
    ap (λ (c : Course). time_of (record c { last = Some (r, now) })) f.gone in
    omega (arith, adds.0, adds.1, left, f.holds)

-- the entries of a worker lead it to where as much more is added as is left
pub performs_time : {course end : Course} {amount total : ℕ} {es : List Timed} → Performs course amount es end total → total + time_of end ≡ amount + time_of course
performs_time (stays course amount) = refl
performs_time (advances course after end amount k total es next rest) = let t = performs_time rest in let a = advance_time course after k next in omega arith
performs_time (acts course after end amount total e es next rest) = let t = performs_time rest in let a = event_time course after e.event e.reply e.now next in omega arith
