use Rattle.std.proofs.Common.{◌≡◌, ap, ◌∙◌, arith}
use Rattle.ule_runq.specs.Runq.{times}
use Rattle.ule_calendar.specs.Calendar.{Dial}
use Rattle.ule_calendar.proofs.CalendarLaws.{IsCalendar-with_head, IsCalendar-with_tail}
use Rattle.ule_calendar.proofs.calendar.Calendar.insert_at_index.Goals as goal
use Rattle.ule_calendar.proofs.calendar.Calendar.insert_at_index.Goals.{then-head, else-head}

pub invariant_of-self : goal.invariant_of-self
invariant_of-self c =
    let d : Dial = record { lists = c.self.inside.lists; idx = c.self.inside.idx; ridx = c.self.inside.ridx } in
    let absent : times d.lists c.args.t ≡ 0 = ap (λ (e : Dial). times e.lists c.args.t) c.self.view_is ∙ c.requires in
    let k = c.self.invariant in
    elim c.if-head.branch [
      | then-head w ↦ rw (w.self-inside-is, w.push_head.ensures.filed) (IsCalendar-with_head d d.ridx c.args.t k k.ridx (omega arith) absent)
      | else-head w ↦ rw (w.self-inside-is, w.push_tail.ensures.filed) (IsCalendar-with_tail d d.ridx c.args.t k k.ridx (omega arith) absent)
    ]
