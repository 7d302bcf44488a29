use Rattle.std.proofs.Common.{ap, ◌∙◌, arith}
use Rattle.ule_runq.specs.Runq.{times}
use Rattle.ule_calendar.specs.Calendar.{Dial}
use Rattle.ule_calendar.proofs.CalendarLaws.{IsCalendar-with_tail}
use Rattle.ule_calendar.proofs.calendar.Calendar.insert.Goals as goal

pub invariant_of-self : goal.invariant_of-self
invariant_of-self c =
    let d : Dial = record { lists = c.self.inside.lists; idx = c.self.inside.idx; ridx = c.self.inside.ridx } in
    rw c.push_tail.ensures.filed (IsCalendar-with_tail d _ c.args.t c.self.invariant c.ordinary_bucket-bucket.ensures.within (omega arith)
    (ap (λ (e : Dial). times e.lists c.args.t) c.self.view_is ∙ c.requires.absent))
