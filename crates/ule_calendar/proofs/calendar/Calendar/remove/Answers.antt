use Rattle.ule_calendar.specs.Calendar.{Dial}
use Rattle.ule_calendar.proofs.CalendarLaws.{IsCalendar-without}
use Rattle.ule_calendar.proofs.calendar.Calendar.remove.Goals as goal

pub invariant_of-self-else-self : goal.invariant_of-self-else-self
invariant_of-self-else-self c =
    let d : Dial = record { lists = c.self.inside.lists; idx = c.self.inside.idx; ridx = c.self.inside.ridx } in
    rw c.remove-bucket.ensures.rest (IsCalendar-without d c.args.t c.self.invariant c.if-self.false)
