use Rattle.std.proofs.Common.{subst}
use Rattle.ule_calendar.specs.Calendar.{Dial}
use Rattle.ule_calendar.specs.Promise.{IsNearest}
use Rattle.ule_calendar.proofs.PromiseLaws.{nearest_first}
use Rattle.ule_calendar.proofs.calendar.Calendar.first.Goals as goal

pub returns-clause-nearest : goal.returns-clause-nearest
returns-clause-nearest c =
    let d : Dial = record { lists = c.self.inside.lists; idx = c.self.inside.idx; ridx = c.self.inside.ridx } in
    subst (λ (e : Dial). IsNearest e c.in_ok-t.t) c.self.view_is (nearest_first d c.in_ok-t.field-0-0 c.in_ok-t.t c.self.invariant.queue c.in_ok-t.ensures.nearest)
