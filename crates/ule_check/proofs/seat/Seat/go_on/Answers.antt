-- What was due is due of the seat that was told, and that goes on to it.
use Rattle.std.proofs.Common.{sym, ◌∙◌, ap}
use Rattle.ule_check.specs.Seats.{comes_next}
use Rattle.ule_check.proofs.SeatLaws.{told, told_comes}
use Rattle.ule_check.proofs.seat.Seat.go_on.Goals as goal

pub returns-clause-due : goal.returns-clause-due
returns-clause-due c =
    told_comes c.args.s.now c.args.worker c.args.self.now c.args.last ∙
    ap (comes_next c.args.s.now c.args.worker)
    (sym (told c.args.self.now c.args.last c.event_of_item-self.new.self c.event_of_item-self.result c.event_of_item-self.ensures.after c.event_of_item-self.ensures.event)) ∙
    c.begin_further.ensures.due
