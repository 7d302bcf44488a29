use Rattle.ule_micro.proofs.Starting.{more_seats, pushed}
use Rattle.ule_micro.proofs.opening.first_seats.Goals as goal

pub loop-worker-preserved : goal.loop-worker-preserved
loop-worker-preserved g c = more_seats (g.P.Parts.means c.args.parts.now) (g.P.Parts.orders c.args.parts.now) c.loop-worker.worker c.loop-worker.seats.items c.push.new.self.items c.first_seat-seat.result c.loop-worker.invariant c.first_seat-seat.ensures
    (pushed c.push.result c.is_err.result _ _ _ c.is_err.ensures.value c.if-is_err.false c.push.ensures.items)
