use Rattle.ule_micro.specs.Opening.{AreFirstSeats}
use Rattle.ule_micro.proofs.opening.first_seats.Given as goal

abbrev pub invariant-loop-worker : goal.invariant-loop-worker
invariant-loop-worker g l = AreFirstSeats (g.P.Parts.means l.parts) (g.P.Parts.orders l.parts) l.worker l.seats.items
