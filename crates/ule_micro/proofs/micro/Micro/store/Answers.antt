use Rattle.ule_micro.proofs.Refines.{keeps_turned, turned_by, blocked_turned, pointed_turned, pending_inside}
use Rattle.ule_micro.proofs.micro.Micro.store.Goals as goal

pub returns-in-Block : goal.returns-in-Block
returns-in-Block g c = turned_by g.P.Parts.means g.P.Parts.orders c.self.inside.parts _ c.args.self.now c.self.view_is c.args.worker _
    (blocked_turned g.P.Parts.means g.P.Parts.orders c.self.inside.parts _ c.args.worker c.index_mut-seat.result.now c.index_mut-seat.ensures.value c.self.invariant.0 c.args.change c.in-Block.t c.t.inside.0 (pending_inside g.P.Parts.means g.P.Parts.orders c.self.inside.parts _ c.args.self.now c.self.view_is c.args.worker c.args.change c.requires.pends) c.in-Block.is c.t.view_is)

pub returns-in-Point : goal.returns-in-Point
returns-in-Point g c = turned_by g.P.Parts.means g.P.Parts.orders c.self.inside.parts _ c.args.self.now c.self.view_is c.args.worker _
    (pointed_turned g.P.Parts.means g.P.Parts.orders c.self.inside.parts _ c.args.worker c.index_mut-seat.result.now c.index_mut-seat.ensures.value c.self.invariant.0 c.args.change c.in-Point.t c.in-Point.l c.t-in-Point.inside.0 (pending_inside g.P.Parts.means g.P.Parts.orders c.self.inside.parts _ c.args.self.now c.self.view_is c.args.worker c.args.change c.requires.pends) c.in-Point.is c.t-in-Point.view_is)

pub invariant_of-self : goal.invariant_of-self
invariant_of-self g c = let laws = g.met.P.Parts in (
  keeps_turned g.P.Parts.means g.P.Parts.orders c.self.inside.parts _ c.args.self.now c.self.view_is laws.lawful laws.are_orders c.args.worker _ _ c.self.invariant.0 (returns-in-Block g c),
  c.self.invariant.1,
)

pub invariant_of-self-in-Point : goal.invariant_of-self-in-Point
invariant_of-self-in-Point g c = let laws = g.met.P.Parts in (
  keeps_turned g.P.Parts.means g.P.Parts.orders c.self.inside.parts _ c.args.self.now c.self.view_is laws.lawful laws.are_orders c.args.worker _ _ c.self.invariant.0 (returns-in-Point g c),
  c.self.invariant.1,
)
