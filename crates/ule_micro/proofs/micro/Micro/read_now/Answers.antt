use Rattle.ule_micro.proofs.Refines.{turn_standing_at, keeps_turned, turned_by, stands_inside}
use Rattle.ule_micro.proofs.micro.Micro.read_now.Goals as goal

pub returns : goal.returns
returns g c = turned_by g.P.Parts.means g.P.Parts.orders c.self.inside.parts _ c.args.self.now c.self.view_is c.args.worker _
    (turn_standing_at g.P.Parts.means g.P.Parts.orders c.self.inside.parts _ c.args.worker _ c.index_mut-seat.result.now (stands_inside g.P.Parts.means g.P.Parts.orders c.self.inside.parts _ c.args.self.now c.self.view_is c.args.worker _ c.requires.at) c.index_mut-seat.ensures.value)

pub invariant_of-self : goal.invariant_of-self
invariant_of-self g c = let laws = g.met.P.Parts in (
  keeps_turned g.P.Parts.means g.P.Parts.orders c.self.inside.parts _ c.args.self.now c.self.view_is laws.lawful laws.are_orders c.args.worker _ _ c.self.invariant.0 (returns g c),
  c.self.invariant.1,
)
