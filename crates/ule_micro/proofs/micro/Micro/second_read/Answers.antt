use Rattle.ule_micro.proofs.Refines.{keeps_turned, turned_by, stands_inside, second_turned}
use Rattle.ule_micro.proofs.micro.Micro.second_read.Goals as goal

pub returns : goal.returns
returns g c = turned_by g.P.Parts.means g.P.Parts.orders c.self.inside.parts _ c.args.self.now c.self.view_is c.args.worker _
    (second_turned g.P.Parts.means g.P.Parts.orders c.self.inside.parts _ c.args.worker c.index_mut-seat.result.now c.index_mut-seat.ensures.value c.self.invariant.0 c.args.e c.args.t c.args.l c.t.inside.0 c.index.result.now c.after_second_read-there.result (stands_inside g.P.Parts.means g.P.Parts.orders c.self.inside.parts _ c.args.self.now c.self.view_is c.args.worker _ c.requires.at)
    c.t.view_is c.t.invariant c.index.ensures c.after_second_read-there.ensures)

pub invariant_of-self : goal.invariant_of-self
invariant_of-self g c = let laws = g.met.P.Parts in (
  keeps_turned g.P.Parts.means g.P.Parts.orders c.self.inside.parts _ c.args.self.now c.self.view_is laws.lawful laws.are_orders c.args.worker _ _ c.self.invariant.0 (returns g c),
  c.self.invariant.1,
)
