use Rattle.ule_micro.proofs.Refines.{keeps_turned, turned_by, takes_here, took_turned}
use Rattle.ule_micro.proofs.micro.Micro.take.Goals as goal

pub returns-in-None : goal.returns-in-None
returns-in-None g c = turned_by g.P.Parts.means g.P.Parts.orders c.self.inside.parts _ c.args.self.now c.self.view_is c.args.worker _
    (took_turned g.P.Parts.means g.P.Parts.orders c.self.inside.parts _ c.args.worker c.index_mut-seat.result.now c.index_mut-seat.ensures.value c.self.invariant.0 c.args.l c.l.inside.0 c.args.there c.index-word.result.now (takes_here g.P.Parts.means g.P.Parts.orders c.self.inside.parts _ c.args.self.now c.self.view_is c.args.worker _ _ c.requires.next) c.l.view_is c.l.invariant c.index-word.ensures c.in-None.is)

pub invariant_of-self : goal.invariant_of-self
invariant_of-self g c = let laws = g.met.P.Parts in (
  keeps_turned g.P.Parts.means g.P.Parts.orders c.self.inside.parts _ c.args.self.now c.self.view_is laws.lawful laws.are_orders c.args.worker _ _ c.self.invariant.0 (returns-in-None g c),
  c.self.invariant.1,
)
