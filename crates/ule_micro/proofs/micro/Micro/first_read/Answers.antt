use Rattle.std.proofs.Common.{ap, ◌∙◌}
use Rattle.ule_micro.proofs.Refines.{keeps_turned, turned_by, stands_inside, first_turned}
use Rattle.ule_micro.proofs.micro.Micro.first_read.Goals as goal

pub returns-in-Lock : goal.returns-in-Lock
returns-in-Lock g c = turned_by g.P.Parts.means g.P.Parts.orders c.self.inside.parts _ c.args.self.now c.self.view_is c.args.worker _
    (first_turned g.P.Parts.means g.P.Parts.orders c.self.inside.parts _ c.args.worker c.index_mut-seat.result.now c.index_mut-seat.ensures.value c.self.invariant.0 c.args.e c.args.t c.in-Lock.l c.t.inside.0 c.index-word.result.now (stands_inside g.P.Parts.means g.P.Parts.orders c.self.inside.parts _ c.args.self.now c.self.view_is c.args.worker _ c.requires.at)
    (ap (λ p. (g.P.Parts.means p).needs c.args.e) (ap (λ y. y.parts) c.self.view_is) ∙ c.requires.sought) c.t.view_is c.t.invariant c.index-word.ensures c.in-Lock.is)

pub invariant_of-self : goal.invariant_of-self
invariant_of-self g c = let laws = g.met.P.Parts in (
  keeps_turned g.P.Parts.means g.P.Parts.orders c.self.inside.parts _ c.args.self.now c.self.view_is laws.lawful laws.are_orders c.args.worker _ _ c.self.invariant.0 (returns-in-Lock g c),
  c.self.invariant.1,
)
