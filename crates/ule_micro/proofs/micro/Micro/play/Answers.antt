use Rattle.std.proofs.Common.{◌∙◌}
use Rattle.ule_micro.proofs.Refines.{played_on, turned_workers, tells_there, legal_there, not_stuck_there}
use Rattle.ule_micro.proofs.micro.Micro.play.Goals as goal

pub loop-worker-preserved : goal.loop-worker-preserved
loop-worker-preserved g c = let i = c.loop-worker.invariant in let turned = c.advance.ensures.turned in record {
  parts = turned.0 ∙ i.parts;
  workers = turned_workers g.P.Parts.means g.P.Parts.orders c.loop-worker.self c.advance.new.self _ _ turned ∙ i.workers;
  rest = played_on g.P.Parts.means g.P.Parts.orders c.args.self.now c.loop-worker.self c.advance.new.self c.args.turns.now c.loop-worker.worker-index _ _ i.parts c.loop-worker-test.true turned i.rest;
}

pub returns-clause-tells : goal.returns-clause-tells
returns-clause-tells g c = tells_there g.P.Parts.means g.P.Parts.orders c.self.inside.parts _ c.loop-worker.self c.self.view_is c.self.invariant.0

pub returns-clause-goes_on : goal.returns-clause-goes_on
returns-clause-goes_on g c = let laws = g.met.P.Parts in not_stuck_there g.P.Parts.means g.P.Parts.orders c.self.inside.parts _ c.loop-worker.self c.self.view_is (laws.lawful c.self.inside.parts) (laws.are_orders c.self.inside.parts) c.self.invariant.0

pub returns-clause-legal : goal.returns-clause-legal
returns-clause-legal g c = legal_there g.P.Parts.means g.P.Parts.orders c.self.inside.parts _ c.loop-worker.self c.self.view_is c.self.invariant.0
