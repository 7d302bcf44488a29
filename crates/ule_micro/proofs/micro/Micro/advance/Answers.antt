use Rattle.ule_micro.proofs.Refines.{tells_there, legal_there, finished_there, not_stuck_there, turned_workers, unmoved_there}
use Rattle.ule_micro.proofs.micro.Micro.advance.Goals as goal

pub returns-clause-workers : goal.returns-clause-workers
returns-clause-workers g c = turned_workers g.P.Parts.means g.P.Parts.orders c.args.self.now c.turn-turn.new.self c.args.worker c.turn-turn.result c.turn-turn.ensures

pub returns-clause-unmoved : goal.returns-clause-unmoved
returns-clause-unmoved g c = unmoved_there g.P.Parts.means g.P.Parts.orders c.args.self.now c.turn-turn.new.self c.args.worker c.turn-turn.result c.turn-turn.ensures

pub returns-clause-tells : goal.returns-clause-tells
returns-clause-tells g c = tells_there g.P.Parts.means g.P.Parts.orders c.self-2.inside.parts _ c.turn-turn.new.self c.self-2.view_is c.self-2.invariant.0

pub returns-clause-goes_on : goal.returns-clause-goes_on
returns-clause-goes_on g c = let laws = g.met.P.Parts in not_stuck_there g.P.Parts.means g.P.Parts.orders c.self-2.inside.parts _ c.turn-turn.new.self c.self-2.view_is (laws.lawful c.self-2.inside.parts) (laws.are_orders c.self-2.inside.parts) c.self-2.invariant.0

pub returns-clause-legal : goal.returns-clause-legal
returns-clause-legal g c = legal_there g.P.Parts.means g.P.Parts.orders c.self-2.inside.parts _ c.turn-turn.new.self c.self-2.view_is c.self-2.invariant.0

pub returns-clause-finished : goal.returns-clause-finished
returns-clause-finished g c = let laws = g.met.P.Parts in
    finished_there g.P.Parts.means g.P.Parts.orders c.self.inside.parts _ c.args.self.now c.self.view_is c.args.worker c.turn-turn.new.self c.turn-turn.result (laws.lawful c.self.inside.parts) (laws.are_orders c.self.inside.parts) c.self.invariant.0 c.requires c.turn-turn.ensures
