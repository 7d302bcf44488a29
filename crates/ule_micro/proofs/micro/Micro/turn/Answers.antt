use Rattle.std.proofs.Common.{ap, refl}
use Rattle.ule_micro.proofs.Refines.{read_there, stands_by, finished_turned}
use Rattle.ule_micro.proofs.micro.Micro.turn.Goals as goal

pub raise-requires : goal.raise-requires
raise-requires g c = record { at = stands_by c.args.self.now.state c.args.worker c.index.result.now _ c.requires.there (read_there g.P.Parts.means g.P.Parts.orders c.self.inside.parts _ c.args.self.now c.self.view_is c.args.worker c.index.result.now c.index.ensures) c.in-Advance.is }

pub approach-requires : goal.approach-requires
approach-requires g c = record { at = stands_by c.args.self.now.state c.args.worker c.index.result.now _ c.requires.there (read_there g.P.Parts.means g.P.Parts.orders c.self.inside.parts _ c.args.self.now c.self.view_is c.args.worker c.index.result.now c.index.ensures) c.in-Event.is }

pub leave-requires : goal.leave-requires
leave-requires g c = record { at = stands_by c.args.self.now.state c.args.worker c.index.result.now _ c.requires.there (read_there g.P.Parts.means g.P.Parts.orders c.self.inside.parts _ c.args.self.now c.self.view_is c.args.worker c.index.result.now c.index.ensures) c.in-Leaving.is }

pub returns-in-Finished : goal.returns-in-Finished
returns-in-Finished g c = let done = finished_turned g.P.Parts.means g.P.Parts.orders c.args.self.now.parts c.args.self.now.state c.args.worker c.index.result.now (read_there g.P.Parts.means g.P.Parts.orders c.self.inside.parts _ c.args.self.now c.self.view_is c.args.worker c.index.result.now c.index.ensures) (stands_by c.args.self.now.state c.args.worker c.index.result.now _ c.requires.there (read_there g.P.Parts.means g.P.Parts.orders c.self.inside.parts _ c.args.self.now c.self.view_is c.args.worker c.index.result.now c.index.ensures) c.in-Finished.is) in (refl, ap (λ x. x.0) done, ap (λ x. x.1) done)
