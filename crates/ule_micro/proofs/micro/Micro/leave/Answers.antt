use Rattle.std.proofs.Common.{ap, refl}
use Rattle.ule_micro.specs.declared.seat.Phase.TheVariants.{Leaving}
use Rattle.ule_micro.proofs.Refines.{read_there, at_phase, leaves_stored, leaves_calm, leaves_second}
use Rattle.ule_micro.proofs.micro.Micro.leave.Goals as goal

pub store-requires : goal.store-requires
store-requires g c = record { pends = leaves_stored g.P.Parts.means g.P.Parts.orders c.args.self.now.parts c.args.self.now.state c.args.worker c.index.result.now (read_there g.P.Parts.means g.P.Parts.orders c.self.inside.parts _ c.args.self.now c.self.view_is c.args.worker c.index.result.now c.index.ensures) c.args.reply c.args.now c.args.held c.index.result.now.pending c.in-Some.change c.requires.at refl c.in-Some.is }

pub release_last-requires-clause-at : goal.release_last-requires-clause-at
release_last-requires-clause-at g c = at_phase c.args.self.now.state c.args.worker _ _ (ap (Leaving c.args.reply c.args.now) c.in-One.is) c.requires.at

pub release_last-requires-clause-calm : goal.release_last-requires-clause-calm
release_last-requires-clause-calm g c = leaves_calm g.P.Parts.means g.P.Parts.orders c.args.self.now.parts c.args.self.now.state c.args.worker c.index.result.now (read_there g.P.Parts.means g.P.Parts.orders c.self.inside.parts _ c.args.self.now c.self.view_is c.args.worker c.index.result.now c.index.ensures) c.args.reply c.args.now c.args.held c.requires.at c.in_default.is

pub release-requires : goal.release-requires
release-requires g c = record { next = leaves_second g.P.Parts.means g.P.Parts.orders c.args.self.now.parts c.args.self.now.state c.args.worker c.index.result.now (read_there g.P.Parts.means g.P.Parts.orders c.self.inside.parts _ c.args.self.now c.self.view_is c.args.worker c.index.result.now c.index.ensures) c.args.reply c.args.now c.in-Two.a c.in-Two.b (at_phase c.args.self.now.state c.args.worker _ _ (ap (Leaving c.args.reply c.args.now) c.in-Two.is) c.requires.at) c.in_default.is }
