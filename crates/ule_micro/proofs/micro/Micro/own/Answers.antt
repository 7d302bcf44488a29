use Rattle.std.proofs.Common.{refl}
use Rattle.ule_micro.proofs.Refines.{seat_there}
use Rattle.ule_micro.proofs.micro.Micro.own.Goals as goal

pub returns : goal.returns
returns g c = (c.index.result.now, seat_there g.P.Parts.means g.P.Parts.orders c.self.inside.parts _ c.args.self.now c.self.view_is c.args.worker c.index.result.now c.requires c.index.ensures, refl)
