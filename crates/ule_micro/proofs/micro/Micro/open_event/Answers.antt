use Rattle.ule_micro.proofs.Refines.{open_rises, stands_inside}
use Rattle.ule_micro.specs.declared.seat.Progress.TheVariants as progress
use Rattle.ule_micro.proofs.micro.Micro.open_event.Goals as goal

pub fixed-requires : goal.fixed-requires
fixed-requires g c = let laws = g.met.P.Parts in open_rises g.P.Parts.means g.P.Parts.orders c.self.inside.parts _ laws.lawful laws.are_orders c.self.invariant.0 c.args.worker c.args.e progress.Open
    (stands_inside g.P.Parts.means g.P.Parts.orders c.self.inside.parts _ c.args.self.now c.self.view_is c.args.worker _ c.requires.at)
