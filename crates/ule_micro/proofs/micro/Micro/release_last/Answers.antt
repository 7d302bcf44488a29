use Rattle.ule_micro.proofs.Refines.{keeps_turned, turned_by, stands_inside, left_turned, quiet_here, begun_low, leave_goes, calm_now}
use Rattle.ule_micro.proofs.micro.Micro.release_last.Goals as goal

pub returns : goal.returns
returns g c = turned_by g.P.Parts.means g.P.Parts.orders c.self.inside.parts _ c.args.self.now c.self.view_is c.args.worker _
    (left_turned g.P.Parts.means g.P.Parts.orders c.self.inside.parts _ c.args.worker c.index_mut-seat.result.now c.index_mut-seat.ensures.value c.args.a c.a.inside.0 c.args.reply c.args.now c.go_on.new.seat (stands_inside g.P.Parts.means g.P.Parts.orders c.self.inside.parts _ c.args.self.now c.self.view_is c.args.worker _ c.requires.at) (quiet_here g.P.Parts.means g.P.Parts.orders c.self.inside.parts _ c.args.self.now c.self.view_is c.args.worker c.requires.calm) c.a.view_is c.go_on.ensures)

pub go_on-requires-clause-begun : goal.go_on-requires-clause-begun
go_on-requires-clause-begun g c = let laws = g.met.P.Parts in begun_low g.P.Parts.means g.P.Parts.orders c.self.inside.parts _ laws.lawful laws.are_orders c.self.invariant.0 c.args.worker c.index_mut-seat.result.now c.index_mut-seat.ensures.value _ (stands_inside g.P.Parts.means g.P.Parts.orders c.self.inside.parts _ c.args.self.now c.self.view_is c.args.worker _ c.requires.at)

pub go_on-requires-clause-goes_on : goal.go_on-requires-clause-goes_on
go_on-requires-clause-goes_on g c = let laws = g.met.P.Parts in leave_goes g.P.Parts.means g.P.Parts.orders c.self.inside.parts _ laws.lawful laws.are_orders c.self.invariant.0 c.args.worker c.index_mut-seat.result.now c.index_mut-seat.ensures.value c.args.a c.args.now c.args.reply (stands_inside g.P.Parts.means g.P.Parts.orders c.self.inside.parts _ c.args.self.now c.self.view_is c.args.worker _ c.requires.at) (quiet_here g.P.Parts.means g.P.Parts.orders c.self.inside.parts _ c.args.self.now c.self.view_is c.args.worker c.requires.calm)

pub go_on-requires-clause-calm : goal.go_on-requires-clause-calm
go_on-requires-clause-calm g c = let laws = g.met.P.Parts in calm_now g.P.Parts.means g.P.Parts.orders c.self.inside.parts _ laws.lawful laws.are_orders c.self.invariant.0 c.args.worker c.index_mut-seat.result.now c.index_mut-seat.ensures.value _ (stands_inside g.P.Parts.means g.P.Parts.orders c.self.inside.parts _ c.args.self.now c.self.view_is c.args.worker _ c.requires.at) (quiet_here g.P.Parts.means g.P.Parts.orders c.self.inside.parts _ c.args.self.now c.self.view_is c.args.worker c.requires.calm)

pub invariant_of-self : goal.invariant_of-self
invariant_of-self g c = let laws = g.met.P.Parts in (
  keeps_turned g.P.Parts.means g.P.Parts.orders c.self.inside.parts _ c.args.self.now c.self.view_is laws.lawful laws.are_orders c.args.worker _ _ c.self.invariant.0 (returns g c),
  c.self.invariant.1,
)
