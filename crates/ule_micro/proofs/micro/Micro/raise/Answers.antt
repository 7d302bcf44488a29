use Rattle.std.proofs.Common.{◌<◌, sym, subst, arith}
use Rattle.ule_micro.proofs.Refines.{keeps_turned, turned_by, stands_inside, raised_turned, in_range, begun_low, raise_goes, raise_calm, raise_small, now_small}
use Rattle.ule_micro.proofs.Lists.{there}
use Rattle.ule_micro.proofs.micro.Micro.raise.Goals as goal

pub returns : goal.returns
returns g c = turned_by g.P.Parts.means g.P.Parts.orders c.self.inside.parts _ c.args.self.now c.self.view_is c.args.worker _
    (raised_turned g.P.Parts.means g.P.Parts.orders c.self.inside.parts _ c.args.worker c.index_mut-seat.result.now c.index_mut-seat.ensures.value c.args.k c.go_on.new.seat (stands_inside g.P.Parts.means g.P.Parts.orders c.self.inside.parts _ c.args.self.now c.self.view_is c.args.worker _ c.requires.at) c.go_on.ensures)

pub overflow_add-self : goal.overflow_add-self
overflow_add-self g c = let laws = g.met.P.Parts in record { fits = now_small g.P.Parts.means g.P.Parts.orders c.self.inside.parts _ laws.lawful laws.are_orders c.self.invariant.0 c.args.worker c.args.k (stands_inside g.P.Parts.means g.P.Parts.orders c.self.inside.parts _ c.args.self.now c.self.view_is c.args.worker _ c.requires.at) }

pub index_mut-seat-requires : goal.index_mut-seat-requires
index_mut-seat-requires g c = let at = stands_inside g.P.Parts.means g.P.Parts.orders c.self.inside.parts _ c.args.self.now c.self.view_is c.args.worker _ c.requires.at in
    subst (λ n. c.args.worker < n) (sym c.self.inside.seats.ok.0) (there c.self.inside.seats.items c.args.worker at.0 at.1)

pub overflow_add-seat : goal.overflow_add-seat
overflow_add-seat g c = let laws = g.met.P.Parts in let z = raise_small g.P.Parts.means g.P.Parts.orders c.self.inside.parts _ laws.lawful laws.are_orders c.self.invariant.0 c.args.worker c.index_mut-seat.result.now c.index_mut-seat.ensures.value c.args.k (stands_inside g.P.Parts.means g.P.Parts.orders c.self.inside.parts _ c.args.self.now c.self.view_is c.args.worker _ c.requires.at) in let y = z.1 in record { fits = omega arith }

pub overflow_add-seat-2 : goal.overflow_add-seat-2
overflow_add-seat-2 g c = let laws = g.met.P.Parts in let z = raise_small g.P.Parts.means g.P.Parts.orders c.self.inside.parts _ laws.lawful laws.are_orders c.self.invariant.0 c.args.worker c.index_mut-seat.result.now c.index_mut-seat.ensures.value c.args.k (stands_inside g.P.Parts.means g.P.Parts.orders c.self.inside.parts _ c.args.self.now c.self.view_is c.args.worker _ c.requires.at) in let y = z.2 in record { fits = omega arith }

pub go_on-requires-clause-worker : goal.go_on-requires-clause-worker
go_on-requires-clause-worker g c = let laws = g.met.P.Parts in in_range g.P.Parts.means g.P.Parts.orders c.self.inside.parts _ laws.lawful laws.are_orders c.self.invariant.0 c.args.worker c.index_mut-seat.result.now c.index_mut-seat.ensures.value _ (stands_inside g.P.Parts.means g.P.Parts.orders c.self.inside.parts _ c.args.self.now c.self.view_is c.args.worker _ c.requires.at)

pub go_on-requires-clause-begun : goal.go_on-requires-clause-begun
go_on-requires-clause-begun g c = let laws = g.met.P.Parts in begun_low g.P.Parts.means g.P.Parts.orders c.self.inside.parts _ laws.lawful laws.are_orders c.self.invariant.0 c.args.worker c.index_mut-seat.result.now c.index_mut-seat.ensures.value _ (stands_inside g.P.Parts.means g.P.Parts.orders c.self.inside.parts _ c.args.self.now c.self.view_is c.args.worker _ c.requires.at)

pub go_on-requires-clause-goes_on : goal.go_on-requires-clause-goes_on
go_on-requires-clause-goes_on g c = let laws = g.met.P.Parts in raise_goes g.P.Parts.means g.P.Parts.orders c.self.inside.parts _ laws.lawful laws.are_orders c.self.invariant.0 c.args.worker c.index_mut-seat.result.now c.index_mut-seat.ensures.value c.args.k (stands_inside g.P.Parts.means g.P.Parts.orders c.self.inside.parts _ c.args.self.now c.self.view_is c.args.worker _ c.requires.at)

pub go_on-requires-clause-calm : goal.go_on-requires-clause-calm
go_on-requires-clause-calm g c = let laws = g.met.P.Parts in raise_calm g.P.Parts.means g.P.Parts.orders c.self.inside.parts _ laws.lawful laws.are_orders c.self.invariant.0 c.args.worker c.index_mut-seat.result.now c.index_mut-seat.ensures.value c.args.k (stands_inside g.P.Parts.means g.P.Parts.orders c.self.inside.parts _ c.args.self.now c.self.view_is c.args.worker _ c.requires.at)

pub invariant_of-self : goal.invariant_of-self
invariant_of-self g c = let laws = g.met.P.Parts in (
  keeps_turned g.P.Parts.means g.P.Parts.orders c.self.inside.parts _ c.args.self.now c.self.view_is laws.lawful laws.are_orders c.args.worker _ _ c.self.invariant.0 (returns g c),
  c.self.invariant.1,
)
