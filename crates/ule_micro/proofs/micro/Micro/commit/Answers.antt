use Rattle.std.proofs.Common.{arith}
use Rattle.std.proofs.lemmas.List.{length-reverse}
use Rattle.ule_micro.proofs.Refines.{keeps_turned, turned_by, stands_inside, committed_turned, can_perform, commit_rises, commit_small, newest}
use Rattle.ule_micro.proofs.micro.Micro.commit.Goals as goal

pub returns : goal.returns
returns g c = turned_by g.P.Parts.means g.P.Parts.orders c.self.inside.parts _ c.args.self.now c.self.view_is c.args.worker _
    (committed_turned g.P.Parts.means g.P.Parts.orders c.self.inside.parts _ c.args.worker c.index_mut-seat.result.now c.index_mut-seat.ensures.value c.self.invariant.0 c.args.e c.args.held c.args.now c.act-reply.new.seat c.act-reply.new.values.items c.act-reply.result _ (stands_inside g.P.Parts.means g.P.Parts.orders c.self.inside.parts _ c.args.self.now c.self.view_is c.args.worker _ c.requires.at) c.act-reply.ensures (newest _ _ _ c.push_reserved.ensures.items))

pub act-reply-requires-clause-can : goal.act-reply-requires-clause-can
act-reply-requires-clause-can g c = let laws = g.met.P.Parts in can_perform g.P.Parts.means g.P.Parts.orders c.self.inside.parts _ laws.lawful laws.are_orders c.self.invariant.0 c.args.worker c.index_mut-seat.result.now c.index_mut-seat.ensures.value c.args.e c.args.held c.args.now (stands_inside g.P.Parts.means g.P.Parts.orders c.self.inside.parts _ c.args.self.now c.self.view_is c.args.worker _ c.requires.at)

pub act-reply-requires-clause-rising : goal.act-reply-requires-clause-rising
act-reply-requires-clause-rising g c = let laws = g.met.P.Parts in commit_rises g.P.Parts.means g.P.Parts.orders c.self.inside.parts _ laws.lawful laws.are_orders c.self.invariant.0 c.args.worker c.index_mut-seat.result.now c.index_mut-seat.ensures.value c.args.e c.args.held c.args.now (stands_inside g.P.Parts.means g.P.Parts.orders c.self.inside.parts _ c.args.self.now c.self.view_is c.args.worker _ c.requires.at)

pub act-reply-requires-clause-few : goal.act-reply-requires-clause-few
act-reply-requires-clause-few g c = let laws = g.met.P.Parts in (commit_small g.P.Parts.means g.P.Parts.orders c.self.inside.parts _ laws.lawful laws.are_orders c.self.invariant.0 c.args.worker c.index_mut-seat.result.now c.index_mut-seat.ensures.value c.args.e c.args.held c.args.now (stands_inside g.P.Parts.means g.P.Parts.orders c.self.inside.parts _ c.args.self.now c.self.view_is c.args.worker _ c.requires.at)).0

pub overflow_add-self : goal.overflow_add-self
overflow_add-self g c = let laws = g.met.P.Parts in let z = commit_small g.P.Parts.means g.P.Parts.orders c.self.inside.parts _ laws.lawful laws.are_orders c.self.invariant.0 c.args.worker c.index_mut-seat.result.now c.index_mut-seat.ensures.value c.args.e c.args.held c.args.now (stands_inside g.P.Parts.means g.P.Parts.orders c.self.inside.parts _ c.args.self.now c.self.view_is c.args.worker _ c.requires.at) in let y = z.1 in record { fits = omega arith }

pub push_reserved-requires : goal.push_reserved-requires
push_reserved-requires g c = let laws = g.met.P.Parts in let z = commit_small g.P.Parts.means g.P.Parts.orders c.self.inside.parts _ laws.lawful laws.are_orders c.self.invariant.0 c.args.worker c.index_mut-seat.result.now c.index_mut-seat.ensures.value c.args.e c.args.held c.args.now (stands_inside g.P.Parts.means g.P.Parts.orders c.self.inside.parts _ c.args.self.now c.self.view_is c.args.worker _ c.requires.at) in let y = z.2 in
    let len = c.self.inside.history.ok.0 in let same = length-reverse c.self.inside.history.items in let room = c.self.invariant.1 in omega arith

pub invariant_of-self : goal.invariant_of-self
invariant_of-self g c = let laws = g.met.P.Parts in (
  keeps_turned g.P.Parts.means g.P.Parts.orders c.self.inside.parts _ c.args.self.now c.self.view_is laws.lawful laws.are_orders c.args.worker _ _ c.self.invariant.0 (returns g c),
  (let room = c.self.invariant.1 in let same = c.push_reserved.ensures.capacity in omega arith),
)
