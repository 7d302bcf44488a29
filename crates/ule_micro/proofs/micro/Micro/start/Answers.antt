use Rattle.std.proofs.Common.{◌∙◌, reverse, ap, arith}
use Rattle.ule_micro.specs.Means.{budgets}
use Rattle.ule_micro.proofs.Turning.{tells_place}
use Rattle.ule_micro.proofs.Unstuck.{not_stuck}
use Rattle.ule_micro.proofs.Starting.{opening_start, opening_kept}
use Rattle.ule_micro.proofs.micro.Micro.start.Goals as goal

pub invariant_of-result : goal.invariant_of-result
invariant_of-result g c = let laws = g.met.P.Parts in (
  opening_kept (g.P.Parts.means c.args.parts) (g.P.Parts.orders c.args.parts) c.workers-workers.result c.in_ok-locks.locks.items c.in_ok-words.words.items c.in_ok-values.values.items c.in_ok-seats.seats.items _
      (laws.lawful c.args.parts) (laws.are_orders c.args.parts) c.workers-workers.ensures c.in_ok-locks.ensures c.in_ok-words.ensures c.in_ok-values.ensures c.in_ok-seats.ensures (ap reverse c.in_ok-history.ensures.items),
  (let b = (g.P.Parts.means c.args.parts).budget in let room = c.in_ok-history.ensures.exact ∙ (c.all_budgets-room.ensures ∙ ap (budgets b) c.workers-workers.ensures) in omega arith),
)

pub returns-clause-start : goal.returns-clause-start
returns-clause-start g c = let laws = g.met.P.Parts in
    opening_start (g.P.Parts.means c.args.parts) (g.P.Parts.orders c.args.parts) c.workers-workers.result c.in_ok-locks.locks.items c.in_ok-words.words.items c.in_ok-values.values.items c.in_ok-seats.seats.items _
    (laws.lawful c.args.parts) (laws.are_orders c.args.parts) c.workers-workers.ensures c.in_ok-locks.ensures c.in_ok-words.ensures c.in_ok-values.ensures c.in_ok-seats.ensures (ap reverse c.in_ok-history.ensures.items)

pub returns-clause-agrees : goal.returns-clause-agrees
returns-clause-agrees g c = (invariant_of-result g c).0.agreement

pub returns-clause-legal : goal.returns-clause-legal
returns-clause-legal g c = (invariant_of-result g c).0.play

pub returns-clause-tells : goal.returns-clause-tells
returns-clause-tells g c = tells_place (g.P.Parts.means c.args.parts) (g.P.Parts.orders c.args.parts) _ (invariant_of-result g c).0

pub returns-clause-goes_on : goal.returns-clause-goes_on
returns-clause-goes_on g c = let laws = g.met.P.Parts in not_stuck (g.P.Parts.means c.args.parts) (g.P.Parts.orders c.args.parts) (laws.lawful c.args.parts) (laws.are_orders c.args.parts) _ (invariant_of-result g c).0
