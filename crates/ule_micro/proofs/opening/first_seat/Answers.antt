use Rattle.ule_micro.proofs.Starting.{start_can}
use Rattle.ule_micro.proofs.opening.first_seat.Goals as goal

pub next_item-item-requires-clause-begins : goal.next_item-item-requires-clause-begins
next_item-item-requires-clause-begins g c = let laws = g.met.P.Parts in
    start_can (g.P.Parts.means c.args.parts.now) (g.P.Parts.orders c.args.parts.now) (laws.lawful c.args.parts.now) (laws.are_orders c.args.parts.now) c.args.worker c.own_at_start-own.result c.own_at_start-own.ensures
