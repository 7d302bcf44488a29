use Rattle.ule_parts.proofs.Orders as orders
use Rattle.ule_parts.proofs.laws.scripts_are_orders.Goals as goal

pub returns : goal.returns
returns c = orders.scripts_are_orders
