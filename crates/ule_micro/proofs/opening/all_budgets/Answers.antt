use Rattle.std.proofs.Common.{◌+◌, length, arith}
use Rattle.ule_micro.proofs.Numbers.{budgets_front, budgets_next}
use Rattle.ule_micro.proofs.opening.all_budgets.Goals as goal

pub overflow_add-room : goal.overflow_add-room
overflow_add-room g c = let m = g.P.Parts.means c.args.parts.now in
    let front = budgets_front m.budget (length m.owns) (c.loop-worker.worker + 1) (let a = c.requires in let b = c.loop-worker-test.true in omega arith) in
    let next = budgets_next m.budget c.loop-worker.worker in
    let few = (g.met.P.Parts.lawful c.args.parts.now).small.small in
    let a = c.loop-worker.invariant in let b = c.budget-room.ensures in record { fits = omega arith }
