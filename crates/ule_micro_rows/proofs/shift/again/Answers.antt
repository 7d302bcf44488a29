use Rattle.std.proofs.Common.{sym, arith, ◌-◌}
use Rattle.ule_micro_rows.specs.ShiftLaws.{again_at, again_past}
use Rattle.ule_micro_rows.proofs.shift.again.Goals as goal

pub returns-then-k-le-AGAIN : goal.returns-then-k-le-AGAIN
returns-then-k-le-AGAIN c = let some = c.requires in let low = c.if-k-le-AGAIN.true in sym (again_at c.args.e (c.args.k - 1) (grind (arith, some, low)))

pub returns-else-k-le-AGAIN : goal.returns-else-k-le-AGAIN
returns-else-k-le-AGAIN c = let past = c.if-k-le-AGAIN.false in sym (again_past c.args.e (c.args.k - 1) (grind (arith, past)))
