use Rattle.std.proofs.Common.{◌≡◌}
use Rattle.ule_micro.specs.Means.{budgets}
use Rattle.ule_micro.proofs.opening.all_budgets.Given as goal

abbrev pub invariant-loop-worker : goal.invariant-loop-worker
invariant-loop-worker g l = l.room ≡ budgets (g.P.Parts.means l.parts).budget l.worker
