use Rattle.ule_micro.specs.Opening.{AreFirstValues}
use Rattle.ule_micro.proofs.opening.first_values.Given as goal

abbrev pub invariant-loop-l : goal.invariant-loop-l
invariant-loop-l g l = AreFirstValues (g.P.Parts.means l.parts) l.l l.values.items
