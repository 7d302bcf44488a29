use Rattle.ule_micro.specs.Opening.{AreFirstWords}
use Rattle.ule_micro.proofs.opening.first_words.Given as goal

abbrev pub invariant-loop-t : goal.invariant-loop-t
invariant-loop-t g l = AreFirstWords (g.P.Parts.means l.parts) l.t l.words.items
