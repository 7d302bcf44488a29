-- The copy has the items so far.
use Rattle.std.proofs.Common.{◌≡◌, take}
use Rattle.ule_types.proofs.items.Items.copy.Given as goal

abbrev pub invariant-loop-x : goal.invariant-loop-x
invariant-loop-x g l = l.copy ≡ take l.x-index l.self
