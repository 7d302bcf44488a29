-- None of the threads so far has the number.
use Rattle.std.proofs.Common.{◌≡◌, drop}
use Rattle.ule_types.specs.Commands.{is_among}
use Rattle.ule_weave.proofs.declared.is_unborn.Given as goal

abbrev pub invariant-loop-id : goal.invariant-loop-id
invariant-loop-id l = is_among l.ids l.t ≡ is_among (drop l.id-index l.ids) l.t
