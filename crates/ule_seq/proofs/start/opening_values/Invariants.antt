-- The locks so far have their opening values.
use Rattle.std.proofs.Common.{◌≡◌, map}
use Rattle.std.specs.List.{range_with_len}
use Rattle.ule_model.specs.OpeningValues.{opening_value}
use Rattle.ule_seq.proofs.start.opening_values.Given as goal

abbrev pub invariant-loop-l : goal.invariant-loop-l
invariant-loop-l l = l.values.items ≡ map (opening_value l.s) (range_with_len 0 l.l)
