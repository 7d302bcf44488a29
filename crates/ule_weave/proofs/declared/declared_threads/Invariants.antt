use Rattle.std.proofs.Common.{◌≡◌, filter}
use Rattle.std.specs.List.{range_with_len}
use Rattle.ule_parts.specs.Workers.{declared_ids_of}
use Rattle.ule_types.specs.Commands.{is_among}
use Rattle.ule_weave.proofs.declared.declared_threads.Given as goal

abbrev pub invariant-loop-t : goal.invariant-loop-t
invariant-loop-t l = l.threads.items ≡ filter (is_among (declared_ids_of l.s)) (range_with_len 0 l.t)
