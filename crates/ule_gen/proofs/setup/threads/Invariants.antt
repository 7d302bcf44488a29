use Rattle.std.proofs.Common.{◌≡◌, map}
use Rattle.std.specs.List.{range_with_len}
use Rattle.ule_gen.specs.Made.{thread_of}
use Rattle.ule_gen.proofs.setup.threads.Given as goal

abbrev pub invariant-loop-i : goal.invariant-loop-i
invariant-loop-i l = l.threads ≡ map thread_of (range_with_len 0 l.i)
