-- The lines of the threads so far, which are below the next.
use Rattle.std.proofs.Common.{◌≡◌}
use Rattle.std.specs.List.{filter_map, range_with_len}
use Rattle.ule_model.specs.WorldValue.{line_at}
use Rattle.ule_seq.proofs.FinalLaws.{AreBelow}
use Rattle.ule_seq.proofs.world.World.set_threads.Given as goal

abbrev pub invariant-loop-t : goal.invariant-loop-t
invariant-loop-t l = record {
  lines : l.out ≡ record l.initial.out { threads = filter_map (line_at l.self) (range_with_len 0 l.t) };
  below : AreBelow l.t (filter_map (line_at l.self) (range_with_len 0 l.t));
}
