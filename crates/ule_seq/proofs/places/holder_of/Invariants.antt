-- No hand so far has the thread.
use Rattle.std.proofs.Common.{◌≡◌, drop}
use Rattle.ule_model.specs.WorldValue.{holder_among}
use Rattle.ule_seq.proofs.StepLaws.{hands_of}
use Rattle.ule_seq.proofs.places.holder_of.Given as goal

abbrev pub invariant-loop-worker : goal.invariant-loop-worker
invariant-loop-worker l = holder_among 0 (hands_of l.m.state.seats) l.t ≡ holder_among l.worker (drop l.worker (hands_of l.m.state.seats)) l.t
