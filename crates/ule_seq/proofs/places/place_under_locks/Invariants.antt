-- No lock so far has the thread under it.
use Rattle.std.proofs.Common.{◌≡◌, drop}
use Rattle.ule_seq.specs.StepStates.{place_among}
use Rattle.ule_seq.proofs.places.place_under_locks.Given as goal

abbrev pub invariant-loop-l : goal.invariant-loop-l
invariant-loop-l l = place_among l.m.state.values l.t ≡ place_among (drop l.l l.m.state.values) l.t
