-- No hand so far has the thread.
use Rattle.std.proofs.Common.{◌≡◌, drop}
use Rattle.ule_model.specs.WorldValue.{line_in_hands}
use Rattle.ule_seq.proofs.world.World.line_in_hands.Given as goal

abbrev pub invariant-loop-worker : goal.invariant-loop-worker
invariant-loop-worker l = line_in_hands 0 l.self.hands l.t ≡ line_in_hands l.worker (drop l.worker l.self.hands) l.t
