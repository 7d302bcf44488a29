-- No lock so far has the thread under it.
use Rattle.std.proofs.Common.{◌≡◌, drop}
use Rattle.ule_model.specs.WorldValue.{line_among}
use Rattle.ule_seq.proofs.world.World.line_under_locks.Given as goal

abbrev pub invariant-loop-guarded : goal.invariant-loop-guarded
invariant-loop-guarded l = line_among l.self.values l.t ≡ line_among (drop l.guarded-index l.self.values) l.t
