-- No lock so far has the thread.
use Rattle.std.proofs.Common.{◌≡◌, drop}
use Rattle.std.specs.List.{position_from}
use Rattle.ule_model.specs.LockValue.{has_under}
use Rattle.ule_model.specs.WorldValue.{lock_with}
use Rattle.ule_seq.proofs.world.World.lock_with.Given as goal

abbrev pub invariant-loop-lock : goal.invariant-loop-lock
invariant-loop-lock l = lock_with l.t l.self.values ≡ position_from (λ g. has_under g l.t) l.lock (drop l.lock l.guarded-items)
