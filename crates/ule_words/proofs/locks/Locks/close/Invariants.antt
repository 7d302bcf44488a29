use Rattle.std.proofs.Common.{◌≡◌, ◌≤◌}
use Rattle.ule_words.specs.Ends.{AreGathered}
use Rattle.ule_words.proofs.locks.Locks.close.Given as goal

-- one seat knows the workers of the passes that were gathered, and the tapes have their lists
abbrev pub invariant-loop-pass : goal.invariant-loop-pass
invariant-loop-pass g l = (l.seat.table_id ≡ l.initial.table.shared.table_id) × AreGathered l.fn.passes.list.items l.passes.list.items l.seat.me l.rack.items × (255 ≤ l.rack.room)

abbrev pub decreases-loop-pass : goal.decreases-loop-pass
decreases-loop-pass g l = goal.left-loop-pass g l
