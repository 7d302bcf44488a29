use Rattle.std.proofs.Common.{◌≡◌, ◌≤◌, ◌+◌, ◌-◌}
use Rattle.ule_words_rows.specs.Shifting.{CanShift}
use Rattle.ule_words_rows.proofs.shift.shift_often.Given as goal

abbrev pub invariant-loop-done : goal.invariant-loop-done
invariant-loop-done g l = (l.done ≤ l.times) × (l.times ≡ l.fn.times) × (l.p.table ≡ l.fn.p.table) × (l.p.worker.number ≡ l.fn.p.worker.number) × CanShift l.p × (l.p.worker.allowance + l.done ≡ l.fn.p.worker.allowance)

abbrev pub decreases-loop-done : goal.decreases-loop-done
decreases-loop-done g l = l.times - l.done
