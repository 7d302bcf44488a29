-- When a pass may shift the thread.
use Rattle.std.specs.Prelude.{◌≡◌, ℕ, ◌≤◌, Bool, false, List, [], length, Some, None, slice_get}
use Rattle.atomic_table.specs.Seated.{TableId}
use Rattle.ule_micro_rows.specs.declared.shift.Move.{Move}
use Rattle.ule_micro_rows.specs.declared.shift.Mover.{Mover}
use Rattle.ule_micro_rows.specs.declared.shift.Place.{Place}
use Rattle.ule_words.specs.Passes.{PassState}

-- can shift: a pass that has its own part, an empty hand, no lock and no change pending
pub record CanShift (p : PassState Mover Bool Bool Move Place) : Type 0 where
  pub number : p.own.number ≡ p.worker.number
  pub hand : p.worker.hand ≡ false
  pub held : p.worker.held ≡ []
  pub calm : p.worker.pending ≡ None

-- can shift often: the passes of both workers on this table, in rising number, each of which may shift the thread, and has an allowance for 500 times
pub record CanShiftOften (z : TableId) (passes : List (PassState Mover Bool Bool Move Place)) : Type 0 where
  pub count : length passes ≡ 2
  pub each : (w : ℕ) (p : PassState Mover Bool Bool Move Place) → slice_get passes w ≡ Some p → (p.table ≡ z) × (p.worker.number ≡ w) × CanShift p × (500 ≤ p.worker.allowance)
