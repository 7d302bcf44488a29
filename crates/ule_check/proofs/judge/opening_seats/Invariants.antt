-- The seats so far are those of the first workers.
use Rattle.std.proofs.Common.{◌≡◌, ℕ, length, slice_get, Some}
use Rattle.ule_check.specs.Judge.{judge_at_start}
use Rattle.ule_check.specs.JudgeValue.{IsSeat}
use Rattle.ule_check.specs.declared.seat.Seat.{Seat}
use Rattle.ule_check.proofs.judge.opening_seats.Given as goal

abbrev pub invariant-loop-worker : goal.invariant-loop-worker
invariant-loop-worker l = record {
  count : length l.seats.items ≡ l.worker;
  each : (worker : ℕ) (x : Seat) → slice_get l.seats.items worker ≡ Some x → IsSeat l.s (judge_at_start l.s) worker x;
}
