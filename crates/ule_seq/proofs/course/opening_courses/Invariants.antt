-- The courses made so far are those of the first workers, each at its first step.
use Rattle.std.proofs.Common.{◌≡◌, ℕ, length, slice_get, Some}
use Rattle.ule_seq.specs.Playing.{IsOpening}
use Rattle.ule_seq.specs.declared.course.Course.{Course}
use Rattle.ule_seq.proofs.course.opening_courses.Given as goal

abbrev pub invariant-loop-worker : goal.invariant-loop-worker
invariant-loop-worker l = record {
  count : length l.courses.items ≡ l.worker;
  each : (worker : ℕ) (c : Course) → slice_get l.courses.items worker ≡ Some c → IsOpening l.s worker c;
}
