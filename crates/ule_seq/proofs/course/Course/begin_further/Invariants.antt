-- The course comes to the same step as before; each command begun leaves fewer.
use Rattle.std.proofs.Common.{◌≡◌, ◌-◌, length}
use Rattle.ule_seq.specs.Playing.{comes_next, script_of}
use Rattle.ule_seq.proofs.course.Course.begin_further.Given as goal

abbrev pub invariant-loop-worker : goal.invariant-loop-worker
invariant-loop-worker l = comes_next l.s l.worker l.initial.self ≡ comes_next l.s l.worker l.self

abbrev pub decreases-loop-worker : goal.decreases-loop-worker
decreases-loop-worker l = length (script_of l.s l.worker) - l.self.next
