-- The seat comes to the same event as before, and has no more time; each command begun leaves fewer.
use Rattle.std.proofs.Common.{◌≡◌, ◌-◌, ◌≤◌, length}
use Rattle.ule_seq.specs.Playing.{script_of}
use Rattle.ule_check.specs.Seats.{comes_next, time_ahead}
use Rattle.ule_check.proofs.seat.Seat.begin_further.Given as goal

abbrev pub invariant-loop-worker : goal.invariant-loop-worker
invariant-loop-worker l = record {
  due : comes_next l.s l.worker l.initial.self ≡ comes_next l.s l.worker l.self;
  own : l.self.own ≡ l.initial.self.own;
  less : time_ahead l.s l.worker l.self ≤ time_ahead l.s l.worker l.initial.self;
}

abbrev pub decreases-loop-worker : goal.decreases-loop-worker
decreases-loop-worker l = length (script_of l.s l.worker) - l.self.next
