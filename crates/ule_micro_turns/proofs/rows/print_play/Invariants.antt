use Rattle.std.proofs.Common.{◌≡◌, length}
use Rattle.ule_micro_turns.proofs.rows.print_play.Given as goal

-- all workers are there
abbrev pub invariant-loop-worker : goal.invariant-loop-worker
invariant-loop-worker g l = length l.micro.state.seats ≡ length l.initial.micro.state.seats
