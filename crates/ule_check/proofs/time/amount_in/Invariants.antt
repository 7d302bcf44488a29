-- The time so far, with that of the commands left, is that of the list.
use Rattle.std.proofs.Common.{◌≡◌, ◌+◌, drop}
use Rattle.ule_model.specs.Legal.{amount_in}
use Rattle.ule_seq.specs.Playing.{script_of}
use Rattle.ule_check.proofs.time.amount_in.Given as goal

abbrev pub invariant-loop-k : goal.invariant-loop-k
invariant-loop-k l = l.amount + amount_in (drop l.k (script_of l.s l.worker)) ≡ amount_in (script_of l.s l.worker)
