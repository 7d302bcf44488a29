-- The declared threads so far are laid, those that are on the CPU.
use Rattle.std.proofs.Common.{◌≡◌}
use Rattle.ule_laws.proofs.OpeningLaws.{queue_so_far}
use Rattle.ule_seq.proofs.opening.opening_queue.Given as goal

abbrev pub invariant-loop-spec : goal.invariant-loop-spec
invariant-loop-spec l = l.tdq ≡ queue_so_far l.s l.c l.spec-index
