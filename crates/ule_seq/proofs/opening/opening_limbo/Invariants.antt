-- The unborn threads so far are in limbo.
use Rattle.std.proofs.Common.{◌≡◌}
use Rattle.ule_laws.proofs.OpeningLaws.{limbo_so_far}
use Rattle.ule_seq.proofs.opening.opening_limbo.Given as goal

abbrev pub invariant-loop-t : goal.invariant-loop-t
invariant-loop-t l = l.limbo ≡ limbo_so_far l.s l.t-index
