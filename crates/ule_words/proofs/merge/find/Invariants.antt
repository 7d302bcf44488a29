use Rattle.std.proofs.Common.{ℕ, ◌≡◌, ◌<◌, ◌-◌, length}
use Rattle.std.specs.Prelude.{Some, slice_get}
use Rattle.ule_words.specs.Merge.{BeginsWith}
use Rattle.ule_words.proofs.merge.find.Given as goal

-- no tape that was looked at begins with the number
abbrev pub invariant-loop-j : goal.invariant-loop-j
invariant-loop-j g l = (i : ℕ) (t : _) → i < l.j → slice_get l.fn.tapes.items i ≡ Some t → BeginsWith l.fn.number t → ⊥

abbrev pub decreases-loop-j : goal.decreases-loop-j
decreases-loop-j g l = length l.fn.tapes.items - l.j
