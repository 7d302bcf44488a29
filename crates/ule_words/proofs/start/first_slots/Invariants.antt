use Rattle.std.proofs.Common.{◌≡◌, ◌≤◌, ◌-◌, map, take}
use Rattle.std.specs.Prelude.{Some, vec_len, vec_capacity}
use Rattle.ule_words.proofs.start.first_slots.Given as goal

abbrev pub invariant-loop-l : goal.invariant-loop-l
invariant-loop-l g l = (l.l ≤ 25) × (l.slots.items ≡ map (λ v. Some v) (take l.l (g.P.Parts.means l.fn.parts).values)) × (25 ≤ vec_capacity l.slots) × (vec_len l.slots ≡ l.l)

abbrev pub decreases-loop-l : goal.decreases-loop-l
decreases-loop-l g l = 25 - l.l
