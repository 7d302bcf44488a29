use Rattle.std.proofs.Common.{◌≡◌, ◌<◌, ◌≤◌, ◌-◌, ℕ, List, map, drop, false, get_or, Some}
use Rattle.std.specs.Slots.{slots_items, slots_filled, slots_len}
use Rattle.std.specs.Slots.Ownership.{Filled}
use Rattle.ule_words.specs.Ends.{values_noted}
use Rattle.ule_words.proofs.close.note_values.Given as goal

-- the values of the locks from l on are in their slots, and telling them leads to the same end
abbrev pub invariant-loop-l : goal.invariant-loop-l
invariant-loop-l g l = (l.l ≤ 25) × (g.P.Parts.notes l.fn.parts).ready l.out l.l
    × ((vs : List _) → slots_items l.fn.closed.slots ≡ map (λ v. Some v) vs → values_noted (g.P.Parts.notes l.fn.parts) l.l (drop l.l vs) l.out ≡ values_noted (g.P.Parts.notes l.fn.parts) 0 vs l.fn.out)
    × (slots_items l.closed.slots ≡ slots_items l.fn.closed.slots) × (slots_len l.closed.slots ≡ 25) × (l.closed.words ≡ l.fn.closed.words)
    × Filled (slots_filled l.closed.slots) l.l 25 × ((k : ℕ) → k < l.l → get_or (slots_filled l.closed.slots) k false ≡ false)

abbrev pub decreases-loop-l : goal.decreases-loop-l
decreases-loop-l g l = 25 - l.l
