use Rattle.std.proofs.Common.{◌≡◌, ◌≤◌, ◌-◌, ◌+◌, ℕ, List, length}
use Rattle.ule_words.specs.Ends.{numbered_noted}
use Rattle.ule_words.specs.Merge.{IsDealt}
use Rattle.ule_words.proofs.merge.note_entries.Given as goal

-- what is left to tell is dealt on the tapes, and telling it leads to the same end
abbrev pub invariant-loop-number : goal.invariant-loop-number
invariant-loop-number g l = let n : ℕ = length (g.P.Parts.means l.fn.parts).owns in (l.number ≤ l.fn.count) × (l.fn.count ≤ (g.P.Parts.notes l.fn.parts).room l.out + l.number)
    × ((es : List _) → IsDealt n 0 es l.fn.tapes.items → length es ≡ l.fn.count
    → (left : List _) × IsDealt n l.number left l.tapes.items × (length left + l.number ≡ l.fn.count) × (numbered_noted (g.P.Parts.notes l.fn.parts) left l.out ≡ numbered_noted (g.P.Parts.notes l.fn.parts) es l.fn.out))

abbrev pub decreases-loop-number : goal.decreases-loop-number
decreases-loop-number g l = l.fn.count - l.number
