use Rattle.std.proofs.Common.{◌≡◌, ◌≤◌, ◌-◌, ℕ}
use Rattle.std.specs.Slots.{slots_items}
use Rattle.ule_micro.specs.declared.word.Word.{Word}
use Rattle.ule_words.specs.Ends.{AreThreadsWords, words_noted}
use Rattle.ule_words.proofs.close.note_words.Given as goal

abbrev pub invariant-loop-t : goal.invariant-loop-t
invariant-loop-t g l = (l.t ≤ 256) × ((words : ℕ → Word) → AreThreadsWords (slots_items l.fn.closed.words) words → l.out ≡ words_noted (g.P.Parts.notes l.fn.parts) l.t words l.fn.out)

abbrev pub decreases-loop-t : goal.decreases-loop-t
decreases-loop-t g l = 256 - l.t
