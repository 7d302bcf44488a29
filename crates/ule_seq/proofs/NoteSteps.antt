-- The lines under a lock, one thread after another, and a word in a line.
use Rattle.std.proofs.Common.{◌≡◌, ℕ, suc, ◌+◌, List, Option, Some, None, refl, sym, ap, ◌∙◌, arith}
use Rattle.std.specs.Prelude.{find, ◌==◌}
use Rattle.ule_types.specs.Outcome.{OutcomeValue, placed}
use Rattle.ule_types.specs.declared.outcome.ThreadLine.{ThreadLine}
use Rattle.ule_model.specs.LockValue.{LockValue, line_under}
use Rattle.ule_seq.specs.Notes.{with_line, with_lines_under, with_word, with_word_in}

-- no thread is before the first
pub none_before : (v : LockValue) (lines : List ThreadLine) → with_lines_under v 0 lines ≡ lines
unfolding with_lines_under
none_before v lines = refl

next : (v : LockValue) (t : ℕ) (lines : List ThreadLine) → with_lines_under v (suc t) lines ≡ with_line (line_under v t) (with_lines_under v t lines)
unfolding with_lines_under
next v t lines = refl

one_more : (v : LockValue) (t : ℕ) (lines : List ThreadLine) → with_lines_under v (t + 1) lines ≡ with_line (line_under v t) (with_lines_under v t lines)
one_more v t lines = ap (λ n. with_lines_under v n lines) (let z : t + 1 ≡ suc t = omega arith in z) ∙ next v t lines

-- a thread that is under the lock, and one that isn't
pub line_more : (v : LockValue) (t : ℕ) (lines : List ThreadLine) (line : ThreadLine) → line_under v t ≡ Some line → with_lines_under v (t + 1) lines ≡ placed line (with_lines_under v t lines)
line_more v t lines line is = one_more v t lines ∙ ap (λ o. with_line o (with_lines_under v t lines)) is

pub no_line_more : (v : LockValue) (t : ℕ) (lines : List ThreadLine) → line_under v t ≡ None → with_lines_under v (t + 1) lines ≡ with_lines_under v t lines
no_line_more v t lines is = one_more v t lines ∙ ap (λ o. with_line o (with_lines_under v t lines)) is

-- the word of a thread that has a line
pub word_set : (o : OutcomeValue) (t : ℕ) (word : Option ℕ) (line : ThreadLine) → find (λ (m : ThreadLine). m.id == t) o.threads ≡ Some line
    → with_word o t word ≡ record o { threads = placed (record line { word = word }) o.threads }
word_set o t word line is = ap (λ found. record o { threads = with_line (with_word_in word found) o.threads }) is
