-- Which lock each thread's word names after a change of one word.
use Rattle.std.proofs.Common.{◌≡◌, ℕ, false, List, [], ◌∷◌, ◌++◌, Option, Some, None, refl, sym, ◌∙◌, subst}
use Rattle.std.proofs.lemmas.Bool.{cond-false, cond-true, eq-eqb}
use Rattle.ule_model.specs.Frames.{HaveWords, word_after}
use Rattle.ule_model.specs.Places.{lock_of}
use Rattle.ule_model.specs.Words.{WordChange, block, point}
use Rattle.ule_model.specs.World.{Member, is_numbered}
use Rattle.ule_members.proofs.Within.{Lacks}

-- a change of a word is that of thread t's, if it is any
abbrev pub IsOnWordOf : ℕ → Option WordChange → Type 0
IsOnWordOf t None = Unit {0}
IsOnWordOf t (Some (block u)) = u ≡ t
IsOnWordOf t (Some (point u l)) = u ≡ t

-- the word of a thread that is blocked names no lock
pub word_blocked : (t : ℕ) (m : Member) → m.thread.id ≡ t → word_after (Some (block t)) m ≡ None
word_blocked t m number = cond-true (is_numbered t m) None (lock_of m.place) (eq-eqb m.thread.id t number)

-- the word of a thread that is pointed to a lock names it
pub word_pointed : (t l : ℕ) (m : Member) → m.thread.id ≡ t → word_after (Some (point t l)) m ≡ Some l
word_pointed t l m number = cond-true (is_numbered t m) (Some l) (lock_of m.place) (eq-eqb m.thread.id t number)

-- the word of another thread stays
pub word_of_other : (t : ℕ) (change : Option WordChange) (m : Member) → IsOnWordOf t change → is_numbered t m ≡ false →
    word_after change m ≡ lock_of m.place
word_of_other t None m on other = refl
word_of_other t (Some (block u)) m on other =
    cond-false (is_numbered u m) None (lock_of m.place) (subst (λ (v : ℕ). is_numbered v m ≡ false) (sym on) other)
word_of_other t (Some (point u l)) m on other =
    cond-false (is_numbered u m) (Some l) (lock_of m.place) (subst (λ (v : ℕ). is_numbered v m ≡ false) (sym on) other)

-- threads that stay have their words without a change
pub words_stay : (ms : List Member) → HaveWords None ms ms
words_stay [] = tt
words_stay (m ∷ ms) = (refl, words_stay ms)

-- threads other than the one whose word changes have their words
pub words_of_others : (t : ℕ) (change : Option WordChange) (ms : List Member) → IsOnWordOf t change → Lacks t ms → HaveWords change ms ms
words_of_others t change [] on lacks = tt
words_of_others t change (m ∷ ms) on lacks = (sym (word_of_other t change m on lacks.0), words_of_others t change ms on lacks.1)

-- one thread whose word changes among others that stay
pub words_between : (t : ℕ) (change : Option WordChange) (before : List Member) (m n : Member) (after : List Member) → IsOnWordOf t change →
    Lacks t before → Lacks t after → lock_of n.place ≡ word_after change m → HaveWords change (before ++ m ∷ after) (before ++ n ∷ after)
words_between t change [] m n after on front back word = (word, words_of_others t change after on back)
words_between t change (b ∷ bs) m n after on front back word =
    (sym (word_of_other t change b on front.0), words_between t change bs m n after on front.1 back word)

-- words that stay after a change are the words after it
pub words_further : (change : Option WordChange) (ls ms ns : List Member) → HaveWords change ls ms → HaveWords None ms ns → HaveWords change ls ns
words_further change [] [] ns first second = words_ends change ns second
  where
    words_ends : (c : Option WordChange) (xs : List Member) → HaveWords None [] xs → HaveWords c [] xs
    words_ends c [] h = tt
    words_ends c (x ∷ xs) h = absurd h
words_further change [] (m ∷ ms) ns first second = absurd first
words_further change (l ∷ ls) [] ns first second = absurd first
words_further change (l ∷ ls) (m ∷ ms) [] first second = absurd second
words_further change (l ∷ ls) (m ∷ ms) (n ∷ ns) first second = (second.0 ∙ first.0, words_further change ls ms ns first.1 second.1)
