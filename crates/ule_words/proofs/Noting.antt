-- What was told of the end, step by step.
use Rattle.std.proofs.Common.{◌≡◌, ℕ, suc, ◌+◌, List, [], ◌∷◌, ◌++◌, refl, ap, ◌∙◌, arith}
use Rattle.std.specs.Prelude.{Option, Some, None}
use Rattle.ule_micro.specs.declared.word.Word.{Word}
use Rattle.ule_micro.specs.declared.word.Word.TheVariants.{Lock, Blocked}
use Rattle.ule_micro.specs.Notes.{Notes}
use Rattle.ule_micro.specs.Shared.{Stamped, unstamped}
use Rattle.ule_words.specs.Ends.{entries_noted, entry_noted, lock_named, numbered_noted, words_noted}
use Rattle.ule_words.specs.Merge.{in_order}
use Rattle.ule_words.specs.Rule.{thread_word}
use Rattle.ule_words.specs.declared.log.Numbered.{Numbered}

-- the lock that a number in the table names is the one that the word names
pub named_lock : (word : Word) (found : ℕ) (o : Option ℕ) → found ≡ thread_word word → (found ≡ 0 → o ≡ None) → ((l : ℕ) → found ≡ l + 1 → o ≡ Some l) → o ≡ lock_named word
named_lock Blocked found o e blocked named = blocked e
named_lock (Lock l) found o e blocked named = named l e

module _ {X G E R : Type 0} (n : Notes X G E R) where
  -- no word was told
  pub no_words : (words : ℕ → Word) (x : X) → words_noted n 0 words x ≡ x
  unfolding words_noted
  no_words words x = refl

  next_word : (t : ℕ) (words : ℕ → Word) (x : X) → words_noted n (suc t) words x ≡ n.word (words_noted n t words x) t (lock_named (words t))
  unfolding words_noted
  next_word t words x = refl

  -- one more word was told
  pub one_more_word : (t : ℕ) (words : ℕ → Word) (x : X) → words_noted n (t + 1) words x ≡ n.word (words_noted n t words x) t (lock_named (words t))
  one_more_word t words x = ap (λ k. words_noted n k words x) (let z : t + 1 ≡ suc t = omega arith in z) ∙ next_word t words x

  last_noted : (es : List (Numbered E R)) (y : Numbered E R) (x : X) → numbered_noted n (es ++ y ∷ []) x ≡ entry_noted n (numbered_noted n es x) y.entry
  last_noted [] y x = refl
  last_noted (e ∷ es) y x = last_noted es y (entry_noted n x e.entry)

  -- a history that was told in rising number was told
  pub history_noted : (h : List (Stamped E R)) (x : X) → numbered_noted n (in_order h) x ≡ entries_noted n (unstamped h) x
  history_noted [] x = refl
  history_noted (s ∷ h) x = last_noted (in_order h) _ x ∙ ap (λ y. entry_noted n y s.entry) (history_noted h x)
