-- One more byte of a line.
use Rattle.std.proofs.Common.{◌≡◌, ℕ, Bool, true, false, List, [], ◌∷◌, ◌++◌, length, refl, arith, sym, ◌∙◌}
use Rattle.std.specs.Prelude.{nat_lt, ◌||◌, if◌then◌else◌}
use Rattle.std.specs.List.{list_any}
use Rattle.std.proofs.lemmas.Grind.{fold-append, common_steps}
use Rattle.std.proofs.lemmas.List.Folds.{list_any-append}
use Rattle.ule_text.specs.Words.{Word, cut, cut_at, no_cut, with_word, is_blank, is_unprinted}
use Rattle.ule_scenario.specs.WordsKept.{line_kept, pieces_kept}
use Rattle.std.proofs.lemmas.Bool.{eqb-true, false≢true}

-- a blank word isn't put behind the words
pub with_none : (words : List Word) (word : Word) → is_blank word ≡ true → with_word words word ≡ words
with_none words [] e = refl
with_none words (b ∷ word) e = absurd (omega (arith, eqb-true (length (b ∷ word)) 0 e))

-- a blank word has no byte
pub blank_is : (word : Word) → is_blank word ≡ true → word ≡ []
blank_is [] e = refl
blank_is (b ∷ word) e = absurd (omega (arith, eqb-true (length (b ∷ word)) 0 e))

-- a word with a byte is
pub with_some : (words : List Word) (word : Word) → is_blank word ≡ false → with_word words word ≡ words ++ word ∷ []
with_some words [] e = absurd (false≢true (sym e))
with_some words (b ∷ word) e = refl

-- a test behind another one, and one that may come before it
either : (s t : Bool) → (s || (t || false)) ≡ (if t then true else s)
either true true = refl
either true false = refl
either false true = refl
either false false = refl

-- whether one byte more isn't printed
bad_grows : (bytes : List ℕ) (b : ℕ) → list_any is_unprinted (bytes ++ b ∷ []) ≡ (if is_unprinted b then true else list_any is_unprinted bytes)
bad_grows bytes b = list_any-append is_unprinted bytes (b ∷ []) ∙ either (list_any is_unprinted bytes) (is_unprinted b)

-- a line with one byte more has a byte
any_grows : (bytes : List ℕ) (b : ℕ) → nat_lt 0 (length (bytes ++ b ∷ [])) ≡ true
any_grows bytes b = grind (arith, common_steps)

-- what is kept of a line with one more byte
pub line_grows : (bytes : List ℕ) (b : ℕ) → line_kept (bytes ++ b ∷ []) ≡ record { any = true; bad = if is_unprinted b then true else list_any is_unprinted bytes; pieces = pieces_kept (cut_at (cut bytes) b) }
line_grows bytes b = rw (any_grows bytes b, bad_grows bytes b, fold-append cut_at no_cut bytes (b ∷ [])) refl
