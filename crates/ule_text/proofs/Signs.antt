-- One more byte of a word: its sign, and what stands behind that.
use Rattle.std.proofs.Common.{◌≡◌, ◌≢◌, ℕ, Bool, true, false, List, [], ◌∷◌, ◌++◌, length, refl}
use Rattle.std.specs.Prelude.{◌==◌, if◌then◌else◌}
use Rattle.std.proofs.lemmas.Bool.{ne_eqb}
use Rattle.ule_text.specs.Numerals.{is_negative, unsigned}

-- a word that doesn't become a lone minus stays as signed as it is
pub sign_stays : (word : List ℕ) (b : ℕ) → (length word ≡ 0 → b ≢ 45) → is_negative (word ++ b ∷ []) ≡ is_negative word
sign_stays [] b other = ne_eqb b 45 (other refl)
sign_stays (x ∷ word) b other = refl

-- a byte behind a word, with its first byte or without
by_sign : (t : Bool) (x : ℕ) (word : List ℕ) (b : ℕ) → (if t then word ++ b ∷ [] else x ∷ (word ++ b ∷ [])) ≡ (if t then word else x ∷ word) ++ b ∷ []
by_sign true x word b = refl
by_sign false x word b = refl

-- a word that doesn't become a lone minus has the byte behind its minus, if it has one
pub unsigned_grows : (word : List ℕ) (b : ℕ) → (length word ≡ 0 → b ≢ 45) → unsigned (word ++ b ∷ []) ≡ unsigned word ++ b ∷ []
unsigned_grows [] b other = rw (ne_eqb b 45 (other refl)) refl
unsigned_grows (x ∷ word) b other = by_sign (x == 45) x word b
