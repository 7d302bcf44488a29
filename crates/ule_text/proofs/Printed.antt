-- Words that can be told apart again: printed bytes alone, and no space.
use Rattle.std.proofs.Common.{◌≡◌, ◌≢◌, ℕ, Bool, true, false, List, [], ◌∷◌, length, get_or, refl, sym, ap, ◌∙◌, arith}
use Rattle.std.specs.Prelude.{◌&&◌, ◌==◌, not, nat_lt, nat_le, bytes_eq}
use Rattle.std.specs.List.{list_all}
use Rattle.std.proofs.lemmas.Bool.{and_parts, lt-ltb, ne_eqb, false≢true}
use Rattle.ule_text.specs.Words.{Word}

-- a printed byte that is no space
abbrev pub is_inner : ℕ → Bool
is_inner b = nat_le 33 b && nat_le b 126

-- a word of a written line has a byte, and printed ones alone that are no space
abbrev pub is_word : Word → Bool
is_word w = nat_lt 0 (length w) && list_all is_inner w

-- printed bytes behind a first one are a word
pub word_from : (b : ℕ) (w : Word) → is_inner b ≡ true → list_all is_inner w ≡ true → is_word (b ∷ w) ≡ true
word_from b w first rest = rw (lt-ltb 0 (length (b ∷ w)) (omega arith), first, rest) refl

-- whether a byte isn't among some
abbrev pub lacks : ℕ → List ℕ → Bool
lacks c bytes = list_all (λ b. not (b == c)) bytes

-- a byte that fails a test isn't among bytes that pass it
pub all_lack : (p : ℕ → Bool) (c : ℕ) (bytes : List ℕ) → p c ≡ false → list_all p bytes ≡ true → lacks c bytes ≡ true
all_lack p c [] fails all = refl
all_lack p c (b ∷ bytes) fails all =
    let parts = and_parts (p b) (list_all p bytes) all in
    rw (ne_eqb b c (λ e. false≢true (sym fails ∙ ap p (sym e) ∙ parts.0))) (all_lack p c bytes fails parts.1)

-- a word with another first byte is another word
pub first_differs : (d : ℕ) (w v : Word) → get_or w 0 0 ≢ d → bytes_eq w (d ∷ v) ≡ false
first_differs d [] v other = refl
first_differs d (b ∷ w) v other = rw (ne_eqb b d other) refl
