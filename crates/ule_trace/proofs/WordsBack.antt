-- Written lines and words are parted again where they were joined.
use Rattle.std.proofs.Common.{◌≡◌, ℕ, true, List, [], ◌∷◌, ◌++◌, length, refl, sym, ap, ◌∙◌}
use Rattle.std.specs.Prelude.{Bool, ◌==◌, not, nat_lt}
use Rattle.std.specs.List.{list_all, onto_first}
use Rattle.std.proofs.lemmas.Bool.{and_from, and_parts, eq-eqb}
use Rattle.std.proofs.lemmas.List.{append-nil}
use Rattle.std.proofs.lemmas.List.Folds.{list_all-append}
use Rattle.std.proofs.lemmas.List.Splits.{slice_split-cons_yes, slice_split-cons_no}
use Rattle.ule_text.specs.Words.{Word}
use Rattle.ule_text.proofs.Printed.{all_lack, is_inner, is_word, lacks}
use Rattle.ule_trace.specs.Line.{joined, spaced}
use Rattle.ule_trace.specs.Parts.{parts_at}

-- a test that is denied fails
denied : (b : Bool) → not b ≡ true → b ≡ Bool.false
denied Bool.true is = sym is
denied Bool.false is = refl

-- the first part is what stands before the first separator
pub front_part : (separator : ℕ) (part text : List ℕ) → lacks separator part ≡ true → parts_at separator (part ++ separator ∷ text) ≡ part ∷ parts_at separator text
front_part separator [] text without = slice_split-cons_yes (λ (b : ℕ). b == separator) separator text (eq-eqb separator separator refl)
front_part separator (b ∷ part) text without =
    let both = and_parts (not (b == separator)) (lacks separator part) without in
    slice_split-cons_no (λ (x : ℕ). x == separator) b (part ++ separator ∷ text) (denied (b == separator) both.0)
    ∙ ap (onto_first b) (front_part separator part text both.1)

-- a text without a separator is one part
pub lone_part : (separator : ℕ) (part : List ℕ) → lacks separator part ≡ true → parts_at separator part ≡ part ∷ []
lone_part separator [] without = refl
lone_part separator (b ∷ part) without =
    let both = and_parts (not (b == separator)) (lacks separator part) without in
    slice_split-cons_no (λ (x : ℕ). x == separator) b part (denied (b == separator) both.0) ∙ ap (onto_first b) (lone_part separator part both.1)

-- ---- words

-- a word has no space and no newline
word_lacks : (c : ℕ) (w : Word) → is_inner c ≡ Bool.false → is_word w ≡ true → lacks c w ≡ true
word_lacks c w outer is = all_lack is_inner c w outer (and_parts (nat_lt 0 (length w)) (list_all is_inner w) is).1

-- the words of a written line
pub words_parted : (w : Word) (ws : List Word) → list_all is_word (w ∷ ws) ≡ true → parts_at 32 (joined (w ∷ ws)) ≡ w ∷ ws
words_parted w [] all =
    let both = and_parts (is_word w) (list_all is_word []) all in
    ap (parts_at 32) (append-nil w) ∙ lone_part 32 w (word_lacks 32 w refl both.0)
words_parted w (v ∷ ws) all =
    let both = and_parts (is_word w) (list_all is_word (v ∷ ws)) all in
    front_part 32 w (joined (v ∷ ws)) (word_lacks 32 w refl both.0) ∙ ap (λ (vs : List Word). w ∷ vs) (words_parted v ws both.1)

-- it has no newline
spaced_unbroken : (ws : List Word) → list_all is_word ws ≡ true → lacks 10 (spaced ws) ≡ true
spaced_unbroken [] all = refl
spaced_unbroken (w ∷ ws) all =
    let both = and_parts (is_word w) (list_all is_word ws) all in
    list_all-append (λ (b : ℕ). not (b == 10)) w (spaced ws) ∙ and_from (lacks 10 w) (lacks 10 (spaced ws)) (word_lacks 10 w refl both.0) (spaced_unbroken ws both.1)

pub line_unbroken : (ws : List Word) → list_all is_word ws ≡ true → lacks 10 (joined ws) ≡ true
line_unbroken [] all = refl
line_unbroken (w ∷ ws) all =
    let both = and_parts (is_word w) (list_all is_word ws) all in
    list_all-append (λ (b : ℕ). not (b == 10)) w (spaced ws) ∙ and_from (lacks 10 w) (lacks 10 (spaced ws)) (word_lacks 10 w refl both.0) (spaced_unbroken ws both.1)
