-- The bytes of a written line are cut back into its words.
use Rattle.std.proofs.Common.{◌≡◌, ℕ, Bool, true, false, List, [], ◌∷◌, ◌++◌, length, fold, refl, sym, ap, ◌∙◌, append_assoc, arith}
use Rattle.std.specs.Prelude.{◌&&◌, nat_lt, nat_le}
use Rattle.std.specs.List.{list_all, list_any}
use Rattle.std.proofs.lemmas.Bool.{and_from, and_parts, leb-true, le-leb, ne_eqb, false≢true}
use Rattle.std.proofs.lemmas.Bool.Decides.{nat_tests}
use Rattle.std.proofs.lemmas.Grind.{fold-append}
use Rattle.std.proofs.lemmas.List.{append-nil}
use Rattle.std.proofs.lemmas.List.Folds.{list_all-append}
use Rattle.ule_scenario.specs.FirstLine.{is_newline}
use Rattle.ule_text.specs.Words.{Word, Cut, cut_at, no_cut, word_ended, with_word, words_of, is_unprinted}
use Rattle.ule_text.proofs.Printed.{is_inner, is_word}
use Rattle.ule_trace.specs.Line.{spaced, joined}

-- a printed byte
abbrev is_printed : ℕ → Bool
is_printed b = nat_le 32 b && nat_le b 126

-- ---- words

-- the bytes of a word stand behind those before it
word_begun : (words : List Word) (word w : Word) → list_all is_inner w ≡ true → fold cut_at (record { words = words; word = word }) w ≡ record { words = words; word = word ++ w }
word_begun words word [] inner = ap (λ (l : Word). record { words = words; word = l }) (sym (append-nil word))
word_begun words word (b ∷ w) inner =
    let parts = and_parts (is_inner b) (list_all is_inner w) inner in
    let low = leb-true 33 b (and_parts (nat_le 33 b) (nat_le b 126) parts.0).0 in
    let one : cut_at (record { words = words; word = word }) b ≡ record { words = words; word = word ++ b ∷ [] } = rw (ne_eqb b 32 (λ e. omega (arith, low, e))) refl in
    ap (λ (c : Cut). fold cut_at c w) one ∙ word_begun words (word ++ b ∷ []) w parts.1
    ∙ ap (λ (l : Word). record { words = words; word = l }) (append_assoc word (b ∷ []) w)

-- a word with a byte is put behind the words
put_behind : (words : List Word) (w : Word) → nat_lt 0 (length w) ≡ true → with_word words w ≡ words ++ w ∷ []
put_behind words [] some = absurd (false≢true some)
put_behind words (b ∷ w) some = refl

-- the words behind a first one
words_behind : (words : List Word) (word : Word) (ws : List Word) → list_all is_word ws ≡ true →
    (word_ended (fold cut_at (record { words = words; word = word }) (spaced ws))).words ≡ with_word words word ++ ws
words_behind words word [] all = sym (append-nil (with_word words word))
words_behind words word (w ∷ ws) all =
    let parts = and_parts (is_word w) (list_all is_word ws) all in
    let own = and_parts (nat_lt 0 (length w)) (list_all is_inner w) parts.0 in
    let next : Cut = record { words = with_word words word; word = [] } in
    ap (λ (c : Cut). (word_ended c).words) (fold-append cut_at next w (spaced ws)
    ∙ ap (λ (c : Cut). fold cut_at c (spaced ws)) (word_begun (with_word words word) [] w own.1))
    ∙ words_behind (with_word words word) w ws parts.1
    ∙ ap (λ (l : List Word). l ++ ws) (put_behind (with_word words word) w own.0)
    ∙ append_assoc (with_word words word) (w ∷ []) ws

-- the words of a written line
pub words_back : (ws : List Word) → list_all is_word ws ≡ true → words_of (joined ws) ≡ ws
words_back [] all = refl
words_back (w ∷ ws) all =
    let parts = and_parts (is_word w) (list_all is_word ws) all in
    let own = and_parts (nat_lt 0 (length w)) (list_all is_inner w) parts.0 in
    ap (λ (c : Cut). (word_ended c).words) (fold-append cut_at no_cut w (spaced ws)
    ∙ ap (λ (c : Cut). fold cut_at c (spaced ws)) (word_begun [] [] w own.1))
    ∙ words_behind [] w ws parts.1
    ∙ ap (λ (l : List Word). l ++ ws) (put_behind [] w own.0)

-- ---- bytes

-- the bytes of a word are printed
word_printed : (w : Word) → list_all is_inner w ≡ true → list_all is_printed w ≡ true
word_printed [] inner = refl
word_printed (b ∷ w) inner =
    let parts = and_parts (is_inner b) (list_all is_inner w) inner in
    let range = and_parts (nat_le 33 b) (nat_le b 126) parts.0 in
    and_from (is_printed b) (list_all is_printed w)
    (and_from (nat_le 32 b) (nat_le b 126) (le-leb 32 b (omega (arith, leb-true 33 b range.0))) range.1) (word_printed w parts.1)

-- the bytes of words behind spaces
spaced_printed : (ws : List Word) → list_all is_word ws ≡ true → list_all is_printed (spaced ws) ≡ true
spaced_printed [] all = refl
spaced_printed (w ∷ ws) all =
    let parts = and_parts (is_word w) (list_all is_word ws) all in
    let own = and_parts (nat_lt 0 (length w)) (list_all is_inner w) parts.0 in
    list_all-append is_printed w (spaced ws) ∙ and_from (list_all is_printed w) (list_all is_printed (spaced ws)) (word_printed w own.1) (spaced_printed ws parts.1)

-- the bytes of a written line
joined_printed : (ws : List Word) → list_all is_word ws ≡ true → list_all is_printed (joined ws) ≡ true
joined_printed [] all = refl
joined_printed (w ∷ ws) all =
    let parts = and_parts (is_word w) (list_all is_word ws) all in
    let own = and_parts (nat_lt 0 (length w)) (list_all is_inner w) parts.0 in
    list_all-append is_printed w (spaced ws) ∙ and_from (list_all is_printed w) (list_all is_printed (spaced ws)) (word_printed w own.1) (spaced_printed ws parts.1)

-- of printed bytes none is unprinted, and none is a newline
none_unprinted : (bytes : List ℕ) → list_all is_printed bytes ≡ true → list_any is_unprinted bytes ≡ false
none_unprinted [] all = refl
none_unprinted (b ∷ bytes) all =
    let parts = and_parts (is_printed b) (list_all is_printed bytes) all in
    let range = and_parts (nat_le 32 b) (nat_le b 126) parts.0 in
    let low = leb-true 32 b range.0 in
    let high = leb-true b 126 range.1 in
    let below : nat_lt b 32 ≡ false = grind (arith, nat_tests) in
    let above : nat_lt 126 b ≡ false = grind (arith, nat_tests) in
    rw (below, above, none_unprinted bytes parts.1) refl

none_newline : (bytes : List ℕ) → list_all is_printed bytes ≡ true → list_any is_newline bytes ≡ false
none_newline [] all = refl
none_newline (b ∷ bytes) all =
    let parts = and_parts (is_printed b) (list_all is_printed bytes) all in
    let low = leb-true 32 b (and_parts (nat_le 32 b) (nat_le b 126) parts.0).0 in
    rw (ne_eqb b 10 (λ e. omega (arith, low, e)), none_newline bytes parts.1) refl

-- a written line has no byte that isn't printed
pub line_unprinted : (ws : List Word) → list_all is_word ws ≡ true → list_any is_unprinted (joined ws) ≡ false
line_unprinted ws all = none_unprinted (joined ws) (joined_printed ws all)

-- and no newline
pub line_unbroken : (ws : List Word) → list_all is_word ws ≡ true → list_any is_newline (joined ws) ≡ false
line_unbroken ws all = none_newline (joined ws) (joined_printed ws all)
