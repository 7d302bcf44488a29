-- A whole line of a text at once.
use Rattle.std.proofs.Common.{◌≡◌, ℕ, zero, suc, ◌+◌, ◌<◌, ◌≤◌, ◌==◌, Bool, true, false, cond, List, [], ◌∷◌, ◌++◌, length, take, drop, fold, get_or, refl, sym, ap, ◌∙◌, append_assoc, arith, Some, None}
use Rattle.std.specs.Prelude.{nat_lt}
use Rattle.std.specs.List.{list_any, position, position_or_len}
use Rattle.std.proofs.lemmas.Bool.{or_parts, eqb-true, ltb-false}
use Rattle.std.proofs.lemmas.List.{append-nil, take-append-drop, take_all, drop_more}
use Rattle.std.proofs.lemmas.List.Sums.{fails_before_first}
use Rattle.std.proofs.lemmas.List.Quantifiers.{position-Some}
use Rattle.std.proofs.lemmas.Grind.{fold-append}
use Rattle.ule_scenario.specs.FirstLine.{is_newline, IsCut}
use Rattle.ule_scenario.specs.Scenario.{LinesRead, TextRead, after_byte, after_line}
use Rattle.ule_scenario.specs.WordsKept.{line_kept}
use Rattle.ule_scenario.specs.TextKept.{lines_shown, ShowsText}
use Rattle.ule_scenario.specs.declared.line.LineSoFar.{LineSoFar}
use Rattle.ule_scenario.specs.declared.text.Lines.{Lines}
use Rattle.ule_scenario.specs.declared.text.Text.{Text}

-- none of the first elements passes a test that none of them passes one by one
none_before : (p : ℕ → Bool) (xs : List ℕ) (i : ℕ) → ((k : ℕ) → k < i → p (get_or xs k 0) ≡ false) → i ≤ length xs → list_any p (take i xs) ≡ false
none_before p xs zero before fits = refl
none_before p [] (suc i) before fits = absurd (omega arith)
none_before p (x ∷ xs) (suc i) before fits = rw (before 0 (omega arith), none_before p xs i (λ k below. before (suc k) (omega (arith, below))) (omega (arith, fits))) refl

-- a text is cut at its first newline
pub cut_at_first : (text : List ℕ) (n : ℕ) → position is_newline text ≡ Some n → IsCut text (take n text) (drop 1 (drop n text))
cut_at_first text n found =
    let at = position-Some is_newline text n 0 found in
    let more : drop n text ≡ get_or text n 0 ∷ drop (n + 1) text = drop_more text n 0 at.0 in
    let first : get_or text n 0 ≡ 10 = eqb-true (get_or text n 0) 10 at.1 in
    let behind : drop n text ≡ 10 ∷ drop 1 (drop n text) = by_first (drop n text) (get_or text n 0) (drop (n + 1) text) more first in
    record {
      whole = sym (take-append-drop n text) ∙ ap (λ (l : List ℕ). take n text ++ l) behind;
      plain = none_before is_newline text n at.2 (omega (arith, at.0));
    }
  where
    by_first : (xs : List ℕ) (x : ℕ) (ys : List ℕ) → xs ≡ x ∷ ys → x ≡ 10 → xs ≡ 10 ∷ drop 1 xs
    by_first xs x ys e f = rw (e, f) refl

-- a text that has no first newline
pub cut_nowhere : (text : List ℕ) → position is_newline text ≡ None → list_any is_newline text ≡ false
cut_nowhere text none =
    let past = ltb-false (position_or_len is_newline text) (length text) (cond_none _ _ none) in
    let all : take (length text) text ≡ text = take_all (length text) text (omega arith) in
    ap (list_any is_newline) (sym all) ∙ none_before is_newline text (length text) (λ k below. fails_before_first is_newline text k 0 (omega (arith, past, below))) (omega arith)
  where
    cond_none : (b : Bool) (x : ℕ) → cond b (Some x) None ≡ None → b ≡ false
    cond_none true x e = cc
    cond_none false x e = refl

-- some lines, one more, and what is behind it
pub lines_more : (text done rest line behind : List ℕ) → done ++ rest ≡ text → IsCut rest line behind → (done ++ (line ++ 10 ∷ [])) ++ behind ≡ text
lines_more text done rest line behind whole next =
    append_assoc done (line ++ 10 ∷ []) behind ∙ ap (λ (l : List ℕ). done ++ l) (append_assoc line (10 ∷ []) behind ∙ sym next.whole) ∙ whole

-- bytes that are no newline stand behind those of the line
line_begun : (s : TextRead) (line : List ℕ) → list_any is_newline line ≡ false → fold after_byte s line ≡ record { told = s.told; line = s.line ++ line }
line_begun s [] none = rw (append-nil s.line) refl
line_begun s (b ∷ line) none =
    let parts = or_parts (b == 10) (list_any is_newline line) none in
    let next : TextRead = record { told = s.told; line = s.line ++ b ∷ [] } in
    let one : after_byte s b ≡ next = rw parts.0 refl in
    ap (λ (t : TextRead). fold after_byte t line) one ∙ line_begun next line parts.1
    ∙ ap (λ (l : List ℕ). record { told = s.told; line = l }) (append_assoc s.line (b ∷ []) line)

-- a line and its newline
pub line_whole : (s : TextRead) (line : List ℕ) → list_any is_newline line ≡ false → fold after_byte s (line ++ 10 ∷ []) ≡ record { told = after_line s.told (s.line ++ line); line = [] }
line_whole s line none =
    fold-append after_byte s line (10 ∷ []) ∙ ap (λ (t : TextRead). fold after_byte t (10 ∷ [])) (line_begun s line none)

-- a line without a byte
no_byte : (line : List ℕ) → nat_lt 0 (length line) ≡ false → line ≡ []
no_byte [] none = refl
no_byte (b ∷ line) none = absurd (omega (arith, ltb-false 0 (length (b ∷ line)) none))

-- a text with a whole line behind one that hasn't begun, by what the lines show with it
pub lone_shown : (t : Text) (s : TextRead) (lines : Lines) (line : List ℕ) → t.line.any ≡ false → list_any is_newline line ≡ false → ShowsText t s →
    lines_shown lines ≡ after_line (lines_shown t.lines) line → ShowsText (record { lines = lines; line = t.line }) (fold after_byte s (line ++ 10 ∷ []))
lone_shown t s lines line begun none shows more =
    let any : t.line.any ≡ nat_lt 0 (length s.line) = ap (λ (l : LineSoFar). l.any) shows.line in
    let empty : s.line ≡ [] = no_byte s.line (sym any ∙ begun) in
    rw (line_whole s line none) (record {
      told = more ∙ ap (λ (x : LinesRead). after_line x line) shows.told ∙ ap (λ (l : List ℕ). after_line s.told (l ++ line)) (sym empty);
      line = shows.line ∙ ap line_kept empty;
    })
