use Rattle.std.proofs.Common.{◌≡◌, ℕ, List, [], ◌∷◌, ◌++◌, codes, drop, sym, ap, ◌∙◌, append_assoc}
use Rattle.std.specs.Fmt.{decimal}
use Rattle.std.proofs.lemmas.List.{append-nil}
use Rattle.ule_trace.specs.Line.{spaced, line_text}
use Rattle.ule_trace.specs.PlaceText.{final_place_word}
use Rattle.ule_trace.specs.FinalText.{final_words}
use Rattle.ule_trace.proofs.finals.spell_thread.Goals as goal

-- the parts of the line, one after another
in_turn : (a b c d e f g : List ℕ) → (((((a ++ b) ++ c) ++ d) ++ e) ++ f) ++ g ≡ a ++ (b ++ (c ++ (d ++ (e ++ (f ++ g)))))
in_turn a b c d e f g = simp append_assoc

behind : (id place words end : List ℕ) → (id ++ 32 ∷ (place ++ words)) ++ end ≡ id ++ 32 ∷ (place ++ (words ++ end))
behind id place words end =
    append_assoc id (32 ∷ (place ++ words)) end ∙ ap (λ xs. id ++ 32 ∷ xs) (append_assoc place words end)

parts : (held id place : List ℕ) (words : List (List ℕ)) →
    (((((held ++ 116 ∷ []) ++ spaced (id ∷ [])) ++ 32 ∷ []) ++ place) ++ spaced words) ++ 10 ∷ [] ≡ held ++ line_text (codes "t" ∷ id ∷ place ∷ words)
parts held id place words =
    in_turn held (116 ∷ []) (spaced (id ∷ [])) (32 ∷ []) place (spaced words) (10 ∷ []) ∙
    ap (λ xs. held ++ 116 ∷ 32 ∷ xs)
    (ap (λ xs. xs ++ 32 ∷ (place ++ (spaced words ++ 10 ∷ []))) (append-nil id) ∙ sym (behind id place (spaced words) (10 ∷ [])))

pub returns : goal.returns
returns c =
    let l = c.args.l.now in
    rw (c.byte-3.ensures, c.spell_record.ensures.text, c.spell_final_place.ensures.text, c.byte-2.ensures, c.words.ensures.text, c.thread.ensures, c.byte.ensures) (parts c.args.held.now (decimal l.id) (final_place_word l.place l.pos) (drop 3 (final_words l)))
