-- How sections of a text go out one after another.
use Rattle.std.proofs.Common.{◌≡◌, ℕ, ◌+◌, ◌<◌, ◌≤◌, List, [], ◌++◌, length, get_or, drop, map, Result, Ok, Err, refl, sym, ap, ◌∙◌, subst, append_assoc}
use Rattle.std.proofs.lemmas.List.{append-nil, drop_more, drop_all}
use Rattle.ule_io.proofs.Written.{wrote_both, wrote_front}
use Rattle.ule_io.specs.Sink.{SinkState, WroteWhole}
use Rattle.ule_io.specs.declared.writing.WriteFault.{WriteFault}
use Rattle.ule_trace.proofs.Progress.{Holds, wrote_nothing, spelled, made_room}
use Rattle.ule_trace.specs.Held.{Moves}
use Rattle.ule_trace.specs.Line.{line_text, lines_text}
use Rattle.ule_plain.specs.Sent.{HasSent}

-- nothing of a text went out
pub unsent : (s : SinkState) (held rest : List ℕ) → Holds s s held rest (held ++ rest)
unsent s held rest = record { moved = []; written = wrote_nothing s; parts = refl }

-- no more of a text is left
pub all_sent : {old new : SinkState} {held rest text : List ℕ} → Holds old new held rest text → rest ≡ [] → Moves old new text held (Ok tt)
all_sent {old} {new} {held} {rest} {text} h none = record {
  moved = h.moved;
  parts = h.parts ∙ (ap (λ xs. h.moved ++ (held ++ xs)) none ∙ ap (λ xs. h.moved ++ xs) (append-nil held));
  written = h.written;
}

-- the next section went out
pub section_sent : {old mid new : SinkState} {held left rest text : List ℕ} (part more : List ℕ) → Holds old mid held rest text → rest ≡ part ++ more → Moves mid new (held ++ part) left (Ok tt) → Holds old new left more text
section_sent {old} {mid} {new} {held} {left} {rest} {text} part more h e m = record {
  moved = h.moved ++ m.moved;
  written = wrote_both old mid new h.moved m.moved (Ok tt) h.written m.written;
  parts = h.parts ∙ (ap (λ xs. h.moved ++ (held ++ xs)) e ∙ ap (λ xs. h.moved ++ xs) (sym (append_assoc held part more))
      ∙ ap (λ xs. h.moved ++ (xs ++ more)) m.parts ∙ simp append_assoc);
}

-- the sink failed in the next section
pub section_failed : {old mid new : SinkState} {held rest text : List ℕ} {fault : WriteFault} (part more : List ℕ) → Holds old mid held rest text → rest ≡ part ++ more → WroteWhole mid new (held ++ part) (Err fault) → WroteWhole old new text (Err fault)
section_failed {old} {mid} {new} {held} {rest} {text} {fault} part more h e w =
    let both = wrote_both old mid new h.moved (held ++ part) (Err fault) h.written w in
    let all = wrote_front old new (h.moved ++ (held ++ part)) more fault both in
    let is : text ≡ (h.moved ++ (held ++ part)) ++ more = h.parts ∙ (ap (λ xs. h.moved ++ (held ++ xs)) e ∙ simp append_assoc) in
    subst (λ xs. WroteWhole old new xs (Err fault)) (sym is) all

-- the last section of a text went out, or the sink failed in it
pub last_sent : (old mid new : SinkState) (held left first all rest : List ℕ) (result : Result Unit WriteFault) → Holds old mid held rest (first ++ all) → HasSent mid new held rest left result → HasSent old new first all left result
last_sent old mid new held left first all rest (Ok u) h s = all_sent (section_sent rest [] h (sym (append-nil rest)) s) refl
last_sent old mid new held left first all rest (Err e) h s = section_failed rest [] h (sym (append-nil rest)) s

-- ---- lines one after another

module _ {X : Type 0} (words : X → List (List ℕ)) (xs : List X) (k : ℕ) where
  -- the next line was spelled
  pub line_spelled : {old mid new : SinkState} {held left text : List ℕ} (x : X) → k < length xs → x ≡ get_or xs k x →
      Holds old mid held (lines_text (map words (drop k xs))) text → Moves mid new held left (Ok tt) →
      Holds old new (left ++ line_text (words x)) (lines_text (map words (drop (k + 1) xs))) text
  line_spelled x within is h m = spelled (line_text (words x)) (lines_text (map words (drop (k + 1) xs))) (made_room h m) (rw (drop_more xs k x within, ← is) refl)

  -- all lines were spelled
  pub lines_spelled : {old new : SinkState} {held text : List ℕ} → length xs ≤ k → Holds old new held (lines_text (map words (drop k xs))) text → Moves old new text held (Ok tt)
  lines_spelled past h = all_sent h (rw (drop_all k xs past) refl)
