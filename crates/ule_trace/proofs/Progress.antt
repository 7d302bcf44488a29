-- How a text goes out: a front of it was written, the next part is held, and the rest is to be spelled.
use Rattle.std.proofs.Common.{◌≡◌, List, [], ◌++◌, ℕ, Result, Ok, Err, refl, sym, ap, ◌∙◌, subst, append_assoc, arith}
use Rattle.std.proofs.lemmas.List.{append-nil}
use Rattle.ule_io.proofs.Written.{writes, wrote_both, wrote_front}
use Rattle.ule_io.specs.Sink.{SinkState, WroteWhole}
use Rattle.ule_io.specs.declared.writing.WriteFault.{WriteFault}
use Rattle.ule_trace.specs.Held.{Moves}

-- an empty text is written by doing nothing
pub wrote_nothing : (s : SinkState) → WroteWhole s s [] (Ok tt)
wrote_nothing s = grind (arith, writes)

-- a front of the text was written, what is held comes next, and the rest follows
pub record Holds (old new : SinkState) (held rest text : List ℕ) : Type 0 where
  pub moved : List ℕ
  pub written : WroteWhole old new moved (Ok tt)
  pub parts : text ≡ moved ++ (held ++ rest)

-- nothing was spelled yet
pub nothing_spelled : (s : SinkState) (text : List ℕ) → Holds s s [] text text
nothing_spelled s text = record { moved = []; written = wrote_nothing s; parts = refl }

-- the next part was spelled
pub spelled : {old new : SinkState} {held rest text : List ℕ} (part left : List ℕ) → Holds old new held rest text → rest ≡ part ++ left → Holds old new (held ++ part) left text
spelled {old} {new} {held} {rest} {text} part left h e = record {
  moved = h.moved;
  written = h.written;
  parts = h.parts ∙ (ap (λ xs. h.moved ++ (held ++ xs)) e ∙ ap (λ xs. h.moved ++ xs) (sym (append_assoc held part left)));
}

-- some of what was held was written
pub made_room : {old mid new : SinkState} {held left rest text : List ℕ} → Holds old mid held rest text → Moves mid new held left (Ok tt) → Holds old new left rest text
made_room {old} {mid} {new} {held} {left} {rest} {text} h m = record {
  moved = h.moved ++ m.moved;
  written = wrote_both old mid new h.moved m.moved (Ok tt) h.written m.written;
  parts = h.parts ∙ (ap (λ xs. h.moved ++ (xs ++ rest)) m.parts ∙ simp append_assoc);
}

-- the sink failed on the way
pub failed : {old mid new : SinkState} {held left rest text : List ℕ} {fault : WriteFault} → Holds old mid held rest text → Moves mid new held left (Err fault) → WroteWhole old new text (Err fault)
failed {old} {mid} {new} {held} {left} {rest} {text} {fault} h m =
    let both = wrote_both old mid new h.moved m.moved (Err fault) h.written m.written in
    let all = wrote_front old new (h.moved ++ m.moved) (left ++ rest) fault both in
    let e : text ≡ (h.moved ++ m.moved) ++ (left ++ rest) =
    h.parts ∙ (ap (λ xs. h.moved ++ (xs ++ rest)) m.parts ∙ simp append_assoc) in
    subst (λ xs. WroteWhole old new xs (Err fault)) (sym e) all

-- all that was held was written, and nothing is left
pub finished : {old mid new : SinkState} {held text : List ℕ} {result : Result Unit WriteFault} → Holds old mid held [] text → WroteWhole mid new held result → WroteWhole old new text result
finished {old} {mid} {new} {held} {text} {result} h last =
    let e : text ≡ h.moved ++ held = h.parts ∙ ap (λ xs. h.moved ++ xs) (append-nil held) in
    subst (λ xs. WroteWhole old new xs result) (sym e) (wrote_both old mid new h.moved held result h.written last)
