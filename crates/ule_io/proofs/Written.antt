-- How writes compose: what is told goes on telling, and pieces written one after another are one text.
use Rattle.std.proofs.Common.{◌≡◌, ℕ, ◌+◌, ◌<◌, List, [], ◌++◌, length, get_or, take, Option, Some, None, Result, Ok, Err, refl, sym, ap, ◌∙◌, append_assoc, arith}
use Rattle.std.proofs.lemmas.List.{append-nil, nil_from_length, take_more, take-append-drop}
use Rattle.ule_io.specs.Sink.{SinkState, with_back, Appends, AppendsFront, WroteWhole}
use Rattle.ule_io.specs.declared.writing.WriteFault.{WriteFault}

-- the empty piece changes nothing
pub with_back-nil : (taken : Option (List ℕ)) → with_back taken [] ≡ taken
with_back-nil None = refl
with_back-nil (Some bytes) = ap (λ xs. Some xs) (append-nil bytes)

-- one piece and then another are one piece
pub with_back-append : (taken : Option (List ℕ)) (a b : List ℕ) → with_back (with_back taken a) b ≡ with_back taken (a ++ b)
with_back-append None a b = refl
with_back-append (Some bytes) a b = ap (λ xs. Some xs) (append_assoc bytes a b)

-- what is written whole is written to its front
pub AppendsFront-whole : (old new : Option (List ℕ)) (text : List ℕ) → Appends old new text → AppendsFront old new text
unfolding AppendsFront
AppendsFront-whole old new text e = (text, [], sym (append-nil text), e)

-- a front of a text is a front of a longer text
pub AppendsFront-longer : (old new : Option (List ℕ)) (text more : List ℕ) → AppendsFront old new text → AppendsFront old new (text ++ more)
unfolding AppendsFront
AppendsFront-longer old new text more f = (f.0, f.1 ++ more, ap (λ xs. xs ++ more) f.2 ∙ append_assoc f.0 f.1 more, f.3)

-- a whole text and then a front of another are a front of both
pub AppendsFront-after : (old mid new : Option (List ℕ)) (text more : List ℕ) → Appends old mid text → AppendsFront mid new more → AppendsFront old new (text ++ more)
unfolding AppendsFront
AppendsFront-after old mid new text more e f = (
  text ++ f.0,
  f.1,
  ap (λ xs. text ++ xs) f.2 ∙ sym (append_assoc text f.0 f.1),
  f.3 ∙ (ap (λ known. with_back known f.0) e ∙ with_back-append old text f.0),
)

-- for `grind`, where texts are written one after another
pub ruleset writes = (append_assoc, append-nil, nil_from_length, with_back-nil, with_back-append, AppendsFront-whole, AppendsFront-longer, AppendsFront-after)

-- a text and then another are one text
pub wrote_both : (old mid new : SinkState) (a b : List ℕ) (result : Result Unit WriteFault) → WroteWhole old mid a (Ok tt) → WroteWhole mid new b result → WroteWhole old new (a ++ b) result
wrote_both old mid new a b result first second = grind (arith, writes)

-- a fault in a text leaves what was to follow it unwritten
pub wrote_front : (old new : SinkState) (a b : List ℕ) (fault : WriteFault) → WroteWhole old new a (Err fault) → WroteWhole old new (a ++ b) (Err fault)
wrote_front old new a b fault first = grind (arith, writes)
