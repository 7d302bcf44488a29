-- The pieces in which the line of a verdict is written are the line.
use Rattle.std.proofs.Common.{◌≡◌, ℕ, List, [], ◌∷◌, ◌++◌, codes, Result, Ok, Err, refl, sym, ap, ◌∙◌, subst, append_assoc}
use Rattle.std.specs.Fmt.{decimal}
use Rattle.std.proofs.lemmas.Grind.{flat_map-append}
use Rattle.ule_check.specs.declared.verdicts.Fault.TheVariants as fault
use Rattle.ule_io.proofs.Written.{wrote_both, wrote_front}
use Rattle.ule_io.specs.Sink.{SinkState, WroteWhole}
use Rattle.ule_io.specs.declared.writing.WriteFault.{WriteFault}
use Rattle.ule_top.specs.VerdictLine.{fault_front, fault_text, found_text}
use Rattle.ule_trace.specs.EventText.{event_text, event_words}
use Rattle.ule_trace.specs.Line.{joined, spaced}
use Rattle.ule_trace.specs.ReplyText.{reply_text, reply_words}
use Rattle.ule_types.specs.declared.event.Event.{Event}
use Rattle.ule_types.specs.declared.event.Event.TheVariants.{Tick, Switch, Drop, Bed, Wake, Look, Land, Move, Lend, Unlend, Renice, Hatch, Fork, Return, Exit, Bury, Inherit}
use Rattle.ule_types.specs.declared.event.Reply.{Reply}
use Rattle.ule_types.specs.declared.event.Reply.TheVariants.{Ticked, Unmarked, Nothing, Switched, Dropped, Bedded, NotAsleep, Woken, Seen, Landed}
use Rattle.ule_types.specs.declared.event.Reply.TheVariants.{Moved, NoneMovable, Changed, NotAllowed, Hatched, Forked, Returned, Exited, Buried, ParentGone}

-- words, of which there is one
abbrev HasWord : List (List ℕ) → Type 0
HasWord words = (first : List ℕ) × (rest : List (List ℕ)) × (words ≡ first ∷ rest)

-- words behind a space, each behind one
spaced_joined : (words : List (List ℕ)) → HasWord words → spaced words ≡ 32 ∷ joined words
spaced_joined words has = rw has.2 refl

-- words behind other words
joined_both : (a : List ℕ) (words more : List (List ℕ)) → HasWord more → joined ((a ∷ words) ++ more) ≡ (joined (a ∷ words) ++ 32 ∷ []) ++ joined more
joined_both a words more has =
    ap (λ (t : List ℕ). a ++ t) (flat_map-append (λ w. 32 ∷ w) words more ∙ ap (λ (t : List ℕ). spaced words ++ t) (spaced_joined more has))
    ∙ sym (append_assoc a (spaced words) (32 ∷ joined more)) ∙ sym (append_assoc (a ++ spaced words) (32 ∷ []) (joined more))

joined_more : (words more : List (List ℕ)) → HasWord words → HasWord more → joined (words ++ more) ≡ (joined words ++ 32 ∷ []) ++ joined more
joined_more words more has also = rw has.2 (joined_both has.0 has.1 more also)

-- two texts with a bar between them, behind a front and before a newline, however they are put together
regrouped : (f a b : List ℕ) → f ++ (a ++ ((32 ∷ 124 ∷ 32 ∷ []) ++ (b ++ 10 ∷ []))) ≡ (f ++ ((a ++ 32 ∷ []) ++ (124 ∷ 32 ∷ b))) ++ 10 ∷ []
regrouped f a b = simp append_assoc

-- an event has words
event_said : (e : Event) → HasWord (event_words e)
event_said (Tick c) = (_, _, refl)
event_said (Switch c why) = (_, _, refl)
event_said (Drop c channel) = (_, _, refl)
event_said (Bed t channel) = (_, _, refl)
event_said (Wake t) = (_, _, refl)
event_said (Look c) = (_, _, refl)
event_said (Land t c) = (_, _, refl)
event_said (Move a b why) = (_, _, refl)
event_said (Lend t p) = (_, _, refl)
event_said (Unlend t) = (_, _, refl)
event_said (Renice t n) = (_, _, refl)
event_said (Hatch t) = (_, _, refl)
event_said (Fork c t) = (_, _, refl)
event_said (Return t) = (_, _, refl)
event_said (Exit c) = (_, _, refl)
event_said (Bury t) = (_, _, refl)
event_said (Inherit t run) = (_, _, refl)

-- a reply has words
reply_said : (r : Reply) → HasWord (reply_words r)
reply_said (Ticked current due ended) = (_, _, refl)
reply_said Unmarked = (_, _, refl)
reply_said Nothing = (_, _, refl)
reply_said (Switched out into preempted) = (_, _, refl)
reply_said (Dropped out into) = (_, _, refl)
reply_said Bedded = (_, _, refl)
reply_said (NotAsleep place) = (_, _, refl)
reply_said (Woken p bound last last_run) = (_, _, refl)
reply_said (Seen load movable low) = (_, _, refl)
reply_said (Landed kind bucket preempts) = (_, _, refl)
reply_said (Moved t kind bucket preempts) = (_, _, refl)
reply_said (NoneMovable load movable other) = (_, _, refl)
reply_said (Changed p requeued marked) = (_, _, refl)
reply_said (NotAllowed place) = (_, _, refl)
reply_said Hatched = (_, _, refl)
reply_said (Forked parent p) = (_, _, refl)
reply_said Returned = (_, _, refl)
reply_said (Exited out into parent run) = (_, _, refl)
reply_said Buried = (_, _, refl)
reply_said ParentGone = (_, _, refl)

-- the line of an event that was expected, in its pieces
pub event_line : (k : ℕ) (e : Event) → (joined (fault_front k (codes "event")) ++ 32 ∷ []) ++ (event_text e ++ 10 ∷ []) ≡ fault_text k (fault.Event e)
event_line k e =
    sym (append_assoc (joined (fault_front k (codes "event")) ++ 32 ∷ []) (event_text e) (10 ∷ []))
    ∙ ap (λ (t : List ℕ). t ++ 10 ∷ []) (sym (joined_both (codes "illegal") (decimal k ∷ codes "event" ∷ []) (event_words e) (event_said e)))

-- the line of a reply that was expected and of one that was found, in its pieces
pub reply_line : (k : ℕ) (a b : Reply) →
    (joined (fault_front k (codes "reply")) ++ 32 ∷ []) ++ (reply_text a ++ found_text b) ≡ fault_text k (fault.Reply a b)
reply_line k a b =
    let front : List ℕ = joined (fault_front k (codes "reply")) ++ 32 ∷ [] in
    let bar : List (List ℕ) = codes "|" ∷ reply_words b in
    let said : HasWord (reply_words a) = reply_said a in
    let words : HasWord (reply_words a ++ bar) = (said.0, said.1 ++ bar, ap (λ (ws : List (List ℕ)). ws ++ bar) said.2) in
    regrouped front (reply_text a) (reply_text b)
    ∙ ap (λ (t : List ℕ). (front ++ t) ++ 10 ∷ [])
    (sym (joined_more (reply_words a) bar said (codes "|", reply_words b, refl) ∙ ap (λ (t : List ℕ). (reply_text a ++ 32 ∷ []) ++ (124 ∷ t)) (spaced_joined (reply_words b) (reply_said b))))
    ∙ ap (λ (t : List ℕ). t ++ 10 ∷ []) (sym (joined_both (codes "illegal") (decimal k ∷ codes "reply" ∷ []) (reply_words a ++ bar) words))

-- ---- pieces one after another

-- a piece, and then what is left of a text
pub wrote_then : (old mid new : SinkState) (a b text : List ℕ) (result : Result Unit WriteFault) → a ++ b ≡ text → WroteWhole old mid a (Ok tt) →
    WroteWhole mid new b result → WroteWhole old new text result
wrote_then old mid new a b text result is first second = subst (λ (t : List ℕ). WroteWhole old new t result) is (wrote_both old mid new a b result first second)

-- a fault in the first piece of a text
pub wrote_part : (old new : SinkState) (a b text : List ℕ) (fault : WriteFault) → a ++ b ≡ text → WroteWhole old new a (Err fault) → WroteWhole old new text (Err fault)
wrote_part old new a b text fault is first = subst (λ (t : List ℕ). WroteWhole old new t (Err fault)) is (wrote_front old new a b fault first)
