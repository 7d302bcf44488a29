-- The trace of a setup, from a play after which a round changes nothing.
use Rattle.std.proofs.Common.{◌≡◌, ◌≤◌, ℕ, List, sym, ◌∙◌, ap}
use Rattle.ule_model.specs.Ends.{outcome_of}
use Rattle.ule_model.specs.Rounds.{Play, opening, play_of, round, rounds, greatest_rounds}
use Rattle.ule_rounds.proofs.RoundsLaws.{rounds_past_still}
use Rattle.ule_trace.specs.Trace.{trace_text}
use Rattle.ule_types.specs.Outcome.{OutcomeValue}
use Rattle.ule_types.specs.declared.event.Entry.{Entry}
use Rattle.ule_types.specs.declared.setup.Setup.{Setup}

-- once a round changes nothing, the play of a setup is what its rounds came to
play_after : (n : ℕ) (s : Setup) (p : Play) → n ≤ greatest_rounds → rounds n (opening s) ≡ p → round p ≡ p → play_of s ≡ p
play_after n s p few played still =
    rounds_past_still n greatest_rounds (opening s) few (ap round played ∙ still ∙ sym played) ∙ played

-- the trace of a setup is the text of what the entries of its rounds come to, once a round changes nothing
pub traced_after : (n : ℕ) (s : Setup) (p : Play) (es : List Entry) (o : OutcomeValue) (text : List ℕ) → n ≤ greatest_rounds → rounds n (opening s) ≡ p → round p ≡ p →
    p.entries ≡ es → outcome_of s s.scripts es ≡ o → trace_text o ≡ text → trace_text (outcome_of s s.scripts (play_of s).entries) ≡ text
traced_after n s p es o text few played still entered ended told =
    ap (λ (fs : List Entry). trace_text (outcome_of s s.scripts fs)) (ap (λ (q : Play). q.entries) (play_after n s p few played still) ∙ entered)
    ∙ ap (λ (x : OutcomeValue). trace_text x) ended ∙ told
