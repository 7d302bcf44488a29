use Rattle.std.proofs.Common.{◌≡◌, ℕ, List, [], ◌∷◌, ◌++◌, codes, append_assoc, append-nil, ap, ◌∙◌}
use Rattle.std.specs.Fmt.{decimal}
use Rattle.ule_trace.specs.Line.{spaced, worker_word}
use Rattle.ule_weave.proofs.line.spell_lost.Goals as goal

-- four words in turn
in_turn : (held a b c d x y : List ℕ) → a ≡ held ++ 32 ∷ codes "lost" → b ≡ a ++ 32 ∷ codes "take" → c ≡ b ++ 32 ∷ x → d ≡ c ++ 32 ∷ y
    → d ≡ held ++ spaced (codes "lost" ∷ codes "take" ∷ x ∷ y ∷ [])
in_turn held a b c d x y e1 e2 e3 e4 = e4 ∙ rw (e3, e2, e1) (simp (append_assoc, append-nil))

pub returns-clause-text : goal.returns-clause-text
returns-clause-text c =
    in_turn c.args.held.now c.keyword.new.self c.keyword-2.new.self c.small.new.self c.worker.new.self (decimal c.args.lock) (worker_word c.args.holder)
    c.keyword.ensures.text c.keyword-2.ensures.text (c.small.ensures.text ∙ ap (λ n. c.keyword-2.new.self ++ 32 ∷ decimal n) (cc)) c.worker.ensures.text
