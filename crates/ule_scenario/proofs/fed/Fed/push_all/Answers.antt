use Rattle.std.proofs.Common.{◌≡◌, ◌++◌, ◌∷◌, [], ◌+◌, List, ℕ, take, get_or, sym, ap, arith, ◌∙◌}
use Rattle.std.proofs.lemmas.List.{append_assoc, take_more, take_all}
use Rattle.ule_scenario.proofs.fed.Fed.push_all.Goals as goal

pub loop-b-preserved : goal.loop-b-preserved
loop-b-preserved c = λ bytes h.
    let i = c.loop-b.b-index in
    let more = c.args.more.now in
    let e : bytes ++ take (i + 1) more ≡ (bytes ++ take i more) ++ get_or more i 0 ∷ [] =
    ap (λ (l : List ℕ). bytes ++ l) (take_more more i 0 (omega arith)) ∙ sym (append_assoc bytes (take i more) (get_or more i 0 ∷ [])) in
    rw e (c.in_ok-push.ensures (bytes ++ take i more) (c.loop-b.invariant bytes h))

pub returns : goal.returns
returns c = λ bytes h.
    let e : take c.loop-b.b-index c.args.more.now ≡ c.args.more.now = take_all c.loop-b.b-index c.args.more.now (omega arith) in
    rw e at (c.loop-b.invariant bytes h)
