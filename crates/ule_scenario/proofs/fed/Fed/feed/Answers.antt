use Rattle.std.proofs.Common.{◌++◌, ◌∷◌, [], List, ℕ, subst, ap, ◌∙◌}
use Rattle.std.proofs.lemmas.List.{append_assoc}
use Rattle.ule_scenario.specs.FedKept.{HasFed}
use Rattle.ule_scenario.proofs.WholeLines.{lines_more}
use Rattle.ule_scenario.proofs.fed.Fed.feed.Goals as goal

pub loop-line-preserved : goal.loop-line-preserved
loop-line-preserved c =
    let i = c.loop-line.invariant in
    let line = c.in-Some.line.now in
    record {
      done = i.done ++ (line ++ 10 ∷ []);
      whole = lines_more c.args.piece.now i.done c.loop-line.rest.now line c.in-Some.behind.now i.whole c.in-Some.ensures.found;
      fed = λ bytes has.
          subst (λ (l : List ℕ). HasFed c.push_line.new.self.count c.push_line.new.self.text l) (append_assoc bytes i.done (line ++ 10 ∷ []))
          (c.in_ok-push_line.ensures (bytes ++ i.done) (i.fed bytes has));
    }

pub returns : goal.returns
returns c = λ bytes has.
    let i = c.loop-line.invariant in
    subst (λ (l : List ℕ). HasFed c.push_all.new.self.count c.push_all.new.self.text l)
    (append_assoc bytes i.done c.loop-line.rest.now ∙ ap (λ (l : List ℕ). bytes ++ l) i.whole)
    (c.in_ok-push_all.ensures (bytes ++ i.done) (i.fed bytes has))
