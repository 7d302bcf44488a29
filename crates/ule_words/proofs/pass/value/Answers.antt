use Rattle.std.proofs.Common.{◌∙◌, ap, sym}
use Rattle.ule_words.specs.Held.{is_held, value_held}
use Rattle.ule_words.proofs.Ties.{worker_is}
use Rattle.ule_words.proofs.pass.value.Goals as goal

pub get-requires-clause-held : goal.get-requires-clause-held
get-requires-clause-held g c = ap (λ f. is_held f c.l.inside.0) (sym (ap (λ z. z.held) (worker_is _ _ _ _ _ _ _ _ _ _ _ c.p.view_is c.p.invariant) ∙ c.p.invariant.held)) ∙ (ap (is_held c.args.p.now.worker.held) c.l.view_is ∙ c.requires)

pub returns : goal.returns
returns g c = ap (value_held c.args.p.now.worker.held) (sym c.l.view_is) ∙ (ap (λ f. value_held f c.l.inside.0) (ap (λ z. z.held) (worker_is _ _ _ _ _ _ _ _ _ _ _ c.p.view_is c.p.invariant) ∙ c.p.invariant.held) ∙ c.get.ensures)
