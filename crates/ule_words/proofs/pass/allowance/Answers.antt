use Rattle.std.proofs.Common.{◌∙◌, ap, sym}
use Rattle.ule_words.proofs.Ties.{worker_is}
use Rattle.ule_words.proofs.pass.allowance.Goals as goal

pub returns : goal.returns
returns g c = sym c.p.invariant.allowance ∙ sym (ap (λ z. z.allowance) (worker_is _ _ _ _ _ _ _ _ _ _ _ c.p.view_is c.p.invariant))
