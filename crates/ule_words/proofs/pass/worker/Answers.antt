use Rattle.std.proofs.Common.{◌∙◌, ap, sym}
use Rattle.ule_words.proofs.Ties.{worker_is}
use Rattle.ule_words.proofs.pass.worker.Goals as goal

pub returns : goal.returns
returns g c = sym c.p.invariant.number ∙ sym (ap (λ z. z.number) (worker_is _ _ _ _ _ _ _ _ _ _ _ c.p.view_is c.p.invariant))
