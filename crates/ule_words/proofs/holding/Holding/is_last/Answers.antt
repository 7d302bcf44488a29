use Rattle.std.proofs.Common.{ℕ, ap, ◌∙◌, eqb-true}
use Rattle.std.specs.Prelude.{Some}
use Rattle.ule_words.specs.declared.holding.Held.{Held}
use Rattle.ule_words.proofs.holding.Holding.is_last.Goals as goal

module _ {G : Type 0} where
  abbrev pub with_lock : Held G → ℕ → Held G
  with_lock h l = record { lock = l; value = h.value }

pub returns-in-Some-clause-is : goal.returns-in-Some-clause-is
returns-in-Some-clause-is g c = λ e. (c.in-Some.held.value, c.in-Some.is ∙ ap (λ l. Some (with_lock c.in-Some.held l)) (eqb-true _ _ e))
