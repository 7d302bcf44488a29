use Rattle.std.proofs.Common.{◌∙◌, ap, sym, refl}
use Rattle.std.proofs.lemmas.Option.{none-some}
use Rattle.ule_words.proofs.Ties.{same_lock}
use Rattle.ule_words.proofs.perform.perform.Goals.{in-None, in-Some-take+in-None-old}
use Rattle.ule_words.proofs.perform.perform.Goals as goal

pub returns-clause-last : goal.returns-clause-last
returns-clause-last g c = (c.in-Some.last, record { lock = c.in-Some.last.lock; value = c.match-take-2.value }, sym c.take.ensures.value ∙ c.in-Some.is, c.replace-old-2.ensures.after, refl)

pub returns-clause-first : goal.returns-clause-first
returns-clause-first g c = λ y is. elim c.match-take-2.branch [
  | in-None w ↦ absurd (none-some y (sym (ap (λ h. h.first) w.holding-is ∙ c.take-2.ensures.after) ∙ is))
  | in-Some-take+in-None-old w ↦ (w.in-Some-take.first, sym c.take-2.ensures.value ∙ w.in-Some-take.is, same_lock y _ (sym is ∙ (ap (λ h. h.first) w.holding-is ∙ w.replace-old.ensures.after)))
]
