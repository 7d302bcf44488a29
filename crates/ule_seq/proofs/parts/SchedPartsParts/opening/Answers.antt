-- The value of a lock that there is.
use Rattle.std.proofs.Common.{◌≡◌, ◌<◌, slice_get, Some, sym, ap, ◌∙◌, subst}
use Rattle.std.proofs.lemmas.Result.{IfOk-weaker}
use Rattle.ule_types.specs.declared.setup.Setup.{Setup}
use Rattle.ule_model.specs.LockValue.{LockValue}
use Rattle.ule_model.specs.OpeningValues.{opening_scheduler, opening_value}
use Rattle.ule_seq.proofs.PartLaws.{value_there}
use Rattle.ule_seq.proofs.parts.SchedPartsParts.opening.Goals as goal

pub returns : goal.returns
returns c =
    let s = c.args.self.now in
    let l = c.args.l in
    let low : l < 25 = subst (λ k. k < 25) c.lock_number.ensures.number c.lock_number.ensures.low in
    let same : opening_value c.self.inside.setup c.lock_number.result ≡ opening_value s l =
    ap (λ (x : Setup). opening_value x c.lock_number.result) c.self.view_is ∙ ap (opening_value s) c.lock_number.ensures.number in
    IfOk-weaker c.opening.result (λ v. v ≡ opening_value c.self.inside.setup c.lock_number.result) (λ v. slice_get (opening_scheduler s).values l ≡ Some v)
    (λ v is. value_there s l low ∙ ap (λ (x : LockValue). Some x) (sym (is ∙ same))) c.opening.ensures
