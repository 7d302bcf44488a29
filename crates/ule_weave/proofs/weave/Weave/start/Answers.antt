use Rattle.std.proofs.Common.{ap, ◌∙◌, sym, length}
use Rattle.ule_weave.specs.WeaveText.{declared_in_order, opened}
use Rattle.ule_weave.proofs.Opened.{start_is_opened}
use Rattle.ule_weave.proofs.weave.Weave.start.Goals as goal

pub invariant_of-result : goal.invariant_of-result
invariant_of-result c =
    let x = c.in_ok-micro.micro.state in
    let parts = c.in_ok-micro.ensures.parts in
    let locks = sym (ap (λ n. length n.state.locks) c.micro.view_is) ∙ c.micro.invariant.0.locks in
    let words = sym (ap (λ n. length n.state.words) c.micro.view_is) ∙ c.micro.invariant.0.words in (
      start_is_opened c.in_ok-parts.parts x c.in_ok-micro.ensures.start locks words ∙ ap opened (sym parts),
      c.in_ok-threads.ensures ∙ ap declared_in_order (sym (parts ∙ c.in_ok-parts.ensures)),
    )
