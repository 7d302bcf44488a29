use Rattle.std.proofs.Common.{ℕ, List, ◌∙◌, subst}
use Rattle.ule_top.specs.Making.{written}
use Rattle.ule_task.specs.Writing.{Wrote}
use Rattle.ule_top.proofs.MakingLaws.{line_of_setup}
use Rattle.ule_top.proofs.summary.summarize.Goals as goal

pub returns : goal.returns
returns g c =
    let played = c.in-Ok.ensures in
    written played.0 played.1 (subst (λ (text : List ℕ). Wrote (g.K.Sink.state c.args.out.now) (g.K.Sink.state c.finish.new.out) text 0 c.finish.result)
    (c.as_slice.ensures ∙ (c.line_of-text.ensures ∙ line_of_setup c.args.n played.0 c.in-Ok.outcome played.2)) (c.finish.ensures _ _ c.write_all-written.ensures.wrote))
