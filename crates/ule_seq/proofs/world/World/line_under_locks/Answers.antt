-- The line under the next lock is the first of those that are left.
use Rattle.std.proofs.Common.{sym, ◌∙◌, ap}
use Rattle.ule_model.specs.WorldValue.{WorldValue}
use Rattle.ule_seq.proofs.FinalLaws.{line_next}
use Rattle.ule_seq.proofs.world.World.line_under_locks.Goals as goal

pub returns-in-Some-clause-line : goal.returns-in-Some-clause-line
returns-in-Some-clause-line c =
    sym (c.loop-guarded.invariant ∙
    line_next c.args.self.now.values c.deref-guarded-items.result.now c.loop-guarded.guarded-index c.guarded-item.result c.args.t _
    (ap (λ (v : WorldValue). v.values) (sym c.self.view_is) ∙ sym c.deref-guarded-items.ensures.value)
    c.loop-guarded-test.true c.guarded-item.is (sym c.line.ensures.line ∙ c.in-Some.is))

pub loop-guarded-preserved : goal.loop-guarded-preserved
loop-guarded-preserved c =
    c.loop-guarded.invariant ∙
    line_next c.args.self.now.values c.deref-guarded-items.result.now c.loop-guarded.guarded-index c.guarded-item.result c.args.t _
    (ap (λ (v : WorldValue). v.values) (sym c.self.view_is) ∙ sym c.deref-guarded-items.ensures.value)
    c.loop-guarded-test.true c.guarded-item.is (sym c.line.ensures.line ∙ c.in_default.is)
