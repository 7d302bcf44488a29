use Rattle.std.specs.Prelude.{slice_get}
use Rattle.ule_micro.proofs.Starting.{one_more_said, pushed}
use Rattle.ule_micro.proofs.opening.first_values.Goals as goal

pub loop-l-preserved : goal.loop-l-preserved
loop-l-preserved g c = one_more_said (slice_get (g.P.Parts.means c.args.parts.now).values) c.loop-l.l c.loop-l.values.items c.push.new.self.items c.in_ok-value.value c.loop-l.invariant c.in_ok-value.ensures
    (pushed c.push.result c.is_err.result _ _ _ c.is_err.ensures.value c.if-is_err.false c.push.ensures.items)
