-- The place under the next lock is the first of those that are left.
use Rattle.std.proofs.Common.{Some, None, sym, ◌∙◌}
use Rattle.ule_seq.proofs.StepLaws.{place_next}
use Rattle.ule_seq.proofs.places.place_under_locks.Goals as goal

pub returns-in-Some : goal.returns-in-Some
returns-in-Some c =
    sym (place_next c.args.m.now.state.values c.args.t c.loop-l.l c.value.result.now (Some c.in-Some.place) c.loop-l.invariant c.value.ensures (sym c.place_in.ensures.place ∙ c.in-Some.is))

pub loop-l-preserved : goal.loop-l-preserved
loop-l-preserved c =
    place_next c.args.m.now.state.values c.args.t c.loop-l.l c.value.result.now None c.loop-l.invariant c.value.ensures (sym c.place_in.ensures.place ∙ c.in_default.is)
