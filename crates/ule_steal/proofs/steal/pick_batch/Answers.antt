use Rattle.std.proofs.Common.{sym, ◌∙◌, ap, refl, None, Some}
use Rattle.ule_runq.specs.Set.{has}
use Rattle.ule_steal.specs.Steal.{if_movable}
use Rattle.ule_steal.proofs.StealLaws.{batch_pick-read, spares-other, spares-none}
use Rattle.ule_steal.proofs.steal.pick_batch.Goals as goal

pub returns-in-Some-clause-value : goal.returns-in-Some-clause-value
returns-in-Some-clause-value c =
    sym (batch_pick-read (has c.args.movable.now) c.args.c.now c.lists.result.now c.ridx.result c.first.result (Some c.in-Some.t) c.ridx.ensures.calendar.queue c.lists.ensures.value c.ridx.ensures.value c.first.ensures.value
    (sym c.first_allowed.ensures.value ∙ c.in-Some.is))

pub returns-in-None-clause-value : goal.returns-in-None-clause-value
returns-in-None-clause-value c =
    c.first_if_movable.ensures
    ∙ ap (if_movable (has c.args.movable.now)) (sym c.first.ensures.value)
    ∙ sym (batch_pick-read (has c.args.movable.now) c.args.c.now c.lists.result.now c.ridx.result c.first.result None c.ridx.ensures.calendar.queue c.lists.ensures.value c.ridx.ensures.value c.first.ensures.value
    (sym c.first_allowed.ensures.value ∙ c.in-None.is))

pub returns-in-Some-clause-spares : goal.returns-in-Some-clause-spares
returns-in-Some-clause-spares c = spares-other (has c.args.movable.now) c.args.c.now c.first.result c.first.ensures.value c.in-Some.t c.in-Some.ensures.allowed

pub returns-in-None-clause-spares : goal.returns-in-None-clause-spares
returns-in-None-clause-spares c =
    let lists = c.lists.ensures.value in
    spares-none (has c.args.movable.now) c.args.c.now c.first.result c.first.ensures.value
    (λ u stands. c.in-None.ensures.none.0 refl u (rw lists stands)) c.first_if_movable.result
