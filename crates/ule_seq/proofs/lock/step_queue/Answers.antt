-- What each event on a CPU needs is what the step needs.
use Rattle.std.proofs.Common.{◌==◌, not, refl, subst}
use Rattle.ule_score.specs.declared.record.Change.TheVariants as change
use Rattle.ule_model.specs.Conditions.{HasSoundNumbers}
use Rattle.ule_types.specs.declared.event.Event.TheVariants as event
use Rattle.ule_model.specs.CpuChange.{value_changed}
use Rattle.ule_seq.proofs.ChangeSteps.{change_call, changed_on_cpu}
use Rattle.ule_seq.proofs.lock.step_queue.Goals as goal

pub land-requires-clause-absent : goal.land-requires-clause-absent
land-requires-clause-absent c = c.requires.absent

pub land-requires-clause-cpu : goal.land-requires-clause-cpu
land-requires-clause-cpu c = c.requires.cpu c.in-Land.field-0 c.in-Land.c c.in-Land.is

pub change_on-requires-in-Inherit : goal.change_on-requires-in-Inherit
change_on-requires-in-Inherit c = subst HasSoundNumbers c.in-Inherit.is c.requires.numbers

pub returns-in-Lend : goal.returns-in-Lend
returns-in-Lend c =
    changed_on_cpu c.args.worker c.args.e.now c.args.now c.args.hand.now c.args.tdq.now c.change_on.new.tdq c.change_on.result
    (value_changed c.in-Lend.t (change.Lend c.in-Lend.p) (not (c.args.worker == c.args.tdq.now.cpu)) c.args.tdq.now)
    (change_call c.args.worker c.args.now c.args.hand.now c.args.tdq.now c.args.e.now c.requires c.in-Lend.t (change.Lend c.in-Lend.p) (event.Lend c.in-Lend.t c.in-Lend.p) c.in-Lend.is refl (λ h. h)) c.change_on.ensures.value c.change_on.ensures.reply

pub returns-in-Unlend : goal.returns-in-Unlend
returns-in-Unlend c =
    changed_on_cpu c.args.worker c.args.e.now c.args.now c.args.hand.now c.args.tdq.now c.change_on-in-Unlend.new.tdq c.change_on-in-Unlend.result
    (value_changed c.in-Unlend.t (change.Unlend) (not (c.args.worker == c.args.tdq.now.cpu)) c.args.tdq.now)
    (change_call c.args.worker c.args.now c.args.hand.now c.args.tdq.now c.args.e.now c.requires c.in-Unlend.t (change.Unlend) (event.Unlend c.in-Unlend.t) c.in-Unlend.is refl (λ h. h)) c.change_on-in-Unlend.ensures.value c.change_on-in-Unlend.ensures.reply

pub returns-in-Renice : goal.returns-in-Renice
returns-in-Renice c =
    changed_on_cpu c.args.worker c.args.e.now c.args.now c.args.hand.now c.args.tdq.now c.change_on-in-Renice.new.tdq c.change_on-in-Renice.result
    (value_changed c.in-Renice.t (change.Renice c.in-Renice.nice) (not (c.args.worker == c.args.tdq.now.cpu)) c.args.tdq.now)
    (change_call c.args.worker c.args.now c.args.hand.now c.args.tdq.now c.args.e.now c.requires c.in-Renice.t (change.Renice c.in-Renice.nice) (event.Renice c.in-Renice.t c.in-Renice.nice) c.in-Renice.is refl (λ h. h)) c.change_on-in-Renice.ensures.value c.change_on-in-Renice.ensures.reply

pub returns-in-Inherit : goal.returns-in-Inherit
returns-in-Inherit c =
    changed_on_cpu c.args.worker c.args.e.now c.args.now c.args.hand.now c.args.tdq.now c.change_on-in-Inherit.new.tdq c.change_on-in-Inherit.result
    (value_changed c.in-Inherit.t (change.Inherit c.in-Inherit.run') (not (c.args.worker == c.args.tdq.now.cpu)) c.args.tdq.now)
    (change_call c.args.worker c.args.now c.args.hand.now c.args.tdq.now c.args.e.now c.requires c.in-Inherit.t (change.Inherit c.in-Inherit.run') (event.Inherit c.in-Inherit.t c.in-Inherit.run') c.in-Inherit.is refl (λ h. h)) c.change_on-in-Inherit.ensures.value c.change_on-in-Inherit.ensures.reply
