-- What each event on limbo needs is what the step needs.
use Rattle.std.proofs.Common.{refl, subst}
use Rattle.ule_score.specs.declared.record.Change.TheVariants as change
use Rattle.ule_model.specs.Conditions.{HasSoundNumbers}
use Rattle.ule_types.specs.declared.event.Event.TheVariants as event
use Rattle.ule_seq.proofs.ChangeSteps.{changed_in_limbo, limbo_change_call}
use Rattle.ule_seq.proofs.lock.step_limbo.Goals as goal

pub hatch-requires : goal.hatch-requires
hatch-requires c = c.requires.step.unborn c.in-Hatch.t c.in-Hatch.is

pub put_back-requires : goal.put_back-requires
put_back-requires c = c.requires.step.absent

pub bury-requires : goal.bury-requires
bury-requires c = c.requires.step.absent

pub change_still-requires-in-Inherit-clause-run : goal.change_still-requires-in-Inherit-clause-run
change_still-requires-in-Inherit-clause-run c = subst HasSoundNumbers c.in-Inherit.is c.requires.step.numbers

pub returns-in-Lend : goal.returns-in-Lend
returns-in-Lend c =
    changed_in_limbo c.args.settings.now c.args.e.now (change.Lend c.in-Lend.p) c.in-Lend.t c.args.hand.now c.args.limbo.now c.change_still.new.limbo c.change_still.result
    (λ worker now. limbo_change_call worker now c.args.settings.now c.args.hand.now c.args.limbo.now c.args.e.now c.requires.step c.in-Lend.t (change.Lend c.in-Lend.p) (event.Lend c.in-Lend.t c.in-Lend.p) c.in-Lend.is refl (λ h. h))
    c.change_still.ensures.value c.change_still.ensures.reply

pub returns-in-Unlend : goal.returns-in-Unlend
returns-in-Unlend c =
    changed_in_limbo c.args.settings.now c.args.e.now (change.Unlend) c.in-Unlend.t c.args.hand.now c.args.limbo.now c.change_still-in-Unlend.new.limbo c.change_still-in-Unlend.result
    (λ worker now. limbo_change_call worker now c.args.settings.now c.args.hand.now c.args.limbo.now c.args.e.now c.requires.step c.in-Unlend.t (change.Unlend) (event.Unlend c.in-Unlend.t) c.in-Unlend.is refl (λ h. h))
    c.change_still-in-Unlend.ensures.value c.change_still-in-Unlend.ensures.reply

pub returns-in-Renice : goal.returns-in-Renice
returns-in-Renice c =
    changed_in_limbo c.args.settings.now c.args.e.now (change.Renice c.in-Renice.nice) c.in-Renice.t c.args.hand.now c.args.limbo.now c.change_still-in-Renice.new.limbo c.change_still-in-Renice.result
    (λ worker now. limbo_change_call worker now c.args.settings.now c.args.hand.now c.args.limbo.now c.args.e.now c.requires.step c.in-Renice.t (change.Renice c.in-Renice.nice) (event.Renice c.in-Renice.t c.in-Renice.nice) c.in-Renice.is refl (λ h. h))
    c.change_still-in-Renice.ensures.value c.change_still-in-Renice.ensures.reply

pub returns-in-Inherit : goal.returns-in-Inherit
returns-in-Inherit c =
    changed_in_limbo c.args.settings.now c.args.e.now (change.Inherit c.in-Inherit.run') c.in-Inherit.t c.args.hand.now c.args.limbo.now c.change_still-in-Inherit.new.limbo c.change_still-in-Inherit.result
    (λ worker now. limbo_change_call worker now c.args.settings.now c.args.hand.now c.args.limbo.now c.args.e.now c.requires.step c.in-Inherit.t (change.Inherit c.in-Inherit.run') (event.Inherit c.in-Inherit.t c.in-Inherit.run') c.in-Inherit.is refl (λ h. h))
    c.change_still-in-Inherit.ensures.value c.change_still-in-Inherit.ensures.reply
