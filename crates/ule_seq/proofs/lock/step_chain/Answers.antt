-- What each event on a sleep chain needs is what the step needs.
use Rattle.std.proofs.Common.{refl, subst}
use Rattle.ule_score.specs.declared.record.Change.TheVariants as change
use Rattle.ule_model.specs.Conditions.{HasSoundNumbers}
use Rattle.ule_types.specs.declared.event.Event.TheVariants as event
use Rattle.ule_seq.proofs.ChangeSteps.{chain_change_call, changed_asleep}
use Rattle.ule_seq.proofs.lock.step_chain.Goals as goal

pub bed-requires-clause-absent : goal.bed-requires-clause-absent
bed-requires-clause-absent c = c.requires.step.absent

pub bed-requires-clause-chain : goal.bed-requires-clause-chain
bed-requires-clause-chain c = c.requires.step.channel c.in-Bed.field-0 c.in-Bed.channel c.in-Bed.is

pub wake-requires-clause-time : goal.wake-requires-clause-time
wake-requires-clause-time c = c.requires.step.time

pub wake-requires-clause-in_time : goal.wake-requires-clause-in_time
wake-requires-clause-in_time c = c.requires.step.in_time c.in-Wake.t

pub change_asleep-requires-in-Inherit-clause-run : goal.change_asleep-requires-in-Inherit-clause-run
change_asleep-requires-in-Inherit-clause-run c = subst HasSoundNumbers c.in-Inherit.is c.requires.step.numbers

pub returns-in-Lend : goal.returns-in-Lend
returns-in-Lend c =
    changed_asleep c.args.settings.now c.args.e.now c.args.now (change.Lend c.in-Lend.p) c.in-Lend.t c.args.hand.now c.args.chain.now c.change_asleep.new.chain c.change_asleep.result
    (λ worker. chain_change_call worker c.args.now c.args.settings.now c.args.hand.now c.args.chain.now c.args.e.now c.requires.step c.in-Lend.t (change.Lend c.in-Lend.p) (event.Lend c.in-Lend.t c.in-Lend.p) c.in-Lend.is refl (λ h. h))
    c.change_asleep.ensures.value c.change_asleep.ensures.reply

pub returns-in-Unlend : goal.returns-in-Unlend
returns-in-Unlend c =
    changed_asleep c.args.settings.now c.args.e.now c.args.now (change.Unlend) c.in-Unlend.t c.args.hand.now c.args.chain.now c.change_asleep-in-Unlend.new.chain c.change_asleep-in-Unlend.result
    (λ worker. chain_change_call worker c.args.now c.args.settings.now c.args.hand.now c.args.chain.now c.args.e.now c.requires.step c.in-Unlend.t (change.Unlend) (event.Unlend c.in-Unlend.t) c.in-Unlend.is refl (λ h. h))
    c.change_asleep-in-Unlend.ensures.value c.change_asleep-in-Unlend.ensures.reply

pub returns-in-Renice : goal.returns-in-Renice
returns-in-Renice c =
    changed_asleep c.args.settings.now c.args.e.now c.args.now (change.Renice c.in-Renice.nice) c.in-Renice.t c.args.hand.now c.args.chain.now c.change_asleep-in-Renice.new.chain c.change_asleep-in-Renice.result
    (λ worker. chain_change_call worker c.args.now c.args.settings.now c.args.hand.now c.args.chain.now c.args.e.now c.requires.step c.in-Renice.t (change.Renice c.in-Renice.nice) (event.Renice c.in-Renice.t c.in-Renice.nice) c.in-Renice.is refl (λ h. h))
    c.change_asleep-in-Renice.ensures.value c.change_asleep-in-Renice.ensures.reply

pub returns-in-Inherit : goal.returns-in-Inherit
returns-in-Inherit c =
    changed_asleep c.args.settings.now c.args.e.now c.args.now (change.Inherit c.in-Inherit.run') c.in-Inherit.t c.args.hand.now c.args.chain.now c.change_asleep-in-Inherit.new.chain c.change_asleep-in-Inherit.result
    (λ worker. chain_change_call worker c.args.now c.args.settings.now c.args.hand.now c.args.chain.now c.args.e.now c.requires.step c.in-Inherit.t (change.Inherit c.in-Inherit.run') (event.Inherit c.in-Inherit.t c.in-Inherit.run') c.in-Inherit.is refl (λ h. h))
    c.change_asleep-in-Inherit.ensures.value c.change_asleep-in-Inherit.ensures.reply
