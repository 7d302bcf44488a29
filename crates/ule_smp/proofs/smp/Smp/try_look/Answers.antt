use Rattle.std.proofs.Common.{◌∷◌, Some, ap, refl, sym, subst}
use Rattle.ule_types.specs.declared.command.Command.TheVariants.{Look}
use Rattle.ule_types.specs.declared.event.Event.TheVariants as event
use Rattle.ule_types.specs.declared.event.Reply.TheVariants.{Seen}
use Rattle.ule_parts.specs.Scheduler.{sched_means}
use Rattle.ule_words.specs.Tells.{IsHolderOf}
use Rattle.ule_smp.specs.Runs.{HasRun, IsOneUnder}
use Rattle.ule_smp.specs.Smp.{CanRun, RestsAfter}
use Rattle.ule_smp.proofs.Looking.{look_is_one, look_seen}
use Rattle.ule_smp.proofs.Setups.{counts_events, look_valid}
use Rattle.ule_smp.proofs.smp.Smp.try_look.Goals as goal

pub attempt-requires-clause-counts : goal.attempt-requires-clause-counts
attempt-requires-clause-counts c = counts_events c.self.inside.locks.parts

pub attempt-requires-clause-can : goal.attempt-requires-clause-can
attempt-requires-clause-can c = let given = c.requires.rest.0 in
    let can = subst (λ s. CanRun s given (Look c.args.c) c.args.p.now) (sym (ap (λ z. z.setup) c.self.view_is))
    (c.requires.rest.1, look_valid c.args.self.now.setup c.args.p.now.worker.number given c.args.c c.requires.cpu) in
    (given, can.0, can.1)

pub attempt-requires-clause-one : goal.attempt-requires-clause-one
attempt-requires-clause-one c = let s = c.self.inside.locks.parts in
    subst (λ l. IsOneUnder (sched_means s) l (Look c.args.c) c.args.p.now.own) (sym c.c.view_is) (look_is_one s c.args.c c.args.p.now.own)

pub summary_of-requires : goal.summary_of-requires
summary_of-requires c = let acts = c.in-Ok.ensures.acts (event.Look c.args.c) refl in
    look_seen c.self.inside.locks.parts c.args.c c.args.p.now.worker.number acts.1 c.args.p.now.worker.hand acts.0 c.in-Ok.reply acts.2

pub returns-in-Ok-clause-run : goal.returns-in-Ok-clause-run
returns-in-Ok-clause-run c = let x = c.summary_of.result in
    subst (λ s. HasRun (sched_means s) (Look c.args.c) c.args.p.now (Some (Seen x.load x.movable x.lowpri)) c.attempt.new.p) (ap (λ z. z.setup) c.self.view_is)
    (subst (λ r. HasRun (sched_means c.self.inside.locks.parts) (Look c.args.c) c.args.p.now (Some r) c.attempt.new.p) (sym c.summary_of.ensures) c.in-Ok.ensures.run)

pub returns-in-Ok-clause-rest : goal.returns-in-Ok-clause-rest
returns-in-Ok-clause-rest c given rest = subst (λ s. CanRun s given (Look c.args.c) c.args.p.now → RestsAfter s (Look c.args.c ∷ given) c.attempt.new.p) (ap (λ z. z.setup) c.self.view_is)
    (λ can. c.in-Ok.ensures.rest given can.0 can.1)
    (rest, look_valid c.args.self.now.setup c.args.p.now.worker.number given c.args.c c.requires.cpu)

pub returns-in-Err-clause-holder : goal.returns-in-Err-clause-holder
returns-in-Err-clause-holder c = subst (λ s. IsHolderOf (sched_means s) c.args.p.now.worker c.args.c c.in-Err.busy.holder) (ap (λ z. z.setup) c.self.view_is)
    (subst (λ l. IsHolderOf (sched_means c.self.inside.locks.parts) c.args.p.now.worker l c.in-Err.busy.holder) c.c.view_is c.in-Err.ensures.holder)
