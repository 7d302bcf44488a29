use Rattle.std.proofs.Common.{List, ◌∷◌, ap, sym, subst}
use Rattle.ule_types.specs.declared.command.Command.{Command}
use Rattle.ule_parts.specs.Scheduler.{sched_means}
use Rattle.ule_smp.specs.Runs.{HasRun}
use Rattle.ule_smp.specs.Smp.{CanRun, RestsAfter}
use Rattle.ule_smp.proofs.Setups.{counts_events}
use Rattle.ule_smp.proofs.smp.Smp.run_command.Goals as goal

pub run-requires-clause-counts : goal.run-requires-clause-counts
run-requires-clause-counts g c = counts_events c.self.inside.locks.parts

pub run-requires-clause-can : goal.run-requires-clause-can
run-requires-clause-can g c = let given = c.requires.can.0 in let can = subst (λ s. CanRun s given c.args.c.now c.args.p.now) (sym (ap (λ z. z.setup) c.self.view_is)) c.requires.can.1 in
    (given, can.0, can.1)

pub returns-clause-run : goal.returns-clause-run
returns-clause-run g c = subst (λ s. HasRun (sched_means s) c.args.c.now c.args.p.now c.run.result c.run.new.p) (ap (λ z. z.setup) c.self.view_is) c.run.ensures.run

pub returns-clause-rest : goal.returns-clause-rest
returns-clause-rest g c = subst (λ s. (given : List Command) → CanRun s given c.args.c.now c.args.p.now → RestsAfter s (c.args.c.now ∷ given) c.run.new.p) (ap (λ z. z.setup) c.self.view_is)
    (λ given can. c.run.ensures.rest given can.0 can.1)
