use Rattle.std.proofs.Common.{List, ◌∷◌, ◌≤◌, reverse, take, sym, subst, arith}
use Rattle.ule_members.proofs.Setups.{setup_scripts}
use Rattle.ule_parts.specs.Scheduler.{orders_of, sched_means}
use Rattle.ule_smp.specs.Runs.{HasRun}
use Rattle.ule_smp.specs.Smp.{CanRun, RestsAfter}
use Rattle.ule_types.specs.Commands.{greatest_of}
use Rattle.ule_types.specs.declared.command.Command.{Command}
use Rattle.ule_types.specs.declared.setup.Setup.{Setup}
use Rattle.ule_race.proofs.Running.{next_fits, next_runs, running_first, running_last, running_next}
use Rattle.ule_race.proofs.script.run_script.Goals as goal

pub len-count-requires : goal.len-count-requires
len-count-requires g c = let many = (setup_scripts c.args.s.now).cpus in let below = c.requires.worker in omega arith

pub loop-k-init : goal.loop-k-init
loop-k-init g c = running_first c.args.s.now _ c.args.worker _ c.requires.worker c.requires.fresh

pub run_command-requires-clause-can : goal.run_command-requires-clause-can
run_command-requires-clause-can g c =
    let given = reverse (take c.loop-k.k (orders_of c.args.s.now c.args.worker)) in
    let can = subst (λ (z : Setup). CanRun z given c.at.result.now c.loop-k.p) (sym c.requires.setup)
    (next_runs c.args.s.now c.args.smp.now.table c.args.worker c.loop-k.k c.loop-k.p c.at.result.now c.loop-k.invariant c.at.ensures) in
    (given, can)

pub run_command-requires-clause-left : goal.run_command-requires-clause-left
run_command-requires-clause-left g c =
    subst (λ (z : Setup). greatest_of c.at.result.now c.loop-k.p.worker.number z.cpus ≤ c.loop-k.p.worker.allowance) (sym c.requires.setup)
    (next_fits c.args.s.now c.args.smp.now.table c.args.worker c.loop-k.k c.loop-k.p c.at.result.now c.loop-k.invariant c.at.ensures)

pub loop-k-preserved : goal.loop-k-preserved
loop-k-preserved g c =
    running_next c.args.s.now c.args.smp.now.table c.args.worker c.loop-k.k c.loop-k.p c.at.result.now c.loop-k.invariant c.at.ensures c.run_command.result c.run_command.new.p
    (subst (λ (z : Setup). HasRun (sched_means z) c.at.result.now c.loop-k.p c.run_command.result c.run_command.new.p) c.requires.setup c.run_command.ensures.run)
    (subst (λ (z : Setup). (given : List Command) → CanRun z given c.at.result.now c.loop-k.p → RestsAfter z (c.at.result.now ∷ given) c.run_command.new.p) c.requires.setup c.run_command.ensures.rest)

pub returns : goal.returns
returns g c = running_last c.args.s.now _ c.args.worker _ _ (let far = c.loop-k.far-k in omega arith) c.loop-k.invariant
