use Rattle.std.proofs.Common.{subst, arith}
use Rattle.ule_members.proofs.Setups.{setup_scripts}
use Rattle.ule_parts.specs.Scheduler.{orders_of}
use Rattle.ule_smp.specs.Smp.{IsDone}
use Rattle.ule_race.proofs.Races.{fresh_at, are_done}
use Rattle.ule_race.proofs.threads.run_all.Goals as goal

pub for_each_mut-requires-clause-accepts : goal.for_each_mut-requires-clause-accepts
for_each_mut-requires-clause-accepts g c κs within = λ i p low at.
    let fresh = fresh_at c.args.s.now c.args.smp.now.table c.args.list.now i p.now c.requires.fresh low at in (c.requires.setup, fresh.0, fresh.1)

pub returns : goal.returns
returns g c = are_done c.args.s.now c.args.smp.now.table c.args.list.now c.for_each_mut.new.s c.requires.fresh c.for_each_mut.auto.s
    (λ w p low. let r = (c.for_each_mut.ensures w p low).1 in subst (IsDone c.args.s.now c.args.smp.now.table (orders_of c.args.s.now w) w) r.left r.call)
