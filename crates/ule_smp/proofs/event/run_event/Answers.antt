use Rattle.ule_smp.proofs.Holding.{performed_from}
use Rattle.ule_smp.proofs.event.run_event.Goals as goal

pub returns : goal.returns
returns g c = performed_from _ c.args.p.now _ _ c.take_locks-taken.ensures.0 c.args.e.now _ c.take_locks-taken.ensures.1 c.perform_under.ensures.performed
