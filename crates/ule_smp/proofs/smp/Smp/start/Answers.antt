use Rattle.std.proofs.Common.{length, subst}
use Rattle.ule_types.specs.declared.setup.Setup.{Setup}
use Rattle.ule_parts.specs.Workers.{owns_from}
use Rattle.ule_parts.proofs.Orders.{many_owns}
use Rattle.ule_smp.specs.Smp.{AreFresh}
use Rattle.ule_smp.proofs.Starting.{fresh}
use Rattle.ule_smp.proofs.smp.Smp.start.Goals as goal

pub returns-clause-fresh : goal.returns-clause-fresh
returns-clause-fresh c = let s = c.in_ok-parts.parts in let table = c.in_ok-locks.locks.table.shared.table_id in
    subst (λ (z : Setup). AreFresh z table c.in_ok-locks.passes.list.items) c.in_ok-parts.ensures
    (fresh s table (length (owns_from s 0 s.cpus)) c.in_ok-locks.passes.list.items (many_owns s 0 s.cpus) c.in_ok-locks.ensures.passes)
