-- The innermost group of the worker's CPU has it.
use Rattle.std.proofs.Common.{sym, subst}
use Rattle.ule_program.specs.Hearing.{IsGroupOf}
use Rattle.ule_program.proofs.GroupLaws.{deepest_group}
use Rattle.ule_program.proofs.own.Own.steal_if_idle.Goals as goal

pub steal_from-requires-clause-group : goal.steal_from-requires-clause-group
steal_from-requires-clause-group c =
    let own = c.args.self.now in
    subst (IsGroupOf own.worker own.topology) (sym c.deepest-g.ensures.place) (deepest_group own.topology own.worker c.requires.seat)
