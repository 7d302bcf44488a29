use Rattle.std.proofs.Common.{refl, sym, subst, length, ◌≤◌}
use Rattle.std.proofs.lemmas.Option.{same_Some}
use Rattle.ule_micro.specs.Means.{budgets}
use Rattle.ule_parts.specs.Scheduler.{budget_of, sched_means}
use Rattle.ule_parts.specs.Workers.{owns_from}
use Rattle.ule_parts.proofs.Orders.{many_owns}
use Rattle.ule_words.specs.Ends.{AreBack}
use Rattle.ule_smp.specs.Smp.{SmpValue}
use Rattle.ule_smp.proofs.Closing.{closed_as}
use Rattle.ule_smp.proofs.Legality.{are_back}
use Rattle.ule_smp.proofs.smp.Smp.close.Goals as goal

-- src/close.rt:47:9
pub close-requires-clause-there : goal.close-requires-clause-there
close-requires-clause-there c = (c.self.inside.locks, refl)

-- src/close.rt:47:9
pub close-requires-clause-back : goal.close-requires-clause-back
close-requires-clause-back c l is = subst (λ k. AreBack (sched_means k.parts) k.table.shared.table_id c.args.passes.list.items) (same_Some c.self.inside.locks l is)
    (subst (λ (z : SmpValue). AreBack (sched_means z.setup) z.table c.args.passes.list.items) (sym c.self.view_is)
    (are_back c.args.self.setup c.args.self.table c.requires.done.0 c.args.passes.list.items c.requires.done.1))

-- src/close.rt:47:9
pub close-requires-clause-room : goal.close-requires-clause-room
close-requires-clause-room c l is = subst (λ k. budgets (budget_of k.parts) (length (owns_from k.parts 0 k.parts.cpus)) ≤ c.args.out.room) (same_Some c.self.inside.locks l is)
    (subst (λ (z : SmpValue). budgets (budget_of z.setup) (length (owns_from z.setup 0 z.setup.cpus)) ≤ c.args.out.room) (sym c.self.view_is)
    (subst (λ n. budgets (budget_of c.args.self.setup) n ≤ c.args.out.room) (sym (many_owns c.args.self.setup 0 c.args.self.setup.cpus)) c.requires.room.room))

-- src/close.rt:39:5
pub returns : goal.returns
returns c lists done = closed_as (record { setup = c.self.inside.locks.parts; table = c.self.inside.locks.table.shared.table_id }) c.args.self c.self.view_is lists c.args.passes.list.items done c.args.out c.close.new.out c.requires.room
    (c.close.ensures.told c.self.inside.locks refl)

-- src/close.rt:53:9
pub invariant_of-result : goal.invariant_of-result
invariant_of-result c = record {
  setup = c.args.self.setup;
  table = c.args.self.table;
  lists = c.requires.done.0;
  passes = c.args.passes.list.items;
  done = c.requires.done.1;
  closed = closed_as (record { setup = c.self.inside.locks.parts; table = c.self.inside.locks.table.shared.table_id }) c.args.self c.self.view_is c.requires.done.0 c.args.passes.list.items c.requires.done.1 c.args.out c.close.new.out c.requires.room
      (c.close.ensures.told c.self.inside.locks refl);
}
