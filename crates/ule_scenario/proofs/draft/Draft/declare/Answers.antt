use Rattle.std.proofs.Common.{arith}
use Rattle.ule_scenario.proofs.Marks.{ids_grow}
use Rattle.ule_scenario.proofs.draft.Draft.declare.Goals as goal

pub invariant_of-self-2 : goal.invariant_of-self-2
invariant_of-self-2 c =
    record {
      queued = rw (c.in_ok-append.ensures.ok, ids_grow) (c.mark.ensures _ c.self.invariant.queued);
      waiting = c.self.invariant.waiting;
      forked = c.self.invariant.forked;
      spent = c.self.invariant.spent;
      within = c.self.invariant.within;
      workers = c.self.invariant.workers;
      few_cpus = c.self.invariant.few_cpus;
      some_cpus = c.self.invariant.some_cpus;
      few_turns = c.self.invariant.few_turns;
      few_groups = c.self.invariant.few_groups;
      unplayed = λ early. c.self.invariant.unplayed (omega (arith, early));
    }
