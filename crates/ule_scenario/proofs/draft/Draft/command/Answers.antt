use Rattle.std.proofs.Common.{◌<◌, arith, ◌∙◌, length}
use Rattle.std.proofs.lemmas.List.{length-set}
use Rattle.ule_scenario.proofs.Scripts.{charged_more, forks_grow, same_marks}
use Rattle.ule_scenario.proofs.draft.Draft.command.Goals as goal

pub invariant_of-self-2 : goal.invariant_of-self-2
invariant_of-self-2 c =
    let a = c.self.inside in
    let w = c.saturating_sub-worker.result in
    let there : w < length a.scripts = omega (arith, c.self.invariant.workers) in
    let grown = charged_more w a.cpus a.scripts c.args.c there in
    let charged = c.greatest-charge.ensures in
    record {
      queued = c.self.invariant.queued;
      waiting = c.self.invariant.waiting;
      forked = rw c.in_ok-push.ensures.ok (same_marks _ _ _ (forks_grow w a.scripts c.args.c there) (c.mark_fork.ensures _ c.self.invariant.forked));
      spent = rw c.in_ok-push.ensures.ok (omega (arith, c.self.invariant.spent, charged, grown));
      within = omega (arith, c.self.invariant.spent, charged);
      workers = rw c.in_ok-push.ensures.ok (length-set a.scripts _ _ ∙ c.self.invariant.workers);
      few_turns = c.self.invariant.few_turns;
      few_groups = c.self.invariant.few_groups;
      few_cpus = c.self.invariant.few_cpus;
      some_cpus = c.self.invariant.some_cpus;
      unplayed = λ early. absurd (omega (arith, early));
    }
