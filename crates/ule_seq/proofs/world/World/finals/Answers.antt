-- The lines are those of each world that the scheduler shows.
use Rattle.std.proofs.Common.{ap, ◌∙◌}
use Rattle.ule_types.specs.Outcome.{OutcomeValue}
use Rattle.ule_seq.specs.Outcomes.{queue_lines}
use Rattle.ule_seq.proofs.FinalLaws.{final_lines}
use Rattle.ule_seq.proofs.world.World.finals.Goals as goal

pub returns : goal.returns
returns c =
    final_lines c.args.self.now c.args.out.now c.set_now.new.self c.args.now
    (c.set_now.ensures ∙ ap (λ (o : OutcomeValue). record o { now = c.args.now })
    (c.set_cpus.ensures ∙ ap (λ (o : OutcomeValue). record o { cpus = queue_lines c.args.self.now.values }) c.set_threads.ensures))
