use Rattle.std.proofs.Common.{refl, arith}
use Rattle.ule_score.specs.Changes.{after_running}
use Rattle.ule_tdq.proofs.MovableLaws.{KeepsThreads-changed}
use Rattle.ule_tdq.proofs.threads.CpuThreads.note_ran.Goals as goal

pub invariant_of-self : goal.invariant_of-self
invariant_of-self c =
    KeepsThreads-changed c.self.inside _ c.args.t (after_running c.args.now) (λ r. refl) (omega arith) c.self.invariant refl refl refl c.note_ran.ensures
