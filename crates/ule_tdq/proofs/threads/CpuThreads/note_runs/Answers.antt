use Rattle.std.proofs.Common.{false, refl, arith}
use Rattle.ule_score.specs.Changes.{used}
use Rattle.ule_tdq.proofs.MovableLaws.{KeepsThreads-changed}
use Rattle.ule_tdq.proofs.threads.CpuThreads.note_runs.Goals as goal

pub invariant_of-self : goal.invariant_of-self
invariant_of-self c =
    KeepsThreads-changed c.self.inside _ c.args.t (used false c.args.now) (λ r. refl) (omega arith) c.self.invariant refl refl refl c.note_runs.ensures
