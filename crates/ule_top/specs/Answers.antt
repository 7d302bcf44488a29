-- What the top call promises: each exit status with its cause, by the task that the words name.
use Rattle.std.specs.Prelude.{◌≡◌, ℕ, List, Some, None}
use Rattle.ule_io.specs.Sink.{SinkState}
use Rattle.ule_io.specs.Source.{SourceState}
use Rattle.ule_text.specs.Words.{Word}
use Rattle.ule_top.specs.Check.{Checks}
use Rattle.ule_plain.specs.Text.{plain_text}
use Rattle.ule_top.specs.Making.{Makes}
use Rattle.ule_top.specs.Run.{Runs}
use Rattle.ule_top.specs.Summary.{summary_text}
use Rattle.ule_top.specs.Tasks.{task_of}
use Rattle.ule_top.specs.Weave.{Weaves}
use Rattle.ule_top.specs.declared.task.Task.{Task}
use Rattle.ule_top.specs.declared.task.Task.TheVariants.{Run, Weave, Check, Gen, Text}

-- what a task comes to
abbrev pub Performs : Task → SourceState → SourceState → SinkState → SinkState → ℕ → Type 0
Performs Run s0 s1 k0 k1 status = Runs s0 s1 k0 k1 status
Performs Weave s0 s1 k0 k1 status = Weaves s0 s1 k0 k1 status
Performs Check s0 s1 k0 k1 status = Checks s0 s1 k0 k1 status
Performs (Gen n) s0 s1 k0 k1 status = Makes n (summary_text n) s0 s1 k0 k1 status
Performs (Text n) s0 s1 k0 k1 status = Makes n plain_text s0 s1 k0 k1 status

-- what the words come to
pub record Answers (words : List Word) (s0 s1 : SourceState) (k0 k1 : SinkState) (status : ℕ) : Type 0 where
  -- 1 exactly where the words name no task, and nothing is read or written then
  pub usage : status ≡ 1 → task_of words ≡ None
  pub usage_only : task_of words ≡ None → status ≡ 1
  pub untouched : status ≡ 1 → (s1 ≡ s0) × (k1 ≡ k0)
  -- every other status by the task
  pub performed : (task : Task) → task_of words ≡ Some task → Performs task s0 s1 k0 k1 status
