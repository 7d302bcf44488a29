-- Which words name a task.
use Rattle.std.proofs.Common.{◌≡◌, ℕ, List, Some, None, refl, sym, ◌∙◌, subst}
use Rattle.ule_text.specs.Words.{Word}
use Rattle.ule_top.specs.Answers.{Answers, Performs}
use Rattle.ule_top.specs.Tasks.{task_of}
use Rattle.ule_top.specs.declared.task.Task.{Task}
use Rattle.ule_io.specs.Sink.{SinkState}
use Rattle.ule_io.specs.Source.{SourceState}

-- words that name no task are told by 1
pub answers_usage : (words : List Word) (s : SourceState) (k : SinkState) → task_of words ≡ None → Answers words s s k k 1
answers_usage words s k none = record {
  usage = λ e. none;
  usage_only = λ e. refl;
  untouched = λ e. (refl, refl);
  performed = λ task named. absurd (let both = sym none ∙ named in cc);
}

-- what a task comes to, whose status is another than 1, is what the words come to that name it
pub answers_task : (words : List Word) (task : Task) (s0 s1 : SourceState) (k0 k1 : SinkState) (status : ℕ) → task_of words ≡ Some task → (status ≡ 1 → ⊥) →
    Performs task s0 s1 k0 k1 status → Answers words s0 s1 k0 k1 status
answers_task words task s0 s1 k0 k1 status named other does = record {
  usage = λ e. absurd (other e);
  usage_only = λ none. absurd (let both = sym none ∙ named in cc);
  untouched = λ e. absurd (other e);
  performed = λ found is. subst (λ (t : Task). Performs t s0 s1 k0 k1 status) (some_same task found (sym named ∙ is)) does;
}
  where
    some_same : (a b : Task) → Some a ≡ Some b → a ≡ b
    some_same a b same = cc
