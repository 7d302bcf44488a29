-- What `check` comes to on a scenario with the trace that `run` writes of it.
use Rattle.std.specs.Prelude.{◌≡◌, ℕ, ◌≤◌, true, List, [], ◌∷◌, ◌++◌, length, fold, Some, ◌⊎◌}
use Rattle.ule_check.specs.declared.verdicts.Verdict.TheVariants.{Legal}
use Rattle.ule_io.specs.Counter.{Rose}
use Rattle.ule_io.specs.Sink.{SinkState}
use Rattle.ule_io.specs.Source.{SourceState}
use Rattle.ule_model.specs.Rounds.{play_of}
use Rattle.ule_scenario.specs.Front.{after_front, front_length, no_front}
use Rattle.ule_scenario.specs.Scenario.{Spells}
use Rattle.ule_task.specs.Writing.{HasWritten}
use Rattle.ule_types.specs.Commands.{is_among}
use Rattle.ule_types.specs.declared.setup.Setup.{Setup}
use Rattle.ule_top.specs.Check.{Checks, input_limit}
use Rattle.ule_top.specs.Run.{rounds_text}
use Rattle.ule_top.specs.VerdictLine.{verdict_text}

-- the first line `end` of a scenario is the last of its text
pub record EndsAtEndLine (front : List ℕ) : Type 0 where
  pub ended : (fold after_front no_front front).ended ≡ true
  pub whole : front_length front ≡ length front

-- `check` finds the rounds of a setup legal: it ends in 0, with the line `legal` and the number of their entries; or in 5 for want of memory, or in 2
-- or 4 where a stream fails
pub record FindsLegal (s : Setup) (s0 s1 : SourceState) (k0 k1 : SinkState) (status : ℕ) : Type 0 where
  pub known : is_among (0 ∷ 2 ∷ 4 ∷ 5 ∷ []) status ≡ true
  pub legal : status ≡ 0 → HasWritten k0 k1 (verdict_text (length (play_of s).entries) Legal)
  pub read_fault : status ≡ 2 → Rose s0.faults s1.faults
  pub write_fault : status ≡ 4 → Rose k0.faults k1.faults ⊎ Rose k0.empty_takes k1.empty_takes

-- runs are found legal: what `check` comes to on a scenario with the trace of its rounds right behind it, within the limit
abbrev pub RunsAreFoundLegal : Type 0
RunsAreFoundLegal =
    (front : List ℕ) (s : Setup) (s0 s1 : SourceState) (k0 k1 : SinkState) (status : ℕ) → Spells front s → EndsAtEndLine front →
    s0.left ≡ Some (front ++ rounds_text s) → length (front ++ rounds_text s) ≤ input_limit → Checks s0 s1 k0 k1 status → FindsLegal s s0 s1 k0 k1 status
