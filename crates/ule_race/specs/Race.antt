-- What the top call of a race promises: it reads a scenario, races its workers, and writes the trace of the history that they made.
use Rattle.std.specs.Prelude.{◌≡◌, ◌≢◌, ℕ, ◌<◌, Bool, true, false, List, [], ◌∷◌, Option, Some, None, codes, bytes_eq}
use Rattle.ule_io.specs.Counter.{one_more}
use Rattle.ule_io.specs.Sink.{Appends, SinkState}
use Rattle.ule_io.specs.Source.{ReadsWhole, SourceState}
use Rattle.ule_scenario.specs.Scenario.{Spells}
use Rattle.ule_smp.specs.Ends.{IsWholeOutcome}
use Rattle.ule_task.specs.Input.{Reads}
use Rattle.ule_task.specs.Scenario.{scenario_intake, scenario_limit, text_alone}
use Rattle.ule_task.specs.Writing.{Wrote}
use Rattle.ule_text.specs.Words.{Word}
use Rattle.ule_trace.specs.Trace.{trace_text}
use Rattle.ule_types.specs.Outcome.{OutcomeValue}
use Rattle.ule_types.specs.declared.setup.Setup.{Setup}

-- whether words are the one word `race`
abbrev pub is_race : List Word → Bool
is_race [] = false
is_race (name ∷ []) = bytes_eq name (codes "race")
is_race (name ∷ other ∷ more) = false

-- a text is the trace of a whole outcome of the setup's scripts
abbrev pub IsRaceText : Setup → List ℕ → Type 0
IsRaceText s text = (o : OutcomeValue) × IsWholeOutcome s s.scripts o × (text ≡ trace_text o)

-- the headline for `race`: the whole input spells a setup; the history that its workers made was kept, and its trace was written and flushed;
-- it is whole and legal for the setup's scripts, and keeps the calendar promise, and the final lines are those of its end
pub record HasRaced (s0 s1 : SourceState) (k0 k1 : SinkState) (kept : Option OutcomeValue) : Type 0 where
  pub input : List ℕ
  pub setup : Setup
  pub outcome : OutcomeValue
  pub read : ReadsWhole s0 s1 scenario_limit input
  pub spelled : Spells input setup
  pub keeps : kept ≡ Some outcome
  pub whole : IsWholeOutcome setup setup.scripts outcome
  pub written : Appends k0.taken k1.taken (trace_text outcome)
  pub flushed : k1.flushed ≡ true
  pub one_flush : k1.flushes ≡ one_more k0.flushes

-- what `race` comes to
pub record Races (s0 s1 : SourceState) (k0 k1 : SinkState) (status : ℕ) (kept : Option OutcomeValue) : Type 0 where
  pub known : status < 6
  pub done : status ≡ 0 → HasRaced s0 s1 k0 k1 kept
  pub none_kept : status ≢ 0 → kept ≡ None
  pub reads : Reads scenario_intake (text_alone IsRaceText) s0 s1 k0 k1 status

-- what the words come to
pub record Answers (words : List Word) (s0 s1 : SourceState) (k0 k1 : SinkState) (kept : Option OutcomeValue) (status : ℕ) : Type 0 where
  -- 1 exactly where the words are others, and nothing is read or written then
  pub usage : status ≡ 1 → is_race words ≡ false
  pub usage_only : is_race words ≡ false → status ≡ 1
  pub untouched : status ≡ 1 → (s1 ≡ s0) × (k1 ≡ k0) × (kept ≡ None)
  -- every other status by the race
  pub raced : is_race words ≡ true → Races s0 s1 k0 k1 status kept

-- ---- the parts of the answer

-- what is kept of an outcome: itself, where its trace was written with 0
pub record IsKept (status : ℕ) (o : OutcomeValue) (kept : Option OutcomeValue) : Type 0 where
  pub done : status ≡ 0 → kept ≡ Some o
  pub fault : status ≢ 0 → kept ≡ None

-- what a setup comes to: the trace of a whole outcome was written, or a front of it, or there was no memory
pub data GaveRace (s : Setup) (k0 k1 : SinkState) (status : ℕ) (kept : Option OutcomeValue) : Type 0 where
  gave : (o : OutcomeValue) → IsWholeOutcome s s.scripts o → Wrote k0 k1 (trace_text o) 0 status → IsKept status o kept → GaveRace s k0 k1 status kept
  unmade : status ≡ 5 → k1 ≡ k0 → kept ≡ None → GaveRace s k0 k1 status kept
