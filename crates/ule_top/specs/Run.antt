-- What the task `run` promises: it reads a scenario, plays it in rounds, and writes the trace.
use Rattle.std.specs.Prelude.{◌≡◌, ℕ, ◌<◌, true, List, Some}
use Rattle.std.specs.List.{AllByRecursion}
use Rattle.ule_io.specs.Counter.{one_more}
use Rattle.ule_io.specs.Sink.{Appends, SinkState}
use Rattle.ule_io.specs.Source.{ReadsWhole, SourceState}
use Rattle.ule_model.specs.Ends.{outcome_of}
use Rattle.ule_model.specs.History.{IsHistoryOf}
use Rattle.ule_model.specs.Places.{lock_of}
use Rattle.ule_model.specs.Rounds.{play_of}
use Rattle.ule_scenario.specs.Scenario.{Spells}
use Rattle.ule_task.specs.Input.{Reads}
use Rattle.ule_task.specs.Scenario.{one_text, scenario_intake, scenario_limit}
use Rattle.ule_trace.specs.Trace.{trace_text}
use Rattle.ule_types.specs.declared.outcome.ThreadLine.{ThreadLine}
use Rattle.ule_types.specs.declared.setup.Setup.{Setup}

-- the trace of a setup's history of rounds
abbrev pub rounds_text : Setup → List ℕ
rounds_text s = trace_text (outcome_of s s.scripts (play_of s).entries)

-- a thread's word names the lock of its place, and there is one
abbrev pub NamesItsLock : ThreadLine → Type 0
NamesItsLock line = (l : ℕ) × (line.word ≡ Some l) × (lock_of line.place ≡ Some l)

-- the headline for `run`: the whole input spells a setup; the trace of its history of rounds was written and flushed;
-- that history is legal and whole, and each thread's word names the lock of its place
pub record HasRun (s0 s1 : SourceState) (k0 k1 : SinkState) : Type 0 where
  pub input : List ℕ
  pub setup : Setup
  pub read : ReadsWhole s0 s1 scenario_limit input
  pub spelled : Spells input setup
  pub written : Appends k0.taken k1.taken (trace_text (outcome_of setup setup.scripts (play_of setup).entries))
  pub flushed : k1.flushed ≡ true
  pub one_flush : k1.flushes ≡ one_more k0.flushes
  pub history : IsHistoryOf setup (play_of setup)
  pub words : AllByRecursion NamesItsLock (outcome_of setup setup.scripts (play_of setup).entries).threads

-- what `run` comes to
pub record Runs (s0 s1 : SourceState) (k0 k1 : SinkState) (status : ℕ) : Type 0 where
  pub known : status < 6
  pub done : status ≡ 0 → HasRun s0 s1 k0 k1
  pub reads : Reads scenario_intake (one_text rounds_text) s0 s1 k0 k1 status
