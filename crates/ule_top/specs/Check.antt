-- What the task `check` promises: it reads a scenario and a trace right behind it, and writes the verdict on the trace.
use Rattle.std.specs.Prelude.{◌≡◌, ℕ, ◌<◌, nat_lt, if◌then◌else◌, List, length, take, drop, Result, Ok, Err}
use Rattle.ule_check.specs.Judged.{judged}
use Rattle.ule_check.specs.Laws.{TellsWhole}
use Rattle.ule_check.specs.declared.verdicts.Fault.{Fault}
use Rattle.ule_check.specs.declared.verdicts.Verdict.{Verdict}
use Rattle.ule_check.specs.declared.verdicts.Verdict.TheVariants.{Legal, Illegal}
use Rattle.ule_io.specs.Sink.{SinkState}
use Rattle.ule_io.specs.Source.{ReadsWhole, SourceState}
use Rattle.ule_scenario.specs.Front.{front_length}
use Rattle.ule_scenario.specs.Reading.{Reading as ScenarioReading}
use Rattle.ule_scenario.specs.Scenario.{Spells as SpellsSetup, read_bytes as read_scenario, refused}
use Rattle.ule_scenario.specs.declared.reason.Refusal.{Refusal}
use Rattle.ule_task.specs.Input.{Gave, GivesSetup, HasInput, Intake, IsToldAs, IsUnread, Reads, Tells, Told, the_one}
use Rattle.ule_task.specs.declared.input.Unread.{Unread}
use Rattle.ule_top.specs.VerdictLine.{bad_text, verdict_text}
use Rattle.ule_task.specs.Writing.{HasWritten, Wrote}
use Rattle.ule_trace.specs.Reading.{Reading, Spells, read_bytes as read_trace}
use Rattle.ule_trace.specs.declared.fault.TraceFault.{TraceFault}
use Rattle.ule_trace.specs.declared.fault.TraceFault.TheVariants.{Bad, Memory}
use Rattle.ule_types.specs.Outcome.{OutcomeValue}
use Rattle.ule_types.specs.declared.setup.Setup.{Setup}

-- the most bytes that a scenario and its trace may have
abbrev pub input_limit : ℕ
input_limit = 16777216

-- the bytes of the scenario in an input, and those of the trace right behind it
abbrev pub scenario_in : List ℕ → List ℕ
scenario_in input = take (front_length input) input

abbrev pub trace_in : List ℕ → List ℕ
trace_in input = drop (front_length input) input

-- what is told of an input: one that is too long is refused before all else
abbrev pub check_told : List ℕ → Result ScenarioReading Refusal
check_told input = if nat_lt input_limit (length input) then refused 0 5 else read_scenario (scenario_in input)

-- what the lines of a trace give
abbrev pub outcome_in : Reading → OutcomeValue
outcome_in r = record { entries = r.entries; threads = r.threads; cpus = r.cpus; now = r.now; room = 0 }

-- the status of a verdict
abbrev pub status_of : Verdict → ℕ
status_of Legal = 0
status_of (Illegal k why) = 6

-- what is due for a verdict on a trace with so many entries: its line with its status
abbrev pub verdict_told : ℕ → Verdict → Told
verdict_told count v = record { status = status_of v; text = verdict_text count v }

-- what is due for what a text behind the scenario of a setup was read as: the verdict on the trace, or the line at which it is none, with 6
abbrev pub trace_told : Setup → Result Reading ℕ → Told
trace_told s (Ok r) = verdict_told (length r.entries) (judged s (outcome_in r))
trace_told s (Err line) = record { status = 6; text = bad_text line }

-- the input begins with a scenario
abbrev pub check_intake : Intake
check_intake = record { limit = input_limit; told = λ input. check_told input }

-- what is due for an input that gives a setup: the verdict on the trace behind its scenario
abbrev pub check_due : List ℕ → Setup → Told
check_due input s = trace_told s (read_trace (trace_in input))

-- the headline for `check`: the whole input is a scenario and a trace right behind it; that trace is of a whole legal history of the scenario, and of
-- its end; the line `legal` with the number of its entries was written and flushed
pub record HasChecked (s0 s1 : SourceState) (k0 k1 : SinkState) : Type 0 where
  pub input : List ℕ
  pub setup : Setup
  pub outcome : OutcomeValue
  pub read : ReadsWhole s0 s1 input_limit input
  pub scenario : SpellsSetup (scenario_in input) setup
  pub trace : Spells (trace_in input) outcome
  pub whole : TellsWhole setup outcome
  pub wrote : HasWritten k0 k1 (verdict_text (length outcome.entries) Legal)

-- why a trace was denied: the text behind the scenario is no trace, or it is one that is judged illegal; the line that tells so
pub data Denial (s : Setup) (trace text : List ℕ) : Type 0 where
  bad : (line : ℕ) → read_trace trace ≡ Err line → text ≡ bad_text line → Denial s trace text
  illegal : (o : OutcomeValue) (k : ℕ) (why : Fault) → Spells trace o → judged s o ≡ Illegal k why → text ≡ verdict_text (length o.entries) (Illegal k why) → Denial s trace text

-- the whole input begins with a scenario, and the text right behind it is not the trace of a whole legal history of it; the line that tells why was
-- written and flushed
pub record HasDenied (s0 s1 : SourceState) (k0 k1 : SinkState) : Type 0 where
  pub input : List ℕ
  pub setup : Setup
  pub text : List ℕ
  pub read : ReadsWhole s0 s1 input_limit input
  pub scenario : SpellsSetup (scenario_in input) setup
  pub no_whole : (o : OutcomeValue) → Spells (trace_in input) o → TellsWhole setup o → ⊥
  pub denial : Denial setup (trace_in input) text
  pub wrote : HasWritten k0 k1 text

-- what `check` comes to
pub record Checks (s0 s1 : SourceState) (k0 k1 : SinkState) (status : ℕ) : Type 0 where
  pub known : status < 7
  pub done : status ≡ 0 → HasChecked s0 s1 k0 k1
  pub denied : status ≡ 6 → HasDenied s0 s1 k0 k1
  pub reads : Reads check_intake (the_one check_due) s0 s1 k0 k1 status

-- ---- the parts of the answer

-- reading comes to the whole input, or to why there is none
abbrev pub IsInput : SourceState → SourceState → Result (List ℕ) Unread → Type 0
IsInput s0 s1 (Ok input) = HasInput check_intake s0 s1 input
IsInput s0 s1 (Err why) = IsUnread check_intake s0 s1 why

-- the status that tells why a text was read as no trace
abbrev pub TellsFault : TraceFault → SinkState → SinkState → ℕ → Type 0
TellsFault (Bad line) k0 k1 status = Wrote k0 k1 (bad_text line) 6 status
TellsFault Memory k0 k1 status = (status ≡ 5) × (k1 ≡ k0)

-- what an input comes to: what is due for the setup that it gives was written, or it is told why there is none
pub data InputGave (input : List ℕ) (k0 k1 : SinkState) (status : ℕ) : Type 0 where
  gave : (s : Setup) → GivesSetup check_intake input s → Gave (check_due input s) k0 k1 status → InputGave input k0 k1 status
  told : (why : Unread) → IsToldAs (Err why) (check_told input) → Tells why k0 k1 status → InputGave input k0 k1 status
