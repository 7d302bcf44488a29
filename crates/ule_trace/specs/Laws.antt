-- What a written trace is read as.
use Rattle.ule_trace.specs.Ranges.{OutcomeFits}
use Rattle.ule_trace.specs.Reading.{Spells}
use Rattle.ule_trace.specs.Trace.{trace_text}
use Rattle.ule_types.specs.Outcome.{OutcomeValue}

-- the trace of an outcome in the ranges spells its entries and final lines
abbrev pub WrittenIsReadBack : Type 0
WrittenIsReadBack = (o : OutcomeValue) → OutcomeFits o → Spells (trace_text o) o
