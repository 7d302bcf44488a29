use Rattle.ule_trace.proofs.Progress.{Holds}
use Rattle.ule_trace.proofs.Rest.{after_entries, after_threads, after_cpus}
use Rattle.ule_trace.specs.Trace.{trace_text}
use Rattle.ule_trace.proofs.trace.write_trace.Given as goal

abbrev pub invariant-loop-k : goal.invariant-loop-k
invariant-loop-k g l =
    Holds (g.K.Sink.state l.fn.out) (g.K.Sink.state l.out) l.held (after_entries l.o l.k) (trace_text l.o)

abbrev pub invariant-loop-line : goal.invariant-loop-line
invariant-loop-line g l =
    Holds (g.K.Sink.state l.fn.out) (g.K.Sink.state l.out) l.held (after_threads l.o l.line-index) (trace_text l.o)

abbrev pub invariant-loop-c : goal.invariant-loop-c
invariant-loop-c g l =
    Holds (g.K.Sink.state l.fn.out) (g.K.Sink.state l.out) l.held (after_cpus l.o l.c) (trace_text l.o)
