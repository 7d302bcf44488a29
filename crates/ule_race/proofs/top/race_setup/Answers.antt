use Rattle.std.proofs.Common.{subst}
use Rattle.ule_task.specs.Writing.{Wrote}
use Rattle.ule_trace.specs.Trace.{trace_text}
use Rattle.ule_types.specs.Outcome.{OutcomeValue}
use Rattle.ule_race.specs.Race.{gave}
use Rattle.ule_race.proofs.top.race_setup.Goals as goal

pub returns : goal.returns
returns g c =
    gave c.in-Ok.closed c.in-Ok.ensures
    (subst (λ (o : OutcomeValue). Wrote (g.K.Sink.state c.args.out.now) (g.K.Sink.state c.finish-status.new.out) (trace_text o) 0 c.finish-status.result) c.outcome.ensures.same
    (c.finish-status.ensures _ _ c.write_trace-written.ensures))
    (record { done = c.kept_at.ensures.done; fault = c.kept_at.ensures.fault })
