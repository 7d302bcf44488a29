use Rattle.std.proofs.Common.{ℕ, List, subst, refl}
use Rattle.ule_task.specs.Input.{unmade, written}
use Rattle.ule_task.specs.Writing.{Wrote}
use Rattle.ule_top.proofs.RunLaws.{trace_of}
use Rattle.ule_top.proofs.rounds.play_setup.Goals as goal

pub returns-in-Ok : goal.returns-in-Ok
returns-in-Ok g c =
    written (subst (λ (text : List ℕ). Wrote (g.K.Sink.state c.args.out.now) (g.K.Sink.state c.finish.new.out) text 0 c.finish.result)
    (trace_of c.args.setup.now c.in-Ok.outcome c.in-Ok.ensures) (c.finish.ensures _ _ c.write_trace-written.ensures))

pub returns-in-Err : goal.returns-in-Err
returns-in-Err g c = unmade refl refl
