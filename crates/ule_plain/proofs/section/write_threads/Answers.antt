use Rattle.std.proofs.Common.{map}
use Rattle.std.proofs.lemmas.Result.{err_from_is_err_and}
use Rattle.ule_trace.proofs.Progress.{failed}
use Rattle.ule_trace.specs.Line.{lines_text}
use Rattle.ule_plain.proofs.Sending.{unsent, line_spelled, lines_spelled}
use Rattle.ule_plain.specs.Lines.{thread_words}
use Rattle.ule_plain.proofs.section.write_threads.Goals as goal

pub loop-t-init : goal.loop-t-init
loop-t-init g c = unsent (g.K.Sink.state c.args.out.now) c.args.held.now (lines_text (map thread_words c.args.threads.now))

pub loop-t-preserved : goal.loop-t-preserved
loop-t-preserved g c =
    rw c.spell_thread.ensures (line_spelled thread_words c.args.threads.now c.loop-t.t-index c.t-item.result c.loop-t-test.true c.t-item.is c.loop-t.invariant c.in_ok-make_room.ensures.moved)

pub returns-in_err-make_room : goal.returns-in_err-make_room
returns-in_err-make_room g c =
    let p = err_from_is_err_and c.from_residual.result c.from_residual.ensures.1 in
    rw (p.1, p.2) (failed c.loop-t.invariant c.in_err-make_room.ensures.moved)

pub returns : goal.returns
returns g c = lines_spelled thread_words c.args.threads.now c.loop-t.t-index c.loop-t-test.false c.loop-t.invariant
