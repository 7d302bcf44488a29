use Rattle.std.proofs.Common.{map}
use Rattle.std.proofs.lemmas.Result.{err_from_is_err_and}
use Rattle.ule_trace.proofs.Progress.{failed}
use Rattle.ule_trace.specs.Line.{lines_text}
use Rattle.ule_plain.proofs.Sending.{unsent, line_spelled, lines_spelled}
use Rattle.ule_plain.specs.Commands.{command_words}
use Rattle.ule_plain.proofs.section.write_commands.Goals as goal

pub loop-c-init : goal.loop-c-init
loop-c-init g c = unsent (g.K.Sink.state c.args.out.now) c.args.held.now (lines_text (map command_words c.args.commands.now))

pub loop-c-preserved : goal.loop-c-preserved
loop-c-preserved g c =
    rw c.spell_command.ensures (line_spelled command_words c.args.commands.now c.loop-c.c-index c.c-item.result c.loop-c-test.true c.c-item.is c.loop-c.invariant c.in_ok-make_room.ensures.moved)

pub returns-in_err-make_room : goal.returns-in_err-make_room
returns-in_err-make_room g c =
    let p = err_from_is_err_and c.from_residual.result c.from_residual.ensures.1 in
    rw (p.1, p.2) (failed c.loop-c.invariant c.in_err-make_room.ensures.moved)

pub returns : goal.returns
returns g c = lines_spelled command_words c.args.commands.now c.loop-c.c-index c.loop-c-test.false c.loop-c.invariant
