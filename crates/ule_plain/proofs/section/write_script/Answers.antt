use Rattle.std.proofs.Common.{map, refl}
use Rattle.std.proofs.lemmas.Result.{err_from_is_err_and}
use Rattle.ule_trace.proofs.Progress.{failed, made_room, spelled}
use Rattle.ule_trace.specs.Line.{line_text, lines_text}
use Rattle.ule_plain.proofs.Sending.{unsent, last_sent}
use Rattle.ule_plain.specs.Commands.{command_words}
use Rattle.ule_plain.specs.Lines.{script_words}
use Rattle.ule_plain.specs.Text.{script_lines}
use Rattle.ule_plain.proofs.section.write_script.Goals as goal

pub returns-in_err-make_room : goal.returns-in_err-make_room
returns-in_err-make_room g c =
    let p = err_from_is_err_and c.from_residual.result c.from_residual.ensures.1 in
    let begun = unsent (g.K.Sink.state c.args.out.now) c.args.held.now (lines_text (script_lines c.args.worker c.args.commands.now)) in
    rw (p.1, p.2) (failed begun c.in_err-make_room.ensures.moved)

pub returns : goal.returns
returns g c =
    let all = lines_text (script_lines c.args.worker c.args.commands.now) in
    let rest = lines_text (map command_words c.args.commands.now) in
    let begun = unsent (g.K.Sink.state c.args.out.now) c.args.held.now all in
    let next = spelled (line_text (script_words c.args.worker)) rest (made_room begun c.in_ok-make_room.ensures.moved) refl in
    last_sent (g.K.Sink.state c.args.out.now) (g.K.Sink.state c.make_room.new.out) (g.K.Sink.state c.write_commands.new.out) c.spell_script.new.held c.write_commands.new.held c.args.held.now all rest c.write_commands.result
    (rw c.spell_script.ensures next) c.write_commands.ensures
