use Rattle.std.proofs.Common.{sym, ◌∙◌}
use Rattle.std.proofs.lemmas.Result.{err_from_is_err_and}
use Rattle.ule_trace.proofs.Progress.{failed, made_room, spelled}
use Rattle.ule_trace.specs.Line.{line_text, lines_text}
use Rattle.ule_plain.proofs.Sending.{unsent, all_sent, last_sent}
use Rattle.ule_plain.proofs.Spelling.{no_weave, some_weave}
use Rattle.ule_plain.specs.Lines.{weave_words}
use Rattle.ule_plain.specs.Text.{turn_lines, weave_lines}
use Rattle.ule_plain.proofs.section.write_weave.Goals as goal

pub returns-then-is_empty : goal.returns-then-is_empty
returns-then-is_empty g c =
    let turns = c.args.turns.now in
    all_sent (unsent (g.K.Sink.state c.args.out.now) c.args.held.now (lines_text (weave_lines turns))) (no_weave turns (sym c.is_empty.ensures ∙ c.if-is_empty.true))

pub returns-in_err-make_room : goal.returns-in_err-make_room
returns-in_err-make_room g c =
    let p = err_from_is_err_and c.from_residual.result c.from_residual.ensures.1 in
    let begun = unsent (g.K.Sink.state c.args.out.now) c.args.held.now (lines_text (weave_lines c.args.turns.now)) in
    rw (p.1, p.2) (failed begun c.in_err-make_room.ensures.moved)

pub returns : goal.returns
returns g c =
    let turns = c.args.turns.now in
    let all = lines_text (weave_lines turns) in
    let rest = lines_text (turn_lines turns) in
    let begun = unsent (g.K.Sink.state c.args.out.now) c.args.held.now all in
    let next = spelled (line_text weave_words) rest (made_room begun c.in_ok-make_room.ensures.moved) (some_weave turns (sym c.is_empty.ensures ∙ c.if-is_empty.false)) in
    last_sent (g.K.Sink.state c.args.out.now) (g.K.Sink.state c.make_room.new.out) (g.K.Sink.state c.write_turns.new.out) c.text.new.self c.write_turns.new.held c.args.held.now all rest c.write_turns.result
    (rw c.text.ensures next) c.write_turns.ensures
