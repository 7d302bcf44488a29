use Rattle.std.proofs.Common.{◌<◌, ◌+◌, ◌*◌, drop, length, ap, arith, length-take}
use Rattle.std.proofs.lemmas.Result.{err_from_is_err_and}
use Rattle.ule_trace.proofs.Progress.{failed, made_room, spelled}
use Rattle.ule_trace.specs.Line.{line_text, lines_text}
use Rattle.ule_plain.proofs.Sending.{unsent, all_sent}
use Rattle.ule_plain.proofs.Spelling.{turn_lines_from, next_turn_line, no_turn_line}
use Rattle.ule_plain.specs.Lines.{turns_words, turns_of_line}
use Rattle.ule_plain.specs.Text.{turn_lines, lines_of_turns}
use Rattle.ule_plain.proofs.section.write_turns.Goals as goal

pub loop-k-init : goal.loop-k-init
loop-k-init g c = unsent (g.K.Sink.state c.args.out.now) c.args.held.now (lines_text (turn_lines c.args.turns.now))

pub returns-in_err-make_room : goal.returns-in_err-make_room
returns-in_err-make_room g c =
    let p = err_from_is_err_and c.from_residual.result c.from_residual.ensures.1 in
    rw (p.1, p.2) (failed c.loop-k.invariant c.in_err-make_room.ensures.moved)

pub spell_turns-requires-clause-few : goal.spell_turns-requires-clause-few
spell_turns-requires-clause-few g c =
    omega (arith, ap length c.turns_of_line.ensures, length-take 64 (drop (64 * c.loop-k.k) c.args.turns.now))

pub loop-k-preserved : goal.loop-k-preserved
loop-k-preserved g c =
    let turns = c.args.turns.now in
    let k = c.loop-k.k in
    let within : k < lines_of_turns (length turns) = c.loop-k-test.true in
    rw (c.spell_turns.ensures, c.turns_of_line.ensures)
    (spelled (line_text (turns_words (turns_of_line turns k))) (lines_text (turn_lines_from (k + 1) turns)) (made_room c.loop-k.invariant c.in_ok-make_room.ensures.moved) (next_turn_line k turns within))

pub returns : goal.returns
returns g c = all_sent c.loop-k.invariant (no_turn_line c.loop-k.k c.args.turns.now c.loop-k-test.false)
