use Rattle.std.proofs.Common.{map, get_or, None}
use Rattle.std.proofs.lemmas.Result.{err_from_is_err_and}
use Rattle.std.proofs.lemmas.List.{get_or_default}
use Rattle.ule_topo.specs.declared.group.GroupLine.{GroupLine}
use Rattle.ule_trace.proofs.Progress.{failed}
use Rattle.ule_trace.specs.Line.{lines_text}
use Rattle.ule_plain.proofs.Sending.{unsent, line_spelled, lines_spelled}
use Rattle.ule_plain.specs.Lines.{group_words}
use Rattle.ule_plain.proofs.section.write_groups.Goals as goal

-- what a read past the end would give
abbrev blank : GroupLine
blank = record { id = 0; parent = None; cpus = 0 }

pub loop-g-init : goal.loop-g-init
loop-g-init g c = unsent (g.K.Sink.state c.args.out.now) c.args.held.now (lines_text (map group_words c.args.groups.now))

pub loop-g-preserved : goal.loop-g-preserved
loop-g-preserved g c =
    rw c.spell_group.ensures (line_spelled group_words c.args.groups.now c.loop-g.g-index (get_or c.args.groups.now c.loop-g.g-index blank) c.loop-g-test.true (get_or_default c.args.groups.now c.loop-g.g-index blank (get_or c.args.groups.now c.loop-g.g-index blank) c.loop-g-test.true) c.loop-g.invariant c.in_ok-make_room.ensures.moved)

pub returns-in_err-make_room : goal.returns-in_err-make_room
returns-in_err-make_room g c =
    let p = err_from_is_err_and c.from_residual.result c.from_residual.ensures.1 in
    rw (p.1, p.2) (failed c.loop-g.invariant c.in_err-make_room.ensures.moved)

pub returns : goal.returns
returns g c = lines_spelled group_words c.args.groups.now c.loop-g.g-index c.loop-g-test.false c.loop-g.invariant
