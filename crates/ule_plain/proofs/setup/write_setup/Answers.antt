use Rattle.std.proofs.Common.{[], map, take, refl}
use Rattle.std.proofs.lemmas.Result.{err_from_is_err_and}
use Rattle.ule_trace.proofs.Progress.{failed, finished, made_room, spelled}
use Rattle.ule_trace.specs.Line.{lines_text}
use Rattle.ule_plain.proofs.Sections.{lines_behind_groups, lines_behind_threads, lines_behind_unborn, lines_behind_scripts, lines_behind_turns, opening_spelled, groups_cut, threads_cut, unborn_cut, scripts_cut, turns_cut}
use Rattle.ule_plain.proofs.Sending.{section_sent, section_failed}
use Rattle.ule_plain.specs.Lines.{group_words, thread_words, unborn_words}
use Rattle.ule_plain.specs.Text.{scripts_lines, weave_lines}
use Rattle.ule_plain.proofs.setup.write_setup.Goals as goal

pub returns-in_err-write_groups : goal.returns-in_err-write_groups
returns-in_err-write_groups g c =
    let s = c.args.s.now in
    let opened = opening_spelled (g.K.Sink.state c.args.out.now) s c.new-held.result c.spell_opening.new.held c.new-held.ensures c.spell_opening.ensures in
    let p = err_from_is_err_and c.from_residual.result c.from_residual.ensures.1 in
    rw (p.1, p.2) (section_failed (lines_text (map group_words c.as_slice.result.now)) (lines_text (lines_behind_groups s)) opened (groups_cut s c.as_slice.result.now c.as_slice.ensures) c.in_err-write_groups.ensures)

pub returns-in_err-write_threads : goal.returns-in_err-write_threads
returns-in_err-write_threads g c =
    let s = c.args.s.now in
    let opened = opening_spelled (g.K.Sink.state c.args.out.now) s c.new-held.result c.spell_opening.new.held c.new-held.ensures c.spell_opening.ensures in
    let groups = section_sent (lines_text (map group_words c.as_slice.result.now)) (lines_text (lines_behind_groups s)) opened (groups_cut s c.as_slice.result.now c.as_slice.ensures) c.in_ok-write_groups.ensures in
    let p = err_from_is_err_and c.from_residual-in_err-write_threads.result c.from_residual-in_err-write_threads.ensures.1 in
    rw (p.1, p.2) (section_failed (lines_text (map thread_words c.as_slice-2.result.now)) (lines_text (lines_behind_threads s)) groups (threads_cut s c.as_slice-2.result.now c.as_slice-2.ensures) c.in_err-write_threads.ensures)

pub returns-in_err-write_unborn : goal.returns-in_err-write_unborn
returns-in_err-write_unborn g c =
    let s = c.args.s.now in
    let opened = opening_spelled (g.K.Sink.state c.args.out.now) s c.new-held.result c.spell_opening.new.held c.new-held.ensures c.spell_opening.ensures in
    let groups = section_sent (lines_text (map group_words c.as_slice.result.now)) (lines_text (lines_behind_groups s)) opened (groups_cut s c.as_slice.result.now c.as_slice.ensures) c.in_ok-write_groups.ensures in
    let threads = section_sent (lines_text (map thread_words c.as_slice-2.result.now)) (lines_text (lines_behind_threads s)) groups (threads_cut s c.as_slice-2.result.now c.as_slice-2.ensures) c.in_ok-write_threads.ensures in
    let p = err_from_is_err_and c.from_residual-in_err-write_unborn.result c.from_residual-in_err-write_unborn.ensures.1 in
    rw (p.1, p.2) (section_failed (lines_text (map unborn_words c.as_slice-3.result.now)) (lines_text (lines_behind_unborn s)) threads (unborn_cut s c.as_slice-3.result.now c.as_slice-3.ensures) c.in_err-write_unborn.ensures)

pub returns-in_err-write_scripts : goal.returns-in_err-write_scripts
returns-in_err-write_scripts g c =
    let s = c.args.s.now in
    let opened = opening_spelled (g.K.Sink.state c.args.out.now) s c.new-held.result c.spell_opening.new.held c.new-held.ensures c.spell_opening.ensures in
    let groups = section_sent (lines_text (map group_words c.as_slice.result.now)) (lines_text (lines_behind_groups s)) opened (groups_cut s c.as_slice.result.now c.as_slice.ensures) c.in_ok-write_groups.ensures in
    let threads = section_sent (lines_text (map thread_words c.as_slice-2.result.now)) (lines_text (lines_behind_threads s)) groups (threads_cut s c.as_slice-2.result.now c.as_slice-2.ensures) c.in_ok-write_threads.ensures in
    let unborn = section_sent (lines_text (map unborn_words c.as_slice-3.result.now)) (lines_text (lines_behind_unborn s)) threads (unborn_cut s c.as_slice-3.result.now c.as_slice-3.ensures) c.in_ok-write_unborn.ensures in
    let p = err_from_is_err_and c.from_residual-in_err-write_scripts.result c.from_residual-in_err-write_scripts.ensures.1 in
    rw (p.1, p.2) (section_failed (lines_text (scripts_lines 0 (take s.cpus s.scripts))) (lines_text (lines_behind_scripts s)) unborn (scripts_cut s) c.in_err-write_scripts.ensures)

pub returns-in_err-write_weave : goal.returns-in_err-write_weave
returns-in_err-write_weave g c =
    let s = c.args.s.now in
    let opened = opening_spelled (g.K.Sink.state c.args.out.now) s c.new-held.result c.spell_opening.new.held c.new-held.ensures c.spell_opening.ensures in
    let groups = section_sent (lines_text (map group_words c.as_slice.result.now)) (lines_text (lines_behind_groups s)) opened (groups_cut s c.as_slice.result.now c.as_slice.ensures) c.in_ok-write_groups.ensures in
    let threads = section_sent (lines_text (map thread_words c.as_slice-2.result.now)) (lines_text (lines_behind_threads s)) groups (threads_cut s c.as_slice-2.result.now c.as_slice-2.ensures) c.in_ok-write_threads.ensures in
    let unborn = section_sent (lines_text (map unborn_words c.as_slice-3.result.now)) (lines_text (lines_behind_unborn s)) threads (unborn_cut s c.as_slice-3.result.now c.as_slice-3.ensures) c.in_ok-write_unborn.ensures in
    let scripts = section_sent (lines_text (scripts_lines 0 (take s.cpus s.scripts))) (lines_text (lines_behind_scripts s)) unborn (scripts_cut s) c.in_ok-write_scripts.ensures in
    let p = err_from_is_err_and c.from_residual-in_err-write_weave.result c.from_residual-in_err-write_weave.ensures.1 in
    rw (p.1, p.2) (section_failed (lines_text (weave_lines c.as_slice-4.result.now)) (lines_text lines_behind_turns) scripts (turns_cut s c.as_slice-4.result.now c.as_slice-4.ensures) c.in_err-write_weave.ensures)

pub returns-in_err-make_room : goal.returns-in_err-make_room
returns-in_err-make_room g c =
    let s = c.args.s.now in
    let opened = opening_spelled (g.K.Sink.state c.args.out.now) s c.new-held.result c.spell_opening.new.held c.new-held.ensures c.spell_opening.ensures in
    let groups = section_sent (lines_text (map group_words c.as_slice.result.now)) (lines_text (lines_behind_groups s)) opened (groups_cut s c.as_slice.result.now c.as_slice.ensures) c.in_ok-write_groups.ensures in
    let threads = section_sent (lines_text (map thread_words c.as_slice-2.result.now)) (lines_text (lines_behind_threads s)) groups (threads_cut s c.as_slice-2.result.now c.as_slice-2.ensures) c.in_ok-write_threads.ensures in
    let unborn = section_sent (lines_text (map unborn_words c.as_slice-3.result.now)) (lines_text (lines_behind_unborn s)) threads (unborn_cut s c.as_slice-3.result.now c.as_slice-3.ensures) c.in_ok-write_unborn.ensures in
    let scripts = section_sent (lines_text (scripts_lines 0 (take s.cpus s.scripts))) (lines_text (lines_behind_scripts s)) unborn (scripts_cut s) c.in_ok-write_scripts.ensures in
    let weave = section_sent (lines_text (weave_lines c.as_slice-4.result.now)) (lines_text lines_behind_turns) scripts (turns_cut s c.as_slice-4.result.now c.as_slice-4.ensures) c.in_ok-write_weave.ensures in
    let p = err_from_is_err_and c.from_residual-in_err-make_room.result c.from_residual-in_err-make_room.ensures.1 in
    rw (p.1, p.2) (failed weave c.in_err-make_room.ensures.moved)

pub returns : goal.returns
returns g c =
    let s = c.args.s.now in
    let opened = opening_spelled (g.K.Sink.state c.args.out.now) s c.new-held.result c.spell_opening.new.held c.new-held.ensures c.spell_opening.ensures in
    let groups = section_sent (lines_text (map group_words c.as_slice.result.now)) (lines_text (lines_behind_groups s)) opened (groups_cut s c.as_slice.result.now c.as_slice.ensures) c.in_ok-write_groups.ensures in
    let threads = section_sent (lines_text (map thread_words c.as_slice-2.result.now)) (lines_text (lines_behind_threads s)) groups (threads_cut s c.as_slice-2.result.now c.as_slice-2.ensures) c.in_ok-write_threads.ensures in
    let unborn = section_sent (lines_text (map unborn_words c.as_slice-3.result.now)) (lines_text (lines_behind_unborn s)) threads (unborn_cut s c.as_slice-3.result.now c.as_slice-3.ensures) c.in_ok-write_unborn.ensures in
    let scripts = section_sent (lines_text (scripts_lines 0 (take s.cpus s.scripts))) (lines_text (lines_behind_scripts s)) unborn (scripts_cut s) c.in_ok-write_scripts.ensures in
    let weave = section_sent (lines_text (weave_lines c.as_slice-4.result.now)) (lines_text lines_behind_turns) scripts (turns_cut s c.as_slice-4.result.now c.as_slice-4.ensures) c.in_ok-write_weave.ensures in
    let last = spelled (lines_text lines_behind_turns) [] (made_room weave c.in_ok-make_room.ensures.moved) refl in
    finished (rw c.text.ensures last) (rw c.as_slice-5.ensures at c.write_all.ensures.wrote)
