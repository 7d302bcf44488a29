use Rattle.std.proofs.Common.{take}
use Rattle.std.proofs.lemmas.Result.{err_from_is_err_and}
use Rattle.ule_trace.specs.Line.{lines_text}
use Rattle.ule_plain.proofs.Sending.{unsent, section_sent, section_failed, all_sent}
use Rattle.ule_plain.proofs.Spelling.{next_script, no_script, scripts_behind}
use Rattle.ule_plain.specs.Text.{script_lines, scripts_lines}
use Rattle.ule_plain.proofs.section.write_scripts.Goals as goal

pub loop-worker-init : goal.loop-worker-init
loop-worker-init g c = unsent (g.K.Sink.state c.args.out.now) c.args.held.now (lines_text (scripts_lines 0 (take c.args.cpus c.args.scripts.now)))

pub returns-in_err-write_script : goal.returns-in_err-write_script
returns-in_err-write_script g c =
    let p = err_from_is_err_and c.from_residual.result c.from_residual.ensures.1 in
    let next = next_script c.loop-worker.worker c.args.cpus c.args.scripts.now c.commands_of.result.now c.loop-worker-test.true c.requires.within c.requires.workers c.commands_of.ensures in
    rw (p.1, p.2) (section_failed (lines_text (script_lines c.loop-worker.worker c.commands_of.result.now)) (scripts_behind (c.loop-worker.worker) c.args.cpus c.args.scripts.now) c.loop-worker.invariant next c.in_err-write_script.ensures)

pub loop-worker-preserved : goal.loop-worker-preserved
loop-worker-preserved g c =
    let next = next_script c.loop-worker.worker c.args.cpus c.args.scripts.now c.commands_of.result.now c.loop-worker-test.true c.requires.within c.requires.workers c.commands_of.ensures in
    section_sent (lines_text (script_lines c.loop-worker.worker c.commands_of.result.now)) (scripts_behind (c.loop-worker.worker) c.args.cpus c.args.scripts.now) c.loop-worker.invariant next c.in_ok-write_script.ensures

pub returns : goal.returns
returns g c = all_sent c.loop-worker.invariant (no_script c.loop-worker.worker c.args.cpus c.args.scripts.now c.loop-worker-test.false)
