use Rattle.std.proofs.Common.{◌++◌, drop, take}
use Rattle.ule_trace.proofs.Progress.{Holds}
use Rattle.ule_trace.specs.Line.{lines_text}
use Rattle.ule_plain.specs.Text.{scripts_lines}
use Rattle.ule_plain.proofs.section.write_scripts.Given as goal

-- the scripts so far are spelled, and the others are left
abbrev pub invariant-loop-worker : goal.invariant-loop-worker
invariant-loop-worker g l =
    Holds (g.K.Sink.state l.fn.out) (g.K.Sink.state l.out) l.held (lines_text (scripts_lines l.worker (drop l.worker (take l.cpus l.scripts)))) (l.fn.held ++ lines_text (scripts_lines 0 (take l.cpus l.scripts)))
