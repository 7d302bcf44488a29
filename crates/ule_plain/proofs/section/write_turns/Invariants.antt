use Rattle.std.proofs.Common.{◌++◌}
use Rattle.ule_trace.proofs.Progress.{Holds}
use Rattle.ule_trace.specs.Line.{lines_text}
use Rattle.ule_plain.proofs.Spelling.{turn_lines_from}
use Rattle.ule_plain.specs.Text.{turn_lines}
use Rattle.ule_plain.proofs.section.write_turns.Given as goal

-- the lines so far are spelled, and the others are left
abbrev pub invariant-loop-k : goal.invariant-loop-k
invariant-loop-k g l =
    Holds (g.K.Sink.state l.fn.out) (g.K.Sink.state l.out) l.held (lines_text (turn_lines_from l.k l.turns)) (l.fn.held ++ lines_text (turn_lines l.turns))
