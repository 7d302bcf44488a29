use Rattle.std.proofs.Common.{◌++◌, drop, map}
use Rattle.ule_trace.proofs.Progress.{Holds}
use Rattle.ule_trace.specs.Line.{lines_text}
use Rattle.ule_plain.specs.Lines.{group_words}
use Rattle.ule_plain.proofs.section.write_groups.Given as goal

-- the lines so far are spelled, and the others are left
abbrev pub invariant-loop-g : goal.invariant-loop-g
invariant-loop-g g l =
    Holds (g.K.Sink.state l.fn.out) (g.K.Sink.state l.out) l.held (lines_text (map group_words (drop l.g-index l.groups))) (l.fn.held ++ lines_text (map group_words l.groups))
