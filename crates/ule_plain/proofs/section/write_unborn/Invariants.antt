use Rattle.std.proofs.Common.{◌++◌, drop, map}
use Rattle.ule_trace.proofs.Progress.{Holds}
use Rattle.ule_trace.specs.Line.{lines_text}
use Rattle.ule_plain.specs.Lines.{unborn_words}
use Rattle.ule_plain.proofs.section.write_unborn.Given as goal

-- the lines so far are spelled, and the others are left
abbrev pub invariant-loop-t : goal.invariant-loop-t
invariant-loop-t g l =
    Holds (g.K.Sink.state l.fn.out) (g.K.Sink.state l.out) l.held (lines_text (map unborn_words (drop l.t-index l.unborn))) (l.fn.held ++ lines_text (map unborn_words l.unborn))
