use Rattle.std.proofs.Common.{◌++◌, drop, map}
use Rattle.ule_trace.proofs.Progress.{Holds}
use Rattle.ule_trace.specs.Line.{lines_text}
use Rattle.ule_plain.specs.Commands.{command_words}
use Rattle.ule_plain.proofs.section.write_commands.Given as goal

-- the lines so far are spelled, and the others are left
abbrev pub invariant-loop-c : goal.invariant-loop-c
invariant-loop-c g l =
    Holds (g.K.Sink.state l.fn.out) (g.K.Sink.state l.out) l.held (lines_text (map command_words (drop l.c-index l.commands))) (l.fn.held ++ lines_text (map command_words l.commands))
