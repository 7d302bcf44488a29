-- The lines of the threads so far are set.
use Rattle.std.proofs.Common.{◌≡◌}
use Rattle.ule_seq.specs.Notes.{with_lines_under}
use Rattle.ule_seq.proofs.notes.set_lines.Given as goal

abbrev pub invariant-loop-t : goal.invariant-loop-t
invariant-loop-t l = l.out ≡ record l.fn.out { threads = with_lines_under l.v l.t l.fn.out.threads }
