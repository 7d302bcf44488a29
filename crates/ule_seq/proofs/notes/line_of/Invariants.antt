-- None of the lines so far is the thread's.
use Rattle.std.proofs.Common.{◌≡◌, ◌==◌, drop, find}
use Rattle.ule_seq.proofs.notes.line_of.Given as goal

abbrev pub invariant-loop-line : goal.invariant-loop-line
invariant-loop-line l = find (λ line. line.id == l.t) l.lines ≡ find (λ line. line.id == l.t) (drop l.line-index l.lines)
