use Rattle.std.proofs.Common.{◌≡◌, [], None}
use Rattle.ule_micro.specs.Standings.{asks}
use Rattle.ule_smp.proofs.Goings.{Goes}
use Rattle.ule_smp.proofs.course.run.Given as goal

abbrev pub invariant-loop : goal.invariant-loop
invariant-loop g l = Goes (g.P.Parts.means l.fn.locks.parts) l.fn.c l.fn.p l.answer l.p (asks l.last) × (l.p.worker.held ≡ []) × (l.p.worker.pending ≡ None)
