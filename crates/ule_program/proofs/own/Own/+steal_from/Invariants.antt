-- Each group outward stands before the one that lies in it.
use Rattle.ule_program.proofs.own.Own.+steal_from.Given as goal

abbrev pub decreases-steal_from : goal.decreases-steal_from
decreases-steal_from l = l.g
