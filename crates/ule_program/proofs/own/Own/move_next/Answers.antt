-- The high CPU that the plan keeps is there.
use Rattle.ule_program.proofs.own.Own.move_next.Goals as goal

pub plan_next-pair-requires-clause-kept : goal.plan_next-pair-requires-clause-kept
plan_next-pair-requires-clause-kept c = λ high is. (c.requires.sound high is).0
