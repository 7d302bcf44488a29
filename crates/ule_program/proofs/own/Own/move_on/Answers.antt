-- A plan that was told of a move stays sound.
use Rattle.std.proofs.Common.{sym, subst, arith}
use Rattle.ule_program.specs.Hearing.{IsPlanOf}
use Rattle.ule_program.proofs.FoundLaws.{plan_told_sound}
use Rattle.ule_program.proofs.own.Own.move_on.Goals as goal

pub move_next-requires-clause-sound : goal.move_next-requires-clause-sound
move_next-requires-clause-sound c =
    subst (IsPlanOf c.args.self.now.topology.cpus) (sym c.told.ensures.plan)
    (plan_told_sound c.args.self.now.topology.cpus c.args.low c.has_moved.result c.args.plan.now (omega (arith, c.requires.sound.there, c.requires.seat.few)) c.requires.sound.sound)
