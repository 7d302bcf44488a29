-- The program stays sound.
use Rattle.std.proofs.Common.{sym, subst, Some}
use Rattle.ule_program.specs.Hearing.{CanHear, IsSoundOwn}
use Rattle.ule_program.proofs.SoundLaws.{next_sound}
use Rattle.ule_program.proofs.program.Program.hear.Goals as goal

pub invariant_of-self : goal.invariant_of-self
invariant_of-self c = subst IsSoundOwn (sym c.hear_reply.ensures.after)
    (next_sound (Some (c.args.reply.now, c.args.now)) c.self.inside.own c.self.invariant (subst (CanHear (Some (c.args.reply.now, c.args.now))) (sym c.self.view_is) c.requires))
