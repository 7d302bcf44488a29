-- The program stays sound.
use Rattle.std.proofs.Common.{sym, subst}
use Rattle.ule_program.specs.Hearing.{CanHear, IsSoundOwn}
use Rattle.ule_program.proofs.SoundLaws.{next_sound}
use Rattle.ule_program.proofs.program.Program.next.Goals as goal

pub invariant_of-self : goal.invariant_of-self
invariant_of-self c = subst IsSoundOwn (sym c.next.ensures.after)
    (next_sound c.args.last c.self.inside.own c.self.invariant (subst (CanHear c.args.last) (sym c.self.view_is) c.requires))
