use Rattle.ule_gen.proofs.Keeps.{keeps}
use Rattle.ule_gen.proofs.setup.make.Goals as goal

pub invariant_of-result : goal.invariant_of-result
invariant_of-result c =
    record { rules = rw (c.in_ok-groups.ensures, c.in_ok-threads.ensures, c.in_ok-unborn.ensures, c.in_ok-scripts.ensures, c.in_ok-turns.ensures) (keeps c.args.n c.requires.most) }
