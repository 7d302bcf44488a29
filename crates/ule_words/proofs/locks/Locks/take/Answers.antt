use Rattle.std.proofs.Common.{◌∙◌}
use Rattle.ule_words.proofs.Ties.{taken_same}
use Rattle.ule_words.proofs.locks.Locks.take.Goals as goal

pub returns-in-Ok : goal.returns-in-Ok
returns-in-Ok g c = let k = c.in-Ok.ensures.taken in (k.0, k.1 ∙ taken_same _ _ c.args.l k.0 c.loop.invariant)
