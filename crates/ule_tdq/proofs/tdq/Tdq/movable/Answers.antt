use Rattle.std.proofs.Common.{rules}
use Rattle.ule_tdq.proofs.PickLaws.{movable_tells}
use Rattle.ule_tdq.proofs.tdq.Tdq.movable.Goals as goal

pub returns-clause-value : goal.returns-clause-value
returns-clause-value c = search rules

pub returns-clause-stands : goal.returns-clause-stands
returns-clause-stands c = λ t. movable_tells c.args.self.now t _ (returns-clause-value c t)
