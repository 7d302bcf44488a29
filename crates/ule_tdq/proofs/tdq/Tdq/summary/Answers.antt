use Rattle.std.proofs.Common.{rules}
use Rattle.ule_tdq.proofs.StandsLaws.{summary_tells}
use Rattle.ule_tdq.proofs.tdq.Tdq.summary.Goals as goal

pub returns-clause-value : goal.returns-clause-value
returns-clause-value c = search rules

pub returns-clause-stands : goal.returns-clause-stands
returns-clause-stands c = summary_tells c.args.self.now _ (returns-clause-value c)
