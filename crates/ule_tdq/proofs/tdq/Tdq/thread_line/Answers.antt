use Rattle.std.proofs.Common.{rules}
use Rattle.ule_tdq.proofs.StandsLaws.{line_tells}
use Rattle.ule_tdq.proofs.tdq.Tdq.thread_line.Goals as goal

pub returns-in_err-r-clause-line : goal.returns-in_err-r-clause-line
returns-in_err-r-clause-line c = search rules

pub returns-in_err-r-clause-stands : goal.returns-in_err-r-clause-stands
returns-in_err-r-clause-stands c = line_tells c.args.self.now c.args.t _ (returns-in_err-r-clause-line c)

pub returns-in_err-place-clause-line : goal.returns-in_err-place-clause-line
returns-in_err-place-clause-line c = search rules

pub returns-in_err-place-clause-stands : goal.returns-in_err-place-clause-stands
returns-in_err-place-clause-stands c = line_tells c.args.self.now c.args.t _ (returns-in_err-place-clause-line c)

pub returns-clause-line : goal.returns-clause-line
returns-clause-line c = search rules

pub returns-clause-stands : goal.returns-clause-stands
returns-clause-stands c = line_tells c.args.self.now c.args.t _ (returns-clause-line c)
