use Rattle.ule_score.proofs.BoundsLemmas.{KeepsBounds-histories, KeepsBounds-uses, KeepsBounds-bases, KeepsBounds-loans, KeepsBounds-times}
use Rattle.ule_score.proofs.bounds.record_keeps_bounds.Goals as goal

pub returns-clause-histories : goal.returns-clause-histories
returns-clause-histories c = KeepsBounds-histories

pub returns-clause-uses : goal.returns-clause-uses
returns-clause-uses c = KeepsBounds-uses

pub returns-clause-bases : goal.returns-clause-bases
returns-clause-bases c = KeepsBounds-bases

pub returns-clause-loans : goal.returns-clause-loans
returns-clause-loans c = KeepsBounds-loans

pub returns-clause-times : goal.returns-clause-times
returns-clause-times c = KeepsBounds-times
