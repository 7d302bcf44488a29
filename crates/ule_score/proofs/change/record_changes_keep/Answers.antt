use Rattle.ule_score.proofs.ChangeLaws.{change_number, change_bounds, change_numbers, change_by_now}
use Rattle.ule_score.proofs.change.record_changes_keep.Goals as goal

pub returns-clause-number : goal.returns-clause-number
returns-clause-number c = change_number

pub returns-clause-bounds : goal.returns-clause-bounds
returns-clause-bounds c = change_bounds

pub returns-clause-numbers : goal.returns-clause-numbers
returns-clause-numbers c = change_numbers

pub returns-clause-times : goal.returns-clause-times
returns-clause-times c = change_by_now
