use Rattle.ule_score.proofs.TimesharePriorityLemmas.{timeshare_priority-bounds, timeshare_priority-splits}
use Rattle.ule_score.proofs.priority.timeshare_priority_is_bounded.Goals as goal

pub returns-clause-bounded : goal.returns-clause-bounded
returns-clause-bounded c = timeshare_priority-bounds

pub returns-clause-split : goal.returns-clause-split
returns-clause-split c = timeshare_priority-splits
