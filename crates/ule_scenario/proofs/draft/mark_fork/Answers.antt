use Rattle.ule_scenario.proofs.draft.mark_fork.Goals as goal

pub returns-in-Fork : goal.returns-in-Fork
returns-in-Fork c = λ ids m. rw c.in-Fork.is (c.mark.ensures ids m)
