use Rattle.ule_balance.proofs.plan.told.Goals as goal

pub returns-else-moved-clause-sound : goal.returns-else-moved-clause-sound
returns-else-moved-clause-sound c sound high is = c.without_cpu-m-else-moved.ensures.rest high (sound high is)
