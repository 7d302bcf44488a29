use Rattle.ule_micro.proofs.SharedCommit.{committing_agrees, committing_may}
use Rattle.ule_micro.proofs.SharedSteps.{advancing_agrees, blocking_agrees, pointing_agrees, reading_agrees, releasing_agrees, taking_agrees}
use Rattle.ule_micro.proofs.laws.steps_agree.Goals as goal

pub returns-clause-taking : goal.returns-clause-taking
returns-clause-taking g c = taking_agrees (g.P.Parts.means c.args.parts.now)

pub returns-clause-releasing : goal.returns-clause-releasing
returns-clause-releasing g c = releasing_agrees (g.P.Parts.means c.args.parts.now)

pub returns-clause-blocking : goal.returns-clause-blocking
returns-clause-blocking g c = blocking_agrees (g.P.Parts.means c.args.parts.now)

pub returns-clause-pointing : goal.returns-clause-pointing
returns-clause-pointing g c = pointing_agrees (g.P.Parts.means c.args.parts.now)

pub returns-clause-reading : goal.returns-clause-reading
returns-clause-reading g c = reading_agrees (g.P.Parts.means c.args.parts.now)

pub returns-clause-advancing : goal.returns-clause-advancing
returns-clause-advancing g c = advancing_agrees (g.P.Parts.means c.args.parts.now)

pub returns-clause-may : goal.returns-clause-may
returns-clause-may g c = committing_may (g.P.Parts.means c.args.parts.now) (g.met.P.Parts.lawful c.args.parts.now)

pub returns-clause-committing : goal.returns-clause-committing
returns-clause-committing g c = committing_agrees (g.P.Parts.means c.args.parts.now) (g.met.P.Parts.lawful c.args.parts.now)
