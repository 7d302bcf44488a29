use Rattle.ule_members.proofs.Steps.{step_is_made}
use Rattle.ule_laws.proofs.steps.step_is_made.Goals as goal

pub returns : goal.returns
returns c = step_is_made
