use Rattle.ule_members.proofs.Steps.{step_leaves_rest}
use Rattle.ule_laws.proofs.steps.step_leaves_rest.Goals as goal

pub returns : goal.returns
returns c = step_leaves_rest
