use Rattle.ule_members.proofs.Steps.{step_touches}
use Rattle.ule_laws.proofs.steps.step_touches.Goals as goal

pub returns : goal.returns
returns c = step_touches
