use Rattle.ule_members.proofs.Steps.{step_moves_word}
use Rattle.ule_laws.proofs.steps.step_moves_word.Goals as goal

pub returns : goal.returns
returns c = step_moves_word
