use Rattle.ule_program.proofs.ProgramLaws.{to_after}
use Rattle.ule_program.proofs.laws.replies_lead.Goals as goal

pub returns : goal.returns
returns c = to_after
