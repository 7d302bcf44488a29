use Rattle.ule_parts.proofs.Lawful.{is_lawful}
use Rattle.ule_parts.proofs.laws.scheduler_is_lawful.Goals as goal

pub returns : goal.returns
returns c = is_lawful
