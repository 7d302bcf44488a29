use Rattle.ule_rounds.proofs.ChargeLaws.{charges_kept}
use Rattle.ule_rounds.proofs.charges.commands_keep_to_their_charges.Goals as goal

pub returns : goal.returns
returns c = charges_kept
