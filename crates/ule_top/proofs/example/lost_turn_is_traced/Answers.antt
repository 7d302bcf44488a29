use Rattle.ule_top.proofs.LostTurnRow.{lost_turn_traced}
use Rattle.ule_top.proofs.example.lost_turn_is_traced.Goals as goal

pub returns : goal.returns
returns c = lost_turn_traced
