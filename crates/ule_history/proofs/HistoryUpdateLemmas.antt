use Rattle.std.proofs.Common.{arith}
use Rattle.std.proofs.lemmas.Bool.Decides.{nat_tests}
use Rattle.ule_history.specs.HistoryUpdate.{capped_history, updated_history, HistoryUpdateIsBounded}

-- an update leaves every history bounded
pub IsBoundedHistory-updated_history : HistoryUpdateIsBounded
unfolding updated_history capped_history
IsBoundedHistory-updated_history h = grind (arith, nat_tests)
