use Rattle.ule_laws.proofs.SleepCallLaws.{chain_calls}
use Rattle.ule_laws.proofs.sleep_calls.chain_calls_stand.Goals as goal

pub returns : goal.returns
returns c = chain_calls
