use Rattle.ule_laws.proofs.SleepCallLaws.{limbo_calls}
use Rattle.ule_laws.proofs.sleep_calls.limbo_calls_stand.Goals as goal

pub returns : goal.returns
returns c = limbo_calls
