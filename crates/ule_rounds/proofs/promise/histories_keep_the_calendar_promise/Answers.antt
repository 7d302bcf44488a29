use Rattle.ule_rounds.proofs.PromiseLaws.{legal_promise}
use Rattle.ule_rounds.proofs.promise.histories_keep_the_calendar_promise.Goals as goal

pub returns : goal.returns
returns c = legal_promise
