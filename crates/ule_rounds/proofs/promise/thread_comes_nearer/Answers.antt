use Rattle.ule_rounds.proofs.NearerThreadLaws.{thread_comes_nearer}
use Rattle.ule_rounds.proofs.promise.thread_comes_nearer.Goals as goal

pub returns : goal.returns
returns c = thread_comes_nearer
