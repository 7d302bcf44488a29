-- A written trace is read back.
use Rattle.ule_trace.proofs.TraceBack.{written_is_read_back}
use Rattle.ule_trace.proofs.laws.written_is_read_back.Goals as goal

pub returns : goal.returns
returns c = written_is_read_back
