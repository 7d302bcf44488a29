-- The outcome of each play fits a trace.
use Rattle.ule_ranges.proofs.PlaysFit.{plays_fit}
use Rattle.ule_ranges.proofs.laws.plays_fit.Goals as goal

pub returns : goal.returns
returns c = plays_fit
