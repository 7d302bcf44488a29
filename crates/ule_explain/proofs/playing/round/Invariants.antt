-- The player plays the setup.
use Rattle.ule_seq.specs.Playing.{IsPlaying}
use Rattle.ule_explain.proofs.playing.round.Given as goal

abbrev pub invariant-loop-worker : goal.invariant-loop-worker
invariant-loop-worker g l = IsPlaying l.setup l.player
