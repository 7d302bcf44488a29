-- The player plays the setup.
use Rattle.ule_seq.specs.Playing.{IsPlaying}
use Rattle.ule_explain.proofs.playing.explain.Given as goal

abbrev pub invariant-loop-round : goal.invariant-loop-round
invariant-loop-round g l = IsPlaying l.setup l.player
