use Rattle.std.proofs.Common.{◌≡◌, ◌≤◌, ◌<◌, length}
use Rattle.ule_micro_turns.proofs.playing.play.Given as goal

-- both workers are there, the next one is one of them, and no turn made more than one entry
abbrev pub invariant-loop-turn : goal.invariant-loop-turn
invariant-loop-turn l = record {
  workers : length l.micro.state.seats ≡ 2;
  worker : l.worker < 2;
  finished : l.finished ≤ 2;
  few : l.entries ≤ l._turn;
}
