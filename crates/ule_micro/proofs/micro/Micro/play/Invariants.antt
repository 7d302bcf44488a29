use Rattle.std.proofs.Common.{◌≡◌, length, drop}
use Rattle.ule_micro.specs.Turns.{played}
use Rattle.ule_micro.proofs.micro.Micro.play.Given as goal

-- the turns that are left lead from the state so far to the end of all turns
abbrev pub invariant-loop-worker : goal.invariant-loop-worker
invariant-loop-worker g l = record {
  parts : l.self.parts ≡ l.fn.self.parts;
  workers : length l.self.state.seats ≡ length l.fn.self.state.seats;
  rest : played (g.P.Parts.means l.fn.self.parts) (g.P.Parts.orders l.fn.self.parts) l.self.state (drop l.worker-index l.turns) ≡ played (g.P.Parts.means l.fn.self.parts) (g.P.Parts.orders l.fn.self.parts) l.fn.self.state l.turns;
}
