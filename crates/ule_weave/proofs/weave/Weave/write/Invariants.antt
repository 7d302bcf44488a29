use Rattle.std.proofs.Common.{◌≡◌, drop, length}
use Rattle.ule_trace.proofs.Progress.{Holds}
use Rattle.ule_trace.specs.Line.{lines_text}
use Rattle.ule_weave.specs.WeaveText.{lines_after, weave_text}
use Rattle.ule_weave.proofs.weave.Weave.write.Given as goal

abbrev pub invariant-loop-k : goal.invariant-loop-k
invariant-loop-k g l = record {
  parts : l.micro.parts ≡ l.s;
  workers : length l.micro.state.seats ≡ l.s.cpus;
  text : Holds (g.K.Sink.state l.fn.out) (g.K.Sink.state l.out) l.held (lines_text (lines_after l.s l.k l.micro.state (drop l.k l.turns))) (weave_text l.s);
}
