use Rattle.std.proofs.Common.{arith}
use Rattle.ule_scenario.proofs.SameBytes.{same_bytes}
use Rattle.ule_scenario.proofs.same.is_text.Goals as goal

-- src/same.rt:6:1
pub returns : goal.returns
returns c = same_bytes c.args.bytes.now c.args.text.now (omega (arith, c.if-bytes-text.false)) (λ k below. c.loop-at.invariant k (omega (arith, below, c.loop-at-test.false)))
