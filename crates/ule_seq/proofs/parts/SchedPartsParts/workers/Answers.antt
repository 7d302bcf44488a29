-- There is an own part for each CPU.
use Rattle.std.proofs.Common.{ap, arith}
use Rattle.ule_types.specs.declared.setup.Setup.{Setup}
use Rattle.ule_parts.proofs.Orders.{many_owns}
use Rattle.ule_seq.proofs.parts.SchedPartsParts.workers.Goals as goal

pub returns : goal.returns
returns c = let cpus = ap (λ (s : Setup). s.cpus) c.self.view_is in omega (arith, cpus, many_owns c.args.self.now 0 c.args.self.now.cpus)
