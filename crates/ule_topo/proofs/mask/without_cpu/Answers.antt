use Rattle.std.proofs.Common.{arith}
use Rattle.ule_topo.proofs.MaskLaws.{without_cpu_read, without_cpu_same, without_cpu_rest}
use Rattle.ule_topo.proofs.mask.without_cpu.Goals as goal

pub returns-clause-value : goal.returns-clause-value
returns-clause-value c = rw (← c.c.view_is) (without_cpu_read c.args.mask c.c.inside.0 (omega arith))

pub returns-clause-out : goal.returns-clause-out
returns-clause-out c = rw (← c.c.view_is) (without_cpu_same c.args.mask c.c.inside.0 (omega arith))

pub returns-clause-rest : goal.returns-clause-rest
returns-clause-rest c d is_out = without_cpu_rest c.args.mask c.c.inside.0 d is_out
