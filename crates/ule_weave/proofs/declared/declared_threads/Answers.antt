use Rattle.std.proofs.Common.{arith}
use Rattle.ule_parts.specs.Workers.{declared_ids_of}
use Rattle.ule_types.specs.Commands.{is_among}
use Rattle.ule_weave.proofs.DeclaredThreads.{declared_all, declared_noted}
use Rattle.ule_weave.proofs.declared.declared_threads.Goals as goal

pub loop-t-preserved : goal.loop-t-preserved
loop-t-preserved c =
    declared_noted (is_among (declared_ids_of c.args.s.now)) c.loop-t.t c.loop-t.threads.items c.note_if.new.threads.items c.is_declared.result c.loop-t.invariant c.is_declared.ensures c.in_ok-note_if.ensures

pub returns : goal.returns
returns c = declared_all c.args.s.now c.loop-t.t c.loop-t.threads.items (omega arith) c.loop-t.invariant
