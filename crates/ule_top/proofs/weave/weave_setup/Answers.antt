use Rattle.std.proofs.Common.{refl}
use Rattle.ule_task.specs.Input.{unmade, written}
use Rattle.ule_top.proofs.weave.weave_setup.Goals as goal

pub returns-in-Ok : goal.returns-in-Ok
returns-in-Ok g c = written (c.finish.ensures _ _ c.write-written.ensures.written)

pub returns-in-Err : goal.returns-in-Err
returns-in-Err g c = unmade refl refl
