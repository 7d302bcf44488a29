use Rattle.std.proofs.Common.{refl}
use Rattle.ule_top.specs.Making.{unmade, written}
use Rattle.ule_top.proofs.plain.spell_made.Goals as goal

pub returns-in-Ok : goal.returns-in-Ok
returns-in-Ok g c = written c.in-Ok.setup c.in-Ok.ensures (c.finish.ensures _ _ c.write_setup-written.ensures)

pub returns-in-Err : goal.returns-in-Err
returns-in-Err g c = unmade refl refl
