use Rattle.std.proofs.Common.{inl, refl}
use Rattle.ule_io.specs.declared.reading.ReadAllFault.TheVariants.{ReadFault, TooLong}
use Rattle.ule_task.specs.Input.{too_long}
use Rattle.ule_top.proofs.check.read_input.Goals as goal

pub returns-in-Err-TooLong : goal.returns-in-Err-TooLong
returns-in-Err-TooLong g c =
    let all = rw c.in-Err-TooLong.field-0-is at c.in-Err-TooLong.ensures in
    let took = all.too_long refl in
    (too_long took.0 took.1 took.2 (all.no_end TooLong refl) refl, all.else_kept (λ h. cc))

pub returns-in-Err-ReadFault : goal.returns-in-Err-ReadFault
returns-in-Err-ReadFault g c =
    let all = rw c.in-Err-ReadFault.field-0-is at c.in-Err-ReadFault.ensures in
    (all.failed refl, all.fault_within refl, inl (all.no_end ReadFault refl))
