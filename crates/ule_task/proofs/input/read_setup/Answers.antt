use Rattle.std.proofs.Common.{[], inl, refl}
use Rattle.ule_io.specs.declared.reading.ReadAllFault.TheVariants.{ReadFault, TooLong}
use Rattle.ule_task.proofs.InputLaws.{had_as_told}
use Rattle.ule_task.specs.Input.{too_long}
use Rattle.ule_task.specs.Scenario.{scenario_intake}
use Rattle.ule_task.proofs.input.read_setup.Goals as goal

pub returns-in-Ok-feed_all : goal.returns-in-Ok-feed_all
returns-in-Ok-feed_all g c =
    let fed = c.in-Ok-feed_all.ensures in
    had_as_told scenario_intake _ _ fed.0 _ (record { read = fed.1.whole; kept = fed.1.else_kept (λ h. cc) }) (c.read_so.ensures fed.0 (fed.2 [] c.in-Ok.ensures))

pub returns-in-Err-TooLong : goal.returns-in-Err-TooLong
returns-in-Err-TooLong g c =
    let all = rw c.in-Err-TooLong.field-0-is at c.in-Err-TooLong.ensures in
    let took = all.too_long refl in
    (too_long took.0 took.1 took.2 (all.no_end TooLong refl) refl, all.else_kept (λ h. cc))

pub returns-in-Err-ReadFault : goal.returns-in-Err-ReadFault
returns-in-Err-ReadFault g c =
    let all = rw c.in-Err-ReadFault.field-0-is at c.in-Err-ReadFault.ensures in
    (all.failed refl, all.fault_within refl, inl (all.no_end ReadFault refl))
