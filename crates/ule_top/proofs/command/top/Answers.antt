use Rattle.std.proofs.Common.{sym}
use Rattle.ule_plain.specs.Text.{plain_text}
use Rattle.ule_top.proofs.CheckLaws.{check_is_known}
use Rattle.ule_top.proofs.MakingLaws.{makes, making_is_known}
use Rattle.ule_top.proofs.TaskLaws.{answers_task}
use Rattle.ule_top.specs.Summary.{summary_text}
use Rattle.ule_top.specs.declared.task.Task.TheVariants.{Check, Gen, Text}
use Rattle.ule_top.proofs.command.top.Goals as goal

pub returns-in-Some-Check : goal.returns-in-Some-Check
returns-in-Some-Check g c =
    answers_task _ Check _ _ _ _ _ (sym (rw c.in-Some-Check.field-0-is at c.in-Some-Check.ensures.value)) (check_is_known _ _ _ _ _ c.check.ensures) c.check.ensures

pub returns-in-Some-Gen : goal.returns-in-Some-Gen
returns-in-Some-Gen g c =
    let n = c.in-Some-Gen.n in
    let does = makes n (summary_text n) (g.S.Source.state c.args.src.now) _ _ _ c.summarize.ensures in
    answers_task _ (Gen n) _ _ _ _ _ (sym (rw c.in-Some-Gen.field-0-is at c.in-Some-Gen.ensures.value)) (making_is_known n (summary_text n) _ _ _ _ _ does) does

pub returns-in-Some-Text : goal.returns-in-Some-Text
returns-in-Some-Text g c =
    let n = c.in-Some-Text.n in
    let does = makes n plain_text (g.S.Source.state c.args.src.now) _ _ _ c.spell_made.ensures in
    answers_task _ (Text n) _ _ _ _ _ (sym (rw c.in-Some-Text.field-0-is at c.in-Some-Text.ensures.value)) (making_is_known n plain_text _ _ _ _ _ does) does
