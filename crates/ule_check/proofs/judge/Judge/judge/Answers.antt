-- The fault behind the last entry, or none, is the verdict.
use Rattle.std.proofs.Common.{ℕ, None, Some, refl, sym, ◌∙◌, length, arith}
use Rattle.ule_check.proofs.EndingLaws.{judged_ending}
use Rattle.ule_check.proofs.LoopLaws.{judged_few}
use Rattle.ule_check.proofs.judge.Judge.judge.Goals as goal

pub ending-requires-clause-judge : goal.ending-requires-clause-judge
ending-requires-clause-judge c =
    let first = c.entries.ensures.first c.in_default.is in (length c.args.trace.now.entries, first.judge, first.is)

pub overflow_add-result : goal.overflow_add-result
overflow_add-result c =
    let first = c.entries.ensures.first c.in_default.is in
    omega (arith, judged_few c.args.s.now c.args.trace.now (length c.args.trace.now.entries) c.entries.new.self first, c.len.ensures)

pub returns-in-Some-ending : goal.returns-in-Some-ending
returns-in-Some-ending c =
    let first = c.entries.ensures.first c.in_default.is in
    let n : ℕ = length c.args.trace.now.entries in
    judged_ending c.args.s.now c.args.trace.now c.entries.new.self c.len.result (Some c.in-Some-ending.why) first c.len.ensures (sym c.in-Some-ending.is ∙ c.ending.ensures n first.judge first.is)

pub returns-in-None : goal.returns-in-None
returns-in-None c =
    let first = c.entries.ensures.first c.in_default.is in
    let n : ℕ = length c.args.trace.now.entries in
    judged_ending c.args.s.now c.args.trace.now c.entries.new.self n None first refl (sym c.in-None.is ∙ c.ending.ensures n first.judge first.is)
