-- An entry with a fault is the verdict, and one without leads to the next.
use Rattle.std.proofs.Common.{◌≡◌, ◌+◌, ◌-◌, slice_get, Some, subst, arith}
use Rattle.ule_check.specs.JudgeValue.{HasJudged}
use Rattle.ule_check.proofs.LoopLaws.{entry_illegal, entry_more}
use Rattle.ule_check.proofs.judge.Judge.entries.Goals as goal

pub returns-in-Some-clause-illegal : goal.returns-in-Some-clause-illegal
returns-in-Some-clause-illegal c =
    let first = c.loop-i.invariant in
    let place : c.loop-i.i + 1 - 1 ≡ c.loop-i.i = omega arith in
    let got = subst (λ n. slice_get c.args.trace.now.entries n ≡ Some c.entry.result.now) place c.entry.ensures in
    let made = subst (HasJudged c.args.s.now c.loop-i.i first.judge c.entry.result.now c.entry-in-loop-i.new.self) c.in-Some.is (c.entry-in-loop-i.ensures c.loop-i.i first.judge first.is) in
    entry_illegal c.args.s.now c.args.trace.now c.loop-i.i c.loop-i.self c.entry-in-loop-i.new.self first c.entry.result.now got c.in-Some.why made

pub loop-i-preserved : goal.loop-i-preserved
loop-i-preserved c =
    let first = c.loop-i.invariant in
    let place : c.loop-i.i + 1 - 1 ≡ c.loop-i.i = omega arith in
    let got = subst (λ n. slice_get c.args.trace.now.entries n ≡ Some c.entry.result.now) place c.entry.ensures in
    let made = subst (HasJudged c.args.s.now c.loop-i.i first.judge c.entry.result.now c.entry-in-loop-i.new.self) c.in_default.is (c.entry-in-loop-i.ensures c.loop-i.i first.judge first.is) in
    entry_more c.args.s.now c.args.trace.now c.loop-i.i c.loop-i.self c.entry-in-loop-i.new.self first c.entry.result.now got made
