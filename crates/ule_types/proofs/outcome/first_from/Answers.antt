use Rattle.std.proofs.Common.{sym, ap, ◌∙◌, nat_le, not, arith}
use Rattle.std.proofs.lemmas.List.Sums.{prefix_len-drop_yes, prefix_len-drop_no, prefix_len-drop_all}
use Rattle.ule_types.specs.declared.outcome.ThreadLine.{ThreadLine}
use Rattle.ule_types.proofs.outcome.first_from.Goals as goal

pub returns-then-is_from-clause-place : goal.returns-then-is_from-clause-place
returns-then-is_from-clause-place c =
    let stops = prefix_len-drop_no (λ (m : ThreadLine). not (nat_le c.args.id m.id)) c.args.lines.now c.loop-at.at c.index-lines-at.result (omega arith)
    (rw (← c.index-lines-at.is) (ap not (sym c.is_from.ensures.test ∙ c.if-is_from.true))) in
    omega (arith, stops, c.loop-at.invariant)

pub loop-at-preserved : goal.loop-at-preserved
loop-at-preserved c =
    let passes = prefix_len-drop_yes (λ (m : ThreadLine). not (nat_le c.args.id m.id)) c.args.lines.now c.loop-at.at c.index-lines-at.result (omega arith)
    (rw (← c.index-lines-at.is) (ap not (sym c.is_from.ensures.test ∙ c.if-is_from.false))) in
    omega (arith, passes, c.loop-at.invariant)

pub returns-clause-place : goal.returns-clause-place
returns-clause-place c =
    let ends = prefix_len-drop_all (λ (m : ThreadLine). not (nat_le c.args.id m.id)) c.args.lines.now c.loop-at.at (omega arith) in
    omega (arith, ends, c.loop-at.invariant)
