-- Each turn of the loop is a turn of the recursion on both lists.
use Rattle.std.proofs.Common.{◌≡◌, slice_get, Some, sym, ◌∙◌, ap, arith}
use Rattle.std.proofs.lemmas.Option.{slice_get-get_or}
use Rattle.ule_types.specs.declared.outcome.ThreadLine.{ThreadLine}
use Rattle.ule_check.proofs.LineLaws.{line_differs, line_same}
use Rattle.ule_check.proofs.fault.thread_fault.Goals as goal

pub returns-in-Some : goal.returns-in-Some
returns-in-Some c =
    let x : ThreadLine = c.index-expected-i-in-loop-i.result in
    let y : ThreadLine = c.index-found-i.result in
    let at_x : slice_get c.args.expected.now c.loop-i.i ≡ Some x =
    slice_get-get_or c.args.expected.now c.loop-i.i x c.loop-i-test.true ∙ ap (λ (z : ThreadLine). Some z) (sym c.index-expected-i-in-loop-i.is) in
    let at_y : slice_get c.args.found.now c.loop-i.i ≡ Some y = slice_get-get_or c.args.found.now c.loop-i.i y c.if-i-found.false ∙ ap (λ (z : ThreadLine). Some z) (sym c.index-found-i.is) in
    sym (c.loop-i.invariant.same ∙ line_differs c.args.expected.now c.args.found.now c.loop-i.i x y c.in-Some.why at_x at_y (sym c.in-Some.ensures))

pub loop-i-preserved : goal.loop-i-preserved
loop-i-preserved c =
    let x : ThreadLine = c.index-expected-i-in-loop-i.result in
    let y : ThreadLine = c.index-found-i.result in
    let at_x : slice_get c.args.expected.now c.loop-i.i ≡ Some x =
    slice_get-get_or c.args.expected.now c.loop-i.i x c.loop-i-test.true ∙ ap (λ (z : ThreadLine). Some z) (sym c.index-expected-i-in-loop-i.is) in
    let at_y : slice_get c.args.found.now c.loop-i.i ≡ Some y = slice_get-get_or c.args.found.now c.loop-i.i y c.if-i-found.false ∙ ap (λ (z : ThreadLine). Some z) (sym c.index-found-i.is) in
    record {
      same = c.loop-i.invariant.same ∙ line_same c.args.expected.now c.args.found.now c.loop-i.i x y at_x at_y (sym c.in_default.ensures);
      within = omega (arith, c.if-i-found.false);
    }
