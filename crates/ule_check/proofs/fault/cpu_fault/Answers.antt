-- Each turn of the loop is a turn of the recursion on both lists.
use Rattle.std.proofs.Common.{◌≡◌, drop, get_or, length, sym, ◌∙◌, ap, arith}
use Rattle.std.proofs.lemmas.Option.{slice_get-get_or}
use Rattle.ule_model.specs.World.{fresh_line}
use Rattle.ule_check.specs.Ending.{cpu_fault}
use Rattle.ule_check.proofs.LineLaws.{cpu_differs, cpu_missing, cpu_same, cpu_too_many}
use Rattle.ule_check.proofs.fault.cpu_fault.Goals as goal

pub returns-then-i-found : goal.returns-then-i-found
returns-then-i-found c =
    sym (c.loop-i.invariant.same ∙ cpu_missing c.args.expected.now c.args.found.now c.loop-i.i (get_or c.args.expected.now c.loop-i.i fresh_line)
    (slice_get-get_or c.args.expected.now c.loop-i.i fresh_line c.loop-i-test.true) c.if-i-found.true)

pub returns-in-Some : goal.returns-in-Some
returns-in-Some c =
    sym (c.loop-i.invariant.same ∙ cpu_differs c.args.expected.now c.args.found.now c.loop-i.i (get_or c.args.expected.now c.loop-i.i fresh_line)
    (get_or c.args.found.now c.loop-i.i fresh_line) c.in-Some.why
    (slice_get-get_or c.args.expected.now c.loop-i.i fresh_line c.loop-i-test.true) (slice_get-get_or c.args.found.now c.loop-i.i fresh_line c.if-i-found.false) (sym c.in-Some.ensures))

pub loop-i-preserved : goal.loop-i-preserved
loop-i-preserved c = record {
  same = c.loop-i.invariant.same ∙ cpu_same c.args.expected.now c.args.found.now c.loop-i.i (get_or c.args.expected.now c.loop-i.i fresh_line) (get_or c.args.found.now c.loop-i.i fresh_line)
      (slice_get-get_or c.args.expected.now c.loop-i.i fresh_line c.loop-i-test.true) (slice_get-get_or c.args.found.now c.loop-i.i fresh_line c.if-i-found.false) (sym c.in_default.ensures);
  within = omega (arith, c.if-i-found.false);
}

pub returns-then-found-expected : goal.returns-then-found-expected
returns-then-found-expected c =
    let all : c.loop-i.i ≡ length c.args.expected.now = omega (arith, c.loop-i-test.false, c.loop-i.auto.i-end) in
    sym (c.loop-i.invariant.same ∙ ap (λ n. cpu_fault n (drop n c.args.expected.now) (drop n c.args.found.now)) all ∙
    cpu_too_many c.args.expected.now c.args.found.now (length c.args.expected.now) (get_or c.args.found.now (length c.args.expected.now) fresh_line) (omega arith)
    (slice_get-get_or c.args.found.now (length c.args.expected.now) fresh_line c.if-found-expected.true))
