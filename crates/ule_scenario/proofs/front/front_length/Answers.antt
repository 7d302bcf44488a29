use Rattle.std.proofs.Common.{◌++◌, ◌∷◌, [], sym, ◌∙◌}
use Rattle.ule_scenario.proofs.WholeLines.{lines_more}
use Rattle.ule_scenario.proofs.Fronts.{ends_there, ends_nowhere, open_more}
use Rattle.ule_scenario.proofs.front.front_length.Goals as goal

pub returns-then-is_end_line-clause-value : goal.returns-then-is_end_line-clause-value
returns-then-is_end_line-clause-value c =
    let i = c.loop-line.invariant in
    let next = c.in-Some.ensures.found in
    let whole = lines_more c.args.text.now i.done c.loop-line.rest.now c.in-Some.line.now c.in-Some.behind.now i.whole next in
    sym (ends_there c.args.text.now i.done c.in-Some.line.now c.in-Some.behind.now i.opened next.plain (sym c.is_end_line.ensures ∙ c.if-is_end_line.true) whole)

pub loop-line-preserved : goal.loop-line-preserved
loop-line-preserved c =
    let i = c.loop-line.invariant in
    let line = c.in-Some.line.now in
    let next = c.in-Some.ensures.found in
    record {
      done = i.done ++ (line ++ 10 ∷ []);
      whole = lines_more c.args.text.now i.done c.loop-line.rest.now line c.in-Some.behind.now i.whole next;
      opened = open_more i.done line i.opened next.plain (sym c.is_end_line.ensures ∙ c.if-is_end_line.false);
    }

pub returns-clause-value : goal.returns-clause-value
returns-clause-value c =
    let i = c.loop-line.invariant in
    sym (ends_nowhere c.args.text.now i.done c.loop-line.rest.now i.opened c.in_default.ensures.none i.whole)
