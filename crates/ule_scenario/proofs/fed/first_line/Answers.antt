use Rattle.std.proofs.Common.{sym, ◌∙◌}
use Rattle.ule_scenario.proofs.WholeLines.{cut_at_first, cut_nowhere}
use Rattle.ule_scenario.proofs.fed.first_line.Goals as goal

pub returns-in-Some-clause-found : goal.returns-in-Some-clause-found
returns-in-Some-clause-found c =
    rw (c.split_at-in-Some.ensures.back, c.split_at.ensures.back, c.split_at.ensures.front)
    (cut_at_first c.args.text.now c.in-Some.n (sym c.place_of_newline.ensures ∙ c.in-Some.is))

pub returns-in-None-clause-none : goal.returns-in-None-clause-none
returns-in-None-clause-none c = cut_nowhere c.args.text.now (sym c.place_of_newline.ensures ∙ c.in-None.is)
