use Rattle.std.proofs.Common.{Ok, sym, ap, ◌∙◌}
use Rattle.ule_scenario.specs.Reading.{Reading}
use Rattle.ule_scenario.proofs.LoneLines.{lone_judged, lone_line}
use Rattle.ule_scenario.proofs.lone.take_lone.Goals as goal

pub returns-in-Some : goal.returns-in-Some
returns-in-Some c = λ bytes is.
    sym (lone_line bytes c.args.c.now is c.args.n c.args.draft.now c.lone_reason.ensures.few
    ∙ ap (lone_judged c.args.n c.args.draft.now c.args.c.now) (sym c.lone_reason.ensures.value ∙ c.in-Some.is))

pub returns : goal.returns
returns c = λ bytes is.
    ap (λ (r : Reading). Ok r) c.in_ok-command.ensures
    ∙ sym (lone_line bytes c.args.c.now is c.args.n c.args.draft.now c.lone_reason.ensures.few
    ∙ ap (lone_judged c.args.n c.args.draft.now c.args.c.now) (sym c.lone_reason.ensures.value ∙ c.in_default.is))
