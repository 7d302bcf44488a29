use Rattle.std.proofs.Common.{sym, ◌∙◌}
use Rattle.ule_scenario.proofs.Kept.{answered_ok, spelled_keeps_rules}
use Rattle.ule_scenario.proofs.fed.answer.Goals as goal

pub into_setup-requires : goal.into_setup-requires
into_setup-requires c =
    spelled_keeps_rules c.requires.spelled.0 c.args.lines.draft (c.requires.spelled.1 ∙ answered_ok c.args.lines c.in_default.is (sym c.place-at.ensures ∙ c.if-at-eq9.true))
