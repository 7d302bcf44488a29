use Rattle.std.proofs.Common.{sym, ◌∙◌, ap}
use Rattle.std.proofs.lemmas.Bool.{false≢true}
use Rattle.ule_topo.specs.Mask.{has_cpu}
use Rattle.ule_balance.proofs.plan.plan_next.Goals as goal

pub low_for-requires-clause-high : goal.low_for-requires-clause-high
low_for-requires-clause-high c = c.requires.kept c.in-Some.high c.in-Some.is

pub returns-clause-apart : goal.returns-clause-apart
returns-clause-apart c sound =
    let there = c.in-Some-low_for.ensures.there in
    (c.requires.kept c.in-Some.high c.in-Some.is, there.0, λ same. false≢true (sym (sound c.in-Some.high c.in-Some.is) ∙ ap (has_cpu c.args.m.now.takers) same ∙ there.1))
