use Rattle.std.proofs.Common.{sym, ◌∙◌}
use Rattle.ule_runq.specs.Set.{has}
use Rattle.ule_steal.proofs.StealLaws.{plain_pick-found}
use Rattle.ule_steal.proofs.steal.pick_plain.Goals as goal

pub returns-clause-value : goal.returns-clause-value
returns-clause-value c = c.first_allowed.ensures.value ∙ sym (plain_pick-found (has c.args.movable.now) c.args.q.now)
