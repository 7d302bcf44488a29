-- The thread that is given stands in one of the queues.
use Rattle.std.proofs.Common.{subst}
use Rattle.std.specs.Prelude.{IfSome, IsSome}
use Rattle.ule_tdq.specs.Queues.{QueuesValue, kind_found}
use Rattle.ule_tdq.proofs.PickLaws.{if_stands_in_idle, stands_in_batch, stands_in_real}
use Rattle.ule_tdq.proofs.queues.Queues.pick.Goals as goal

pub returns-in-Some-clause-found : goal.returns-in-Some-clause-found
returns-in-Some-clause-found c =
    subst (λ (q : QueuesValue). IsSome (kind_found q c.in-Some.t)) c.self.view_is
    (stands_in_real c.self.inside.real c.self.inside.batch.lists c.self.inside.idle c.in-Some.t c.in-Some.ensures.found)

pub returns-in-Some-pick_batch-clause-found : goal.returns-in-Some-pick_batch-clause-found
returns-in-Some-pick_batch-clause-found c =
    subst (λ (q : QueuesValue). IsSome (kind_found q c.in-Some-pick_batch.t)) c.self.view_is
    (stands_in_batch c.self.inside.real c.self.inside.batch.lists c.self.inside.idle c.in-Some-pick_batch.t c.in-Some-pick_batch.ensures.found)

pub returns-clause-found : goal.returns-clause-found
returns-clause-found c =
    subst (λ (q : QueuesValue). IfSome c.pick_plain-2.result (λ t. IsSome (kind_found q t))) c.self.view_is
    (if_stands_in_idle c.self.inside.real c.self.inside.batch.lists c.self.inside.idle c.pick_plain-2.result c.pick_plain-2.ensures.found)
