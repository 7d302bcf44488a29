use Rattle.std.proofs.Common.{rules, ◌∙◌, ap, sym, arith}
use Rattle.ule_words.proofs.TimeSteps.{now_allows}
use Rattle.ule_words.proofs.Ties.{state_after, timed_tied, worker_is}
use Rattle.ule_words.specs.Workers.{one, timed}
use Rattle.ule_words.proofs.locks.Locks.read_now.Goals as goal

pub load-now-requires : goal.load-now-requires
load-now-requires g c = (search rules, (let a = c.args.self.now.sized.0 in omega arith), rw c.p.invariant.view (now_allows (g.P.Parts.means c.args.self.now.table.shared.key) _ _ _ _))

pub invariant_of-p : goal.invariant_of-p
invariant_of-p g c = timed_tied _ _ _ c.load-now.result _ _ _ _ _ _ c.p.invariant (c.load-now.ensures.2 c.p.invariant.worker (ap (λ z. z.0) c.p.invariant.view) ∙ ap (λ z. (one (timed c.p.invariant.worker c.load-now.result), z.1)) c.p.invariant.view)

pub returns : goal.returns
returns g c = let w = worker_is _ _ _ _ _ _ _ _ _ _ _ c.p.view_is c.p.invariant in
    state_after _ _ _ _ _ _ _ _ _ _ _ c.p.view_is c.p.invariant _ _ (timed c.p.invariant.worker c.load-now.result) _ c.load-now.ensures.0 (c.load-now.ensures.2 c.p.invariant.worker (ap (λ z. z.0) c.p.invariant.view) ∙ ap (λ z. (one (timed c.p.invariant.worker c.load-now.result), z.1)) c.p.invariant.view) ∙ ap (λ z. record c.args.p.now { worker = timed z c.load-now.result }) (sym w)
