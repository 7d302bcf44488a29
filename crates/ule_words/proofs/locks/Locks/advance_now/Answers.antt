use Rattle.std.proofs.Common.{rules, ◌+◌, ◌≤◌, ◌<◌, ◌∙◌, ap, sym, subst, arith}
use Rattle.std.specs.Prelude.{None}
use Rattle.ule_micro.specs.declared.todo.Todo.TheVariants.{Advance}
use Rattle.ule_micro.specs.Standings.{asks, has}
use Rattle.ule_words.specs.Programs.{StandsAt}
use Rattle.ule_words.proofs.TimeSteps.{advance_allows}
use Rattle.ule_words.proofs.Ties.{advanced_tied, state_after, worker_is}
use Rattle.ule_words.specs.Workers.{advancing, entries_in, one}
use Rattle.ule_words.proofs.locks.Locks.advance_now.Goals as goal

pub fetch_add-requires : goal.fetch_add-requires
fetch_add-requires g c = (search rules, (let a = c.args.self.now.sized.0 in omega arith), rw c.p.invariant.view (advance_allows (g.P.Parts.means c.args.self.now.table.shared.key) (g.met.P.Parts.lawful c.args.self.now.table.shared.key) _ _ _ _ c.args.k c.requires.some c.requires.few (subst (λ z. 0 < z.allowance) (worker_is _ _ _ _ _ _ _ _ _ _ _ c.p.view_is c.p.invariant) c.requires.left)))

pub invariant_of-p : goal.invariant_of-p
invariant_of-p g c = advanced_tied _ _ _ c.args.k _ _ _ _ _ _ c.p.invariant (c.fetch_add.ensures.2 c.p.invariant.worker (ap (λ z. z.0) c.p.invariant.view) ∙ ap (λ z. (one (advancing c.p.invariant.worker c.args.k), z.1)) c.p.invariant.view)

pub returns-clause-pass : goal.returns-clause-pass
returns-clause-pass g c = let w = worker_is _ _ _ _ _ _ _ _ _ _ _ c.p.view_is c.p.invariant in
    state_after _ _ _ _ _ _ _ _ _ _ _ c.p.view_is c.p.invariant _ _ (advancing c.p.invariant.worker c.args.k) _ c.fetch_add.ensures.0
    (c.fetch_add.ensures.2 c.p.invariant.worker (ap (λ z. z.0) c.p.invariant.view) ∙ ap (λ z. (one (advancing c.p.invariant.worker c.args.k), z.1)) c.p.invariant.view) ∙ ap (λ z. record c.args.p.now { worker = advancing z c.args.k }) (sym w)

pub returns-clause-stands : goal.returns-clause-stands
returns-clause-stands g c = λ given stands. let m = g.P.Parts.means c.args.self.now.parts in let law = g.met.P.Parts.lawful c.args.self.now.parts in let p = c.args.p.now in
    subst (λ q. StandsAt m given q (asks None) × (m.left q.own (asks None) + 1 ≤ m.left p.own (has (Advance c.args.k)))) (sym (returns-clause-pass g c))
    (let k = law.standing.advances (record { given = given; mine = entries_in p.worker.mine }) p.own c.args.k stands in (k.2, k.3))
