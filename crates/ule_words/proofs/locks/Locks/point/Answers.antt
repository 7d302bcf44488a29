use Rattle.std.proofs.Common.{rules, ◌≡◌, ◌∙◌, ap, sym, arith}
use Rattle.std.specs.Prelude.{Some}
use Rattle.ule_micro.specs.declared.word.WordChange.TheVariants.{Point}
use Rattle.ule_words.proofs.WordSteps.{point_allows}
use Rattle.ule_words.proofs.Ties.{calm_tied, state_after, worker_is}
use Rattle.ule_words.specs.Passes.{slots_out}
use Rattle.ule_words.specs.Workers.{calm, one}
use Rattle.ule_words.proofs.locks.Locks.point.Goals as goal

pub store-requires : goal.store-requires
store-requires g c = (
  search rules,
  (let a = c.args.self.now.sized.0 in let b = c.t.invariant in omega arith),
  rw c.p.invariant.view (point_allows (g.P.Parts.means c.args.self.now.table.shared.key) _ _ _ _ c.t.inside.0 c.l.inside.0 c.t.invariant
      (sym (ap (λ z. z.pending) (worker_is _ _ _ _ _ _ _ _ _ _ _ c.p.view_is c.p.invariant)) ∙ (c.requires.pending ∙ (λ i. Some (Point (sym c.t.view_is i) (sym c.l.view_is i)))))),
)

now : (g : _) (c : goal.After-store g) → c.store.new.seat.me ≡ (one (calm c.p.invariant.worker), slots_out c.p.invariant.worker.held)
now g c = c.store.ensures.2 c.p.invariant.worker (ap (λ z. z.0) c.p.invariant.view) ∙ ap (λ z. (one (calm c.p.invariant.worker), z.1)) c.p.invariant.view

pub invariant_of-p : goal.invariant_of-p
invariant_of-p g c = calm_tied _ _ _ _ _ _ _ _ _ c.p.invariant (now g c)

pub returns : goal.returns
returns g c = let w = worker_is _ _ _ _ _ _ _ _ _ _ _ c.p.view_is c.p.invariant in
    state_after _ _ _ _ _ _ _ _ _ _ _ c.p.view_is c.p.invariant _ _ (calm c.p.invariant.worker) _ c.store.ensures.0 (now g c) ∙ ap (λ z. record c.args.p.now { worker = calm z }) (sym w)
