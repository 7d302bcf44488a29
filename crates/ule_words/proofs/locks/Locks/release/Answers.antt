use Rattle.std.proofs.Common.{rules, ◌∙◌, ap, sym, arith, ◌∷◌}
use Rattle.std.specs.Prelude.{None}
use Rattle.ule_words.specs.Passes.{slots_out}
use Rattle.ule_words.specs.Held.{is_held, value_held}
use Rattle.ule_words.specs.Workers.{one, releasing}
use Rattle.atomic_table.specs.Table.{rest}
use Rattle.ule_words.proofs.WordSteps.{release_allows}
use Rattle.ule_words.proofs.Ties.{drawn_tied, front, state_after, worker_is}
use Rattle.ule_words.proofs.locks.Locks.release.Goals as goal

pub draw-value-requires-clause-held : goal.draw-value-requires-clause-held
draw-value-requires-clause-held g c = ap (λ f. is_held f c.l.inside.0) (sym (ap (λ z. z.held) (worker_is _ _ _ _ _ _ _ _ _ _ _ c.p.view_is c.p.invariant) ∙ c.p.invariant.held)) ∙ (ap (is_held c.args.p.now.worker.held) c.l.view_is ∙ c.requires.held)

pub draw-value-requires-clause-slots : goal.draw-value-requires-clause-slots
draw-value-requires-clause-slots g c = ap (λ z. z.1) c.p.invariant.view ∙ ap slots_out c.p.invariant.held

pub exchange-old-requires : goal.exchange-old-requires
exchange-old-requires g c = let m = c.draw-value.ensures.seat.2 in (search rules, (None, ap (λ z. z.1) m ∙ ap (λ z. (c.l.inside.0, None) ∷ rest z.1) (sym m)))

pub store-requires : goal.store-requires
store-requires g c = let w = worker_is _ _ _ _ _ _ _ _ _ _ _ c.p.view_is c.p.invariant in
    let n = front _ _ _ c.p.invariant.worker c.l.inside.0 c.draw-value.result _ c.p.invariant.view c.p.invariant.held c.draw-value.ensures.seat.2 c.exchange-old.ensures.3 in
    (search rules, (let e = c.args.self.now.sized.0 in let b = c.l.invariant in omega arith), rw n (release_allows (g.P.Parts.means c.args.self.now.table.shared.key) _ _ _ _ c.l.inside.0 c.draw-value.result (ap (λ f. value_held f c.l.inside.0) c.p.invariant.held ∙ c.draw-value.ensures.value) (sym (ap (λ z. z.pending) w) ∙ c.requires.calm)))

pub invariant_of-p : goal.invariant_of-p
invariant_of-p g c = let n = front _ _ _ c.p.invariant.worker c.l.inside.0 c.draw-value.result _ c.p.invariant.view c.p.invariant.held c.draw-value.ensures.seat.2 c.exchange-old.ensures.3 in
    drawn_tied _ _ _ _ _ _ _ _ _ _ c.p.invariant c.l.inside.0 c.draw-value.ensures.rest c.draw-value.ensures.none (c.store.ensures.2 c.p.invariant.worker (ap (λ z. z.0) n) ∙ ap (λ z. (one (releasing c.p.invariant.worker c.l.inside.0), rest z.1)) n)

pub returns : goal.returns
returns g c = let n = front _ _ _ c.p.invariant.worker c.l.inside.0 c.draw-value.result _ c.p.invariant.view c.p.invariant.held c.draw-value.ensures.seat.2 c.exchange-old.ensures.3 in
    let w = worker_is _ _ _ _ _ _ _ _ _ _ _ c.p.view_is c.p.invariant in
    state_after _ _ _ _ _ _ _ _ _ _ _ c.p.view_is c.p.invariant _ _ (releasing c.p.invariant.worker c.l.inside.0) _ (c.store.ensures.0 ∙ (c.exchange-old.ensures.0 ∙ c.draw-value.ensures.seat.0)) (c.store.ensures.2 c.p.invariant.worker (ap (λ z. z.0) n) ∙ ap (λ z. (one (releasing c.p.invariant.worker c.l.inside.0), rest z.1)) n)
    ∙ (λ i. record c.args.p.now { worker = releasing (sym w i) (c.l.view_is i) })
