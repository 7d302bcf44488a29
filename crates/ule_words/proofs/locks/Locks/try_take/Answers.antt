use Rattle.std.proofs.Common.{rules, ◌≡◌, ◌<◌, ◌-◌, ◌∙◌, ap, sym, refl, subst, arith, ◌∷◌, length}
use Rattle.std.specs.Prelude.{Some, is_some}
use Rattle.std.proofs.lemmas.Option.{same_Some}
use Rattle.ule_words.proofs.Reading.{busy_tells, holder_other}
use Rattle.ule_words.proofs.WordSteps.{take_allows}
use Rattle.ule_words.proofs.Ties.{first_none, put_tied, state_after, taken_me, won, worker_is}
use Rattle.ule_words.specs.Held.{is_held}
use Rattle.ule_words.specs.Passes.{pass_state_of}
use Rattle.ule_words.specs.Tells.{IsHolderOf}
use Rattle.ule_words.specs.Workers.{taking}
use Rattle.atomic_table.specs.Table.{rest}
use Rattle.ule_words.proofs.locks.Locks.try_take.Goals as goal

pub compare_exchange-found-requires : goal.compare_exchange-found-requires
compare_exchange-found-requires g c = (search rules, (let a = c.args.self.now.sized.0 in let b = c.l.invariant in omega arith), rw (c.p.invariant.view, sym c.p.invariant.number) (take_allows (g.P.Parts.means c.args.self.now.table.shared.key) _ _ _ _ c.l.inside.0 c.l.invariant))

pub overflow_cast-result : goal.overflow_cast-result
overflow_cast-result g c = let m = g.P.Parts.means c.args.self.now.table.shared.key in let law = g.met.P.Parts.lawful c.args.self.now.table.shared.key in
    let b = busy_tells m _ _ c.l.inside.0 _ c.p.invariant.worker c.compare_exchange-found.ensures.2 (ap (λ z. z.0) c.p.invariant.view) c.if-found-ne0.true in let low = law.small.workers in let z = b.1.2.there_is in let e = b.1.1 in omega arith

pub invariant_of-p : goal.invariant_of-p
invariant_of-p g c = let b = busy_tells (g.P.Parts.means c.args.self.now.table.shared.key) _ _ c.l.inside.0 _ c.p.invariant.worker c.compare_exchange-found.ensures.2 (ap (λ z. z.0) c.p.invariant.view) c.if-found-ne0.true in rw b.0 c.p.invariant

pub returns-then-found-ne0-clause-busy : goal.returns-then-found-ne0-clause-busy
returns-then-found-ne0-clause-busy g c = let b = busy_tells (g.P.Parts.means c.args.self.now.table.shared.key) _ _ c.l.inside.0 _ c.p.invariant.worker c.compare_exchange-found.ensures.2 (ap (λ z. z.0) c.p.invariant.view) c.if-found-ne0.true in
    (λ i. pass_state_of (c.compare_exchange-found.ensures.0 i) c.p.inside.number (g.P.Own.OwnPart.hand c.p.inside.own) c.p.inside.own (b.0 i)) ∙ c.p.view_is

pub returns-then-found-ne0-clause-holder : goal.returns-then-found-ne0-clause-holder
returns-then-found-ne0-clause-holder g c = let b = busy_tells (g.P.Parts.means c.args.self.now.table.shared.key) _ _ c.l.inside.0 _ c.p.invariant.worker c.compare_exchange-found.ensures.2 (ap (λ z. z.0) c.p.invariant.view) c.if-found-ne0.true in
    let e = b.1.1 in let same : b.1.0 ≡ c.compare_exchange-found.result - 1 = omega arith in
    subst (λ k. IsHolderOf (g.P.Parts.means k) c.args.p.now.worker c.args.l (c.compare_exchange-found.result - 1)) c.args.self.now.same
    (subst (λ w. IsHolderOf (g.P.Parts.means c.args.self.now.table.shared.key) w c.args.l (c.compare_exchange-found.result - 1)) (sym (worker_is _ _ _ _ _ _ _ _ _ _ _ c.p.view_is c.p.invariant))
    (subst (λ l. IsHolderOf (g.P.Parts.means c.args.self.now.table.shared.key) c.p.invariant.worker l (c.compare_exchange-found.result - 1)) c.l.view_is
    (subst (λ h. IsHolderOf (g.P.Parts.means c.args.self.now.table.shared.key) c.p.invariant.worker c.l.inside.0 h) same b.1.2)))

pub returns-then-found-ne0-clause-other : goal.returns-then-found-ne0-clause-other
returns-then-found-ne0-clause-other g c = λ free. holder_other (g.P.Parts.means c.args.self.now.parts) c.args.p.now.worker c.args.l _ (returns-then-found-ne0-clause-holder g c) free

pub exchange-requires : goal.exchange-requires
exchange-requires g c = let k = won (g.P.Parts.means c.args.self.now.table.shared.key) _ _ _ _ _ _ _ _ _ c.l.inside.0 _ c.p.invariant c.compare_exchange-found.ensures.2 c.if-found-ne0.false in
    (search rules, (Some k.0, ap (λ m. m.1) k.1 ∙ ap (λ m. (c.l.inside.0, Some k.0) ∷ rest m.1) (sym k.1)))

pub unreachable-requires : goal.unreachable-requires
unreachable-requires g c = let k = won (g.P.Parts.means c.args.self.now.table.shared.key) _ _ _ _ _ _ _ _ _ c.l.inside.0 _ c.p.invariant c.compare_exchange-found.ensures.2 c.if-found-ne0.false in
    let z = taken_me _ _ _ c.l.inside.0 k.0 _ _ k.1 c.exchange.ensures.2 c.exchange.ensures.3 in
    c.in_default.not-Some _ (sym z.0)

pub put-requires : goal.put-requires
put-requires g c = first_none c.p.inside.holding c.p.invariant.order (subst (λ f. length f < 2) (ap (λ z. z.held) (worker_is _ _ _ _ _ _ _ _ _ _ _ c.p.view_is c.p.invariant) ∙ c.p.invariant.held) c.requires.room)

pub invariant_of-p-2 : goal.invariant_of-p-2
invariant_of-p-2 g c = let k = won (g.P.Parts.means c.args.self.now.table.shared.key) _ _ _ _ _ _ _ _ _ c.l.inside.0 _ c.p.invariant c.compare_exchange-found.ensures.2 c.if-found-ne0.false in
    let z = taken_me _ _ _ c.l.inside.0 k.0 _ _ k.1 c.exchange.ensures.2 c.exchange.ensures.3 in
    put_tied _ _ _ _ _ c.p.inside.holding c.put.new.self _ _ _ c.p.invariant c.l.inside.0 k.0 (record { lock = c.l.inside.0; value = c.in-Some.value }) refl (same_Some _ _ (sym (z.0 ∙ c.in-Some.is))) c.put.ensures.last c.put.ensures.first
    (first_none c.p.inside.holding c.p.invariant.order (subst (λ f. length f < 2) (ap (λ z. z.held) (worker_is _ _ _ _ _ _ _ _ _ _ _ c.p.view_is c.p.invariant) ∙ c.p.invariant.held) c.requires.room)) k.2 c.l.invariant z.1

pub returns-clause-taken : goal.returns-clause-taken
returns-clause-taken g c = let k = won (g.P.Parts.means c.args.self.now.table.shared.key) _ _ _ _ _ _ _ _ _ c.l.inside.0 _ c.p.invariant c.compare_exchange-found.ensures.2 c.if-found-ne0.false in
    let z = taken_me _ _ _ c.l.inside.0 k.0 _ _ k.1 c.exchange.ensures.2 c.exchange.ensures.3 in
    let w = worker_is _ _ _ _ _ _ _ _ _ _ _ c.p.view_is c.p.invariant in (
      k.0,
      state_after _ _ _ _ _ _ _ _ _ _ _ c.p.view_is c.p.invariant _ _ (taking c.p.invariant.worker c.l.inside.0 k.0) _ (c.exchange.ensures.0 ∙ c.compare_exchange-found.ensures.0) z.1
          ∙ ((λ i. record c.args.p.now { worker = taking (sym w i) (c.l.view_is i) k.0 })),
      ap (λ f. is_held f c.args.l) (ap (λ z. z.held) w) ∙ (ap (is_held c.p.invariant.worker.held) (sym c.l.view_is) ∙ ap is_some k.2),
    )
