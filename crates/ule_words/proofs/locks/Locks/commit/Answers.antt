use Rattle.std.proofs.Common.{rules, ◌+◌, ◌<◌, ◌≤◌, ◌∙◌, ap, sym, subst, arith}
use Rattle.std.proofs.lemmas.Option.{same_Some}
use Rattle.ule_micro.specs.Histories.{entry_made}
use Rattle.ule_words.specs.Held.{held_values, locks_of}
use Rattle.ule_words.specs.Passes.{pass_state_of}
use Rattle.ule_words.specs.Tells.{CanCommit}
use Rattle.ule_words.specs.Workers.{act_of, committing, entries_in}
use Rattle.ule_words.proofs.Standing.{stands_on}
use Rattle.std.specs.List.{AllByRecursion}
use Rattle.ule_words.proofs.Performs.{acts_alike, committed_tied, last_held, may_perform, ready_pass}
use Rattle.ule_words.proofs.Ties.{state_is, worker_is}
use Rattle.ule_words.proofs.locks.Locks.commit.Goals as goal

pub raise-number-requires-clause-can : goal.raise-number-requires-clause-can
raise-number-requires-clause-can g c = let m = g.P.Parts.means c.args.self.now.parts in let can = c.requires.can in
    ready_pass m _ _ _ _ _ _ _ _ c.p.invariant c.args.e.now can.0 can.1 (subst (λ z. CanCommit m z c.args.e.now can.0 can.1) (worker_is _ _ _ _ _ _ _ _ _ _ _ c.p.view_is c.p.invariant) can.2)

pub overflow_add-number : goal.overflow_add-number
overflow_add-number g c = let m = g.P.Parts.means c.args.self.now.parts in let can = c.requires.can in
    let k = (c.raise-number.ensures.done c.p.invariant.worker can.0 can.1 (ap (λ z. z.0) c.p.invariant.view) (subst (λ z. CanCommit m z c.args.e.now can.0 can.1) (worker_is _ _ _ _ _ _ _ _ _ _ _ c.p.view_is c.p.invariant) can.2)).1 in search rules

pub locks-locks-requires-clause-some : goal.locks-locks-requires-clause-some
locks-locks-requires-clause-some g c = let m = g.P.Parts.means c.args.self.now.parts in let can = subst (λ z. CanCommit m z c.args.e.now c.requires.can.0 c.requires.can.1) (worker_is _ _ _ _ _ _ _ _ _ _ _ c.p.view_is c.p.invariant) c.requires.can.2 in
    last_held c.p.inside.holding c.requires.can.0 c.p.invariant.order (ap locks_of (sym c.p.invariant.held) ∙ can.holds)

pub perform-reply-requires : goal.perform-reply-requires
perform-reply-requires g c = let m = g.P.Parts.means c.args.self.now.parts in let t = c.p.invariant in let w = worker_is _ _ _ _ _ _ _ _ _ _ _ c.p.view_is c.p.invariant in
    let locks = c.requires.can.0 in let now = c.requires.can.1 in
    let can = subst (λ z. CanCommit m z c.args.e.now locks now) w c.requires.can.2 in
    let told = c.raise-number.ensures.done t.worker locks now (ap (λ z. z.0) t.view) can in
    record {
      some = last_held c.p.inside.holding locks t.order (ap locks_of (sym t.held) ∙ can.holds);
      may = may_perform m t.worker c.p.inside.own c.p.inside.holding now c.p.inside.time c.args.e.now (g.met.P.Parts.same_number c.args.self.now.parts c.p.inside.own ∙ (t.part ∙ sym t.number))
          (g.met.P.Parts.same_hand c.args.self.now.parts c.p.inside.own ∙ sym t.hand) (sym t.held) (sym (t.time (locks, now) can.read)) told.3;
    }

pub invariant_of-p : goal.invariant_of-p
invariant_of-p g c = let m = g.P.Parts.means c.args.self.now.parts in let t = c.p.invariant in let w = worker_is _ _ _ _ _ _ _ _ _ _ _ c.p.view_is c.p.invariant in
    let locks = c.requires.can.0 in let now = c.requires.can.1 in let e = c.args.e.now in
    let can = subst (λ z. CanCommit m z c.args.e.now locks now) w c.requires.can.2 in
    let told = c.raise-number.ensures.done t.worker locks now (ap (λ z. z.0) t.view) can in
    let alike = acts_alike m t.worker c.p.inside.own c.p.inside.holding now c.p.inside.time c.args.e.now (g.met.P.Parts.same_number c.args.self.now.parts c.p.inside.own ∙ (t.part ∙ sym t.number))
    (g.met.P.Parts.same_hand c.args.self.now.parts c.p.inside.own ∙ sym t.hand) (sym t.held) (sym (t.time (locks, now) can.read)) in
    let top = c.perform-reply.ensures.last in
    let its = same_Some c.locks-locks.result locks (sym c.locks-locks.ensures ∙ (ap locks_of (sym t.held) ∙ can.holds)) in
    committed_tied m _ _ _ _ _ _ _ c.p.inside.holding c.perform-reply.new.holding _ _ _ _ t e locks now (c.raise-number.result + 1) top.0 top.1
    (record { number = c.raise-number.result + 1; entry = entry_made c.p.inside.number e c.locks-locks.result c.p.inside.time c.perform-reply.result })
    (subst (λ z. 0 < z) t.allowance can.left) top.2 top.3 top.4 c.perform-reply.ensures.first
    (c.perform-reply.ensures.held ∙ (λ i. Rattle.ule_words.specs.Held.held_with (sym t.held i) (alike i).values))
    (sym (g.met.P.Parts.same_hand c.args.self.now.parts c.perform-reply.new.own) ∙ (ap m.hand c.perform-reply.ensures.own ∙ ((g.met.P.Parts.lawful c.args.self.now.parts).hands.put c.p.inside.own _ ∙ ap (λ a. a.hand) alike)))
    (sym (g.met.P.Parts.same_number c.args.self.now.parts c.perform-reply.new.own) ∙ (ap m.number c.perform-reply.ensures.own ∙ ((g.met.P.Parts.lawful c.args.self.now.parts).hands.put_number c.p.inside.own _ ∙ g.met.P.Parts.same_number c.args.self.now.parts c.p.inside.own)))
    c.push.ensures
    (λ i. record { number = c.raise-number.result + 1; entry = entry_made (sym t.number i) e (its i) (sym (t.time (locks, now) can.read) i) ((c.perform-reply.ensures.reply ∙ ap (λ a. a.reply) alike) i) })
    told.0

pub returns : goal.returns
returns g c = let m = g.P.Parts.means c.args.self.now.parts in let t = c.p.invariant in let w = worker_is _ _ _ _ _ _ _ _ _ _ _ c.p.view_is c.p.invariant in
    let locks = c.requires.can.0 in let now = c.requires.can.1 in let e = c.args.e.now in
    let can = subst (λ z. CanCommit m z c.args.e.now locks now) w c.requires.can.2 in
    let told = c.raise-number.ensures.done t.worker locks now (ap (λ z. z.0) t.view) can in
    let alike = acts_alike m t.worker c.p.inside.own c.p.inside.holding now c.p.inside.time c.args.e.now (g.met.P.Parts.same_number c.args.self.now.parts c.p.inside.own ∙ (t.part ∙ sym t.number))
    (g.met.P.Parts.same_hand c.args.self.now.parts c.p.inside.own ∙ sym t.hand) (sym t.held) (sym (t.time (locks, now) can.read)) in
    let may = subst (λ z. m.may z.number e now z.hand (held_values z.held)) (sym w) told.3 in
    let worker = ap (λ s. s.worker) (state_is c.raise-number.new.seat.table_id c.p.inside.number (g.P.Own.OwnPart.hand c.perform-reply.new.own) c.perform-reply.new.own c.raise-number.new.seat.me _ _ told.0) ∙ ap (λ z. committing m z e locks now (c.raise-number.result + 1)) (sym w) in
    let own = c.perform-reply.ensures.own ∙ (λ i. m.with_hand ((ap (λ s. s.own) c.p.view_is) i) ((alike ∙ ap (λ z. act_of m z e now) (sym w)) i).hand) in
    let is_reply = c.perform-reply.ensures.reply ∙ ap (λ a. a.reply) (alike ∙ ap (λ z. act_of m z e now) (sym w)) in
    let num = ap (λ s. m.number s.own) (sym c.p.view_is) ∙ (g.met.P.Parts.same_number c.args.self.now.parts c.p.inside.own ∙ (t.part ∙ (sym t.number ∙ ap (λ z. z.number) (sym w)))) in
    let hand = ap (λ s. m.hand s.own) (sym c.p.view_is) ∙ (g.met.P.Parts.same_hand c.args.self.now.parts c.p.inside.own ∙ (sym t.hand ∙ ap (λ z. z.hand) (sym w))) in record {
      locks = locks;
      now = now;
      read = c.requires.can.2.read;
      may = may;
      ticket = c.raise-number.result + 1;
      above = let a = told.2 in let b = ap (λ z. z.seen) w in omega arith;
      worker = worker;
      own = own;
      is_reply = is_reply;
      table = c.raise-number.ensures.place.0 ∙ ap (λ s. s.table) c.p.view_is;
      stands = stands_on m (g.met.P.Parts.lawful c.args.self.now.parts) c.args.p.now num hand e locks now c.requires.can.2 may (subst (λ z. AllByRecursion (λ y. y.now ≤ now) (entries_in z.mine)) (sym w) told.4)
          (pass_state_of c.raise-number.new.seat.table_id c.p.inside.number (g.P.Own.OwnPart.hand c.perform-reply.new.own) c.perform-reply.new.own c.raise-number.new.seat.me) (c.raise-number.result + 1) c.perform-reply.result worker own is_reply;
    }
