use Rattle.std.proofs.Common.{rules, ◌≡◌, ◌+◌, suc, drop, length, List, [], ap, sym, refl, subst, subst₂, ◌∙◌, arith}
use Rattle.std.specs.Prelude.{Some}
use lib.ListN.{length-map}
use Rattle.atomic_table.specs.Table.{opening, Splits}
use Rattle.ule_micro.proofs.Lists.{something}
use Rattle.ule_words.specs.Rule.{Shows, first_view}
use Rattle.ule_words.specs.Tells.{first_of, rest_of}
use Rattle.ule_words.specs.Workers.{first_worker, first_workers, one}
use Rattle.ule_words.specs.declared.view.View.{View}
use Rattle.ule_words.specs.declared.view.Worker.{Worker}
use Rattle.ule_words.proofs.Opens.{deals, first_drop, first_passes_all, first_passes_more, opens}
use Rattle.ule_words.proofs.locks.Locks.start.Goals as goal

abbrev view_of : {H G E R : Type 0} → List (Worker H G E R) → View H G E R
view_of ws = record { workers = ws }

pub new-requires : goal.new-requires
new-requires g c = let m = g.P.Parts.means c.args.parts in
    subst (λ s. Shows m (opening c.first_words-words.result s (first_view m))) (sym c.in_ok-slots.ensures)
    (opens m (g.met.P.Parts.lawful c.args.parts) c.first_words-words.result c.first_words-words.ensures)

pub split_seat-own_seat-requires : goal.split_seat-own_seat-requires
split_seat-own_seat-requires g c = let i = c.loop-worker.invariant in let m = g.P.Parts.means c.args.parts in let w = c.loop-worker.worker in
    let count = c.workers-count.ensures in let test = c.loop-worker-test.true in
    let at = something m.owns w (omega arith) in let own = at.0 in
    let v = ap (λ z. z.0) i.5 ∙ ap view_of (first_drop m 0 w m.owns own at.1) in
    let made = c.in-Ok.ensures.ok in (
      i.4,
      (let a = made.0 in let z = c.first_words-words.ensures.count in omega arith),
      subst₂ (λ k u. Splits (Shows (g.P.Parts.means k)) c.loop-worker.seat.id u (rest_of u) (first_of u)) (sym made.5) (sym v) (deals m c.loop-worker.seat.id (first_worker m (0 + w) own) (drop (suc w) (first_workers m 0 m.owns))),
    )

pub first_pass-requires-clause-knows : goal.first_pass-requires-clause-knows
first_pass-requires-clause-knows g c = λ own at. let i = c.loop-worker.invariant in let m = g.P.Parts.means c.args.parts in let w = c.loop-worker.worker in
    let v = ap (λ z. z.0) i.5 ∙ ap view_of (first_drop m 0 w m.owns own at) in
    c.split_seat-own_seat.ensures.4 ∙ ((λ k. (first_of (v k), [])) ∙ ap (λ n. (one (first_worker m n own), [])) (let z : 0 + w ≡ w = omega arith in z))

pub loop-worker-preserved : goal.loop-worker-preserved
loop-worker-preserved g c = let i = c.loop-worker.invariant in let m = g.P.Parts.means c.args.parts in let w = c.loop-worker.worker in
    let count = c.workers-count.ensures in let test = c.loop-worker-test.true in
    let at = something m.owns w (omega arith) in let own = at.0 in
    let v = ap (λ z. z.0) i.5 ∙ ap view_of (first_drop m 0 w m.owns own at.1) in
    let next : suc w ≡ w + 1 = omega arith in (
      refl,
      refl,
      refl,
      (let a = test in omega arith),
      c.split_seat-own_seat.ensures.0 ∙ i.4,
      c.split_seat-own_seat.ensures.2 ∙ ((λ k. (rest_of (v k), ap (λ z. z.1) i.5 k)) ∙ ap (λ n. (view_of (drop n (first_workers m 0 m.owns)), [])) next),
      search rules,
      c.push_reserved.ensures.len ∙ ap (λ n. n + 1) i.7,
      first_passes_more m w _ c.loop-worker.list.items c.push_reserved.new.self.items c.in_ok-pass.pass i.8 (c.in_ok-pass.ensures.table ∙ (c.split_seat-own_seat.ensures.3 ∙ i.4)) c.in_ok-pass.ensures.own c.in_ok-pass.ensures.worker c.push_reserved.ensures.items,
    )

pub invariant_of-result : goal.invariant_of-result
invariant_of-result g c = let made = c.in-Ok.ensures.ok in let law = g.met.P.Parts.lawful c.args.parts in record {
  same = made.5;
  racked = c.in_ok-rack.ensures;
  sized = (made.0 ∙ c.first_words-words.ensures.count, made.1 ∙ (ap length c.in_ok-slots.ensures ∙ (length-map (g.P.Parts.means c.args.parts).values (λ v. Some v) ∙ law.small.locks)));
}

pub returns-clause-passes : goal.returns-clause-passes
returns-clause-passes g c = let i = c.loop-worker.invariant in let m = g.P.Parts.means c.args.parts in let count = c.workers-count.ensures in let test = c.loop-worker-test.false in let low = i.3 in
    first_passes_all m _ _ _ _ i.8 (let z : c.loop-worker.worker ≡ length m.owns = omega arith in z)
