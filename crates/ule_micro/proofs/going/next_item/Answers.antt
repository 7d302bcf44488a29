use Rattle.std.proofs.Common.{◌≡◌, ℕ, ◌+◌, ◌-◌, ◌<◌, List, length, sym, subst, ◌∙◌, ap, arith}
use Rattle.std.specs.Prelude.{Option, None, slice_get}
use Rattle.ule_micro.proofs.Lists.{there}
use Rattle.ule_micro.proofs.Programs.{all_begun, may_begin, has_item, goes_by, can_go_by}
use Rattle.ule_micro.proofs.going.next_item.Goals as goal

-- the command that was asked for is the one behind those begun
at_begun : {X : Type 0} (orders : List X) (k : ℕ) (o : Option X) → o ≡ slice_get orders (k + 1 - 1) → slice_get orders k ≡ o
at_begun orders k o e = let back : k ≡ k + 1 - 1 = omega arith in ap (slice_get orders) back ∙ sym e

pub returns-in_default-clause-item : goal.returns-in_default-clause-item
returns-in_default-clause-item g c = let m = g.P.Parts.means c.args.parts.now in let o = g.P.Parts.orders c.args.parts.now c.args.worker in let k = c.loop-order.begun in
    ap (λ f. f.item) (sym (all_begun m o k c.loop-order.own (at_begun o k _ c.in_default.ensures)) ∙ c.loop-order.invariant.same)

pub returns-in_default-clause-own : goal.returns-in_default-clause-own
returns-in_default-clause-own g c = let m = g.P.Parts.means c.args.parts.now in let o = g.P.Parts.orders c.args.parts.now c.args.worker in let k = c.loop-order.begun in
    ap (λ f. f.own) (sym (all_begun m o k c.loop-order.own (at_begun o k _ c.in_default.ensures)) ∙ c.loop-order.invariant.same)

pub returns-in_default-clause-begun : goal.returns-in_default-clause-begun
returns-in_default-clause-begun g c = let m = g.P.Parts.means c.args.parts.now in let o = g.P.Parts.orders c.args.parts.now c.args.worker in let k = c.loop-order.begun in
    ap (λ f. f.begun) (sym (all_begun m o k c.loop-order.own (at_begun o k _ c.in_default.ensures)) ∙ c.loop-order.invariant.same)

pub begin-requires : goal.begin-requires
begin-requires g c = let m = g.P.Parts.means c.args.parts.now in let o = g.P.Parts.orders c.args.parts.now c.args.worker in let k = c.loop-order.begun in
    (may_begin m o k c.loop-order.own c.in-Some.order (at_begun o k _ c.in-Some.ensures) c.loop-order.invariant.can).0

pub next-item-requires : goal.next-item-requires
next-item-requires g c = let m = g.P.Parts.means c.args.parts.now in let o = g.P.Parts.orders c.args.parts.now c.args.worker in let k = c.loop-order.begun in
    subst (λ x. m.goes_on x None) (sym c.begin.ensures) (may_begin m o k c.loop-order.own c.in-Some.order (at_begun o k _ c.in-Some.ensures) c.loop-order.invariant.can).1

pub returns-then-is_some-clause-item : goal.returns-then-is_some-clause-item
returns-then-is_some-clause-item g c = let m = g.P.Parts.means c.args.parts.now in let o = g.P.Parts.orders c.args.parts.now c.args.worker in let k = c.loop-order.begun in
    ap (λ f. f.item) (sym (has_item m o k c.loop-order.own c.in-Some.order c.next-item.result c.begin.new.own c.next-item.new.own (at_begun o k _ c.in-Some.ensures) c.begin.ensures c.next-item.ensures.item c.next-item.ensures.own (sym c.if-is_some.ensures))
    ∙ c.loop-order.invariant.same)

pub returns-then-is_some-clause-own : goal.returns-then-is_some-clause-own
returns-then-is_some-clause-own g c = let m = g.P.Parts.means c.args.parts.now in let o = g.P.Parts.orders c.args.parts.now c.args.worker in let k = c.loop-order.begun in
    ap (λ f. f.own) (sym (has_item m o k c.loop-order.own c.in-Some.order c.next-item.result c.begin.new.own c.next-item.new.own (at_begun o k _ c.in-Some.ensures) c.begin.ensures c.next-item.ensures.item c.next-item.ensures.own (sym c.if-is_some.ensures))
    ∙ c.loop-order.invariant.same)

pub returns-then-is_some-clause-begun : goal.returns-then-is_some-clause-begun
returns-then-is_some-clause-begun g c = let m = g.P.Parts.means c.args.parts.now in let o = g.P.Parts.orders c.args.parts.now c.args.worker in let k = c.loop-order.begun in
    ap (λ f. f.begun) (sym (has_item m o k c.loop-order.own c.in-Some.order c.next-item.result c.begin.new.own c.next-item.new.own (at_begun o k _ c.in-Some.ensures) c.begin.ensures c.next-item.ensures.item c.next-item.ensures.own (sym c.if-is_some.ensures))
    ∙ c.loop-order.invariant.same)

pub loop-order-smaller : goal.loop-order-smaller
loop-order-smaller g c = let o = g.P.Parts.orders c.args.parts.now c.args.worker in let k = c.loop-order.begun in
    let h : k < length o = there o k c.in-Some.order (at_begun o k _ c.in-Some.ensures) in omega arith

pub loop-order-preserved : goal.loop-order-preserved
loop-order-preserved g c = let m = g.P.Parts.means c.args.parts.now in let o = g.P.Parts.orders c.args.parts.now c.args.worker in let k = c.loop-order.begun in
    let at = at_begun o k _ c.in-Some.ensures in record {
      same = sym (goes_by m o k c.loop-order.own c.in-Some.order c.next-item.result c.begin.new.own c.next-item.new.own at c.begin.ensures c.next-item.ensures.item c.next-item.ensures.own (sym c.if-is_some.ensures)) ∙ c.loop-order.invariant.same;
      low = let h : k < length o = there o k c.in-Some.order at in omega arith;
      can = can_go_by m o k c.loop-order.own c.in-Some.order c.next-item.result c.begin.new.own c.next-item.new.own at c.begin.ensures c.next-item.ensures.item c.next-item.ensures.own (sym c.if-is_some.ensures) c.loop-order.invariant.can;
    }
