use Rattle.std.proofs.Common.{◌<◌, ◌≤◌, [], ◌∷◌, ◌++◌, length, ap, sym, subst, ◌∙◌, arith}
use Rattle.std.specs.Slots.{slots_items}
use Rattle.std.proofs.lemmas.Option.{same_Some}
use Rattle.ule_words.specs.Ends.{Told}
use Rattle.ule_words.specs.Tells.{both_of}
use Rattle.ule_words.proofs.Endings.{closes, closes_none, next_of, one_back, room_left}
use Rattle.ule_words.proofs.Joins.{gathers}
use Rattle.ule_words.proofs.Places.{nil_of}
use Rattle.ule_words.proofs.locks.Locks.close.Goals as goal

-- where there is no worker
pub note_end-requires-clause-lies : goal.note_end-requires-clause-lies
note_end-requires-clause-lies g c = let whole = c.take_out-parts.result in let all = c.args.passes.now.list.items in
    let e = closes_none g.P.Parts.means whole.parts whole.table.shared.key whole.same whole.table.shared.table_id all (nil_of all (sym c.args.passes.now.list.ok.0 ∙ c.in_default.ensures.cases.0)) (c.requires.back whole c.take_out-parts.ensures.was)
    (slots_items c.close-closed.result.words) (slots_items c.close-closed.result.slots) c.close-closed.ensures.values.2 c.into_vec-tapes.result.items (c.into_vec-tapes.ensures ∙ whole.racked.0) in
    (e.0, e.2)

told_none : (g : _) (c : goal.After-drop-parts g) → Told (g.P.Parts.means c.take_out-parts.result.parts) (g.P.Parts.notes c.take_out-parts.result.parts) c.args.passes.now.list.items c.args.out.now c.note_end.new.out
told_none g c = let whole = c.take_out-parts.result in let all = c.args.passes.now.list.items in
    let e = closes_none g.P.Parts.means whole.parts whole.table.shared.key whole.same whole.table.shared.table_id all (nil_of all (sym c.args.passes.now.list.ok.0 ∙ c.in_default.ensures.cases.0)) (c.requires.back whole c.take_out-parts.ensures.was)
    (slots_items c.close-closed.result.words) (slots_items c.close-closed.result.slots) c.close-closed.ensures.values.2 c.into_vec-tapes.result.items (c.into_vec-tapes.ensures ∙ whole.racked.0) in
    record { state = e.0; left = e.1; out = c.note_end.ensures.noted e.0 e.2 }

pub returns-in_default-clause-told : goal.returns-in_default-clause-told
returns-in_default-clause-told g c = λ l is. subst (λ z. Told (g.P.Parts.means z.parts) (g.P.Parts.notes z.parts) c.args.passes.now.list.items c.args.out.now c.note_end.new.out)
    (same_Some c.take_out-parts.result l (sym c.take_out-parts.ensures.was ∙ is)) (told_none g c)

-- the passes that are gathered
pub into_parts-seat-requires : goal.into_parts-seat-requires
into_parts-seat-requires g c = let whole = c.take_out-parts.result in
    (one_back (g.P.Parts.means whole.parts) whole.table.shared.table_id c.args.passes.now.list.items (c.requires.back whole c.take_out-parts.ensures.was) _ [] c.in-Some.last c.in-Some.ensures.items).0

pub loop-pass-init : goal.loop-pass-init
loop-pass-init g c = let whole = c.take_out-parts.result in (
  c.into_parts-seat.ensures.table ∙ (one_back (g.P.Parts.means whole.parts) whole.table.shared.table_id c.args.passes.now.list.items (c.requires.back whole c.take_out-parts.ensures.was) _ [] c.in-Some.last c.in-Some.ensures.items).1,
  (c.in-Some.last ∷ [], c.in-Some.ensures.items, c.into_parts-seat.ensures.knows, ap (λ z. z.items) c.push.ensures ∙ λ i. whole.racked.0 i ++ c.into_parts-seat.ensures.tape i ∷ []),
  subst (λ z. 255 ≤ z.room) (sym c.push.ensures) whole.racked.1,
)

pub into_parts-other-requires : goal.into_parts-other-requires
into_parts-other-requires g c = let whole = c.take_out-parts.result in let all = c.args.passes.now.list.items in let k = c.loop-pass.invariant.1 in
    (one_back (g.P.Parts.means whole.parts) whole.table.shared.table_id all (c.requires.back whole c.take_out-parts.ensures.was) _ k.0 c.in-Some-pop.pass (next_of all _ _ c.in-Some-pop.pass _ _ k c.in-Some-pop.ensures.items)).0

pub push-requires-in-Some-pop : goal.push-requires-in-Some-pop
push-requires-in-Some-pop g c = let whole = c.take_out-parts.result in let all = c.args.passes.now.list.items in let k = c.loop-pass.invariant.1 in
    let back = c.requires.back whole c.take_out-parts.ensures.was in let few = (g.met.P.Parts.lawful whole.parts).small.workers in
    let a = room_left all _ k.0 c.in-Some-pop.pass (next_of all _ _ c.in-Some-pop.pass _ _ k c.in-Some-pop.ensures.items) (subst (λ z. z ≤ 255) (sym back.count) few) in
    let room = c.loop-pass.invariant.2 in subst (λ z. length z < c.loop-pass.rack.room) (sym k.3) (omega arith)

pub join_seat-requires : goal.join_seat-requires
join_seat-requires g c = let whole = c.take_out-parts.result in let all = c.args.passes.now.list.items in let k = c.loop-pass.invariant.1 in (
  c.loop-pass.invariant.0,
  c.into_parts-other.ensures.table
      ∙ (one_back (g.P.Parts.means whole.parts) whole.table.shared.table_id all (c.requires.back whole c.take_out-parts.ensures.was) _ k.0 c.in-Some-pop.pass (next_of all _ _ c.in-Some-pop.pass _ _ k c.in-Some-pop.ensures.items)).1,
  ap (λ z. z.1) c.into_parts-other.ensures.knows,
  (let e = whole.sized.0 in omega arith),
  gathers (g.P.Parts.means whole.table.shared.key) _ _ _ _,
)

pub loop-pass-preserved : goal.loop-pass-preserved
loop-pass-preserved g c = let all = c.args.passes.now.list.items in let k = c.loop-pass.invariant.1 in (
  c.join_seat.ensures.0 ∙ c.loop-pass.invariant.0,
  (
    c.in-Some-pop.pass ∷ k.0,
    next_of all _ _ c.in-Some-pop.pass _ _ k c.in-Some-pop.ensures.items,
    c.join_seat.ensures.2 ∙ (λ i. (both_of (k.2 i).0 (c.into_parts-other.ensures.knows i).0, (k.2 i).1)),
    ap (λ z. z.items) c.push-in-Some-pop.ensures ∙ λ i. k.3 i ++ c.into_parts-other.ensures.tape i ∷ [],
  ),
  subst (λ z. 255 ≤ z.room) (sym c.push-in-Some-pop.ensures) c.loop-pass.invariant.2,
)

-- once all are gathered
pub note_end-requires-2-clause-lies : goal.note_end-requires-2-clause-lies
note_end-requires-2-clause-lies g c = let whole = c.take_out-parts.result in let all = c.args.passes.now.list.items in let k = c.loop-pass.invariant.1 in
    let e = closes g.P.Parts.means whole.parts whole.table.shared.key whole.same whole.table.shared.table_id all k.0 (k.1 ∙ ap (λ l. l ++ k.0) (nil_of _ (sym c.loop-pass.passes.list.ok.0 ∙ c.in_default-pop.ensures.cases.0))) (c.requires.back whole c.take_out-parts.ensures.was)
    _ _ (ap (λ z. z.0) k.2) (slots_items c.close_with-closed.result.words) (slots_items c.close_with-closed.result.slots) c.close_with-closed.ensures.values.2 c.into_vec-tapes-2.result.items (c.into_vec-tapes-2.ensures ∙ k.3) in
    (e.0, e.2)

pub note_end-requires-2-clause-room : goal.note_end-requires-2-clause-room
note_end-requires-2-clause-room g c = c.requires.room c.take_out-parts.result c.take_out-parts.ensures.was

told : (g : _) (c : goal.After-drop-parts-2 g) → Told (g.P.Parts.means c.take_out-parts.result.parts) (g.P.Parts.notes c.take_out-parts.result.parts) c.args.passes.now.list.items c.args.out.now c.note_end-2.new.out
told g c = let whole = c.take_out-parts.result in let all = c.args.passes.now.list.items in let k = c.loop-pass.invariant.1 in
    let e = closes g.P.Parts.means whole.parts whole.table.shared.key whole.same whole.table.shared.table_id all k.0 (k.1 ∙ ap (λ l. l ++ k.0) (nil_of _ (sym c.loop-pass.passes.list.ok.0 ∙ c.in_default-pop.ensures.cases.0))) (c.requires.back whole c.take_out-parts.ensures.was)
    _ _ (ap (λ z. z.0) k.2) (slots_items c.close_with-closed.result.words) (slots_items c.close_with-closed.result.slots) c.close_with-closed.ensures.values.2 c.into_vec-tapes-2.result.items (c.into_vec-tapes-2.ensures ∙ k.3) in
    record { state = e.0; left = e.1; out = c.note_end-2.ensures.noted e.0 e.2 }

pub returns-clause-told : goal.returns-clause-told
returns-clause-told g c = λ l is. subst (λ z. Told (g.P.Parts.means z.parts) (g.P.Parts.notes z.parts) c.args.passes.now.list.items c.args.out.now c.note_end-2.new.out)
    (same_Some c.take_out-parts.result l (sym c.take_out-parts.ensures.was ∙ is)) (told g c)
