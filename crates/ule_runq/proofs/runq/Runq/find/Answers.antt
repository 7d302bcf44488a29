use Rattle.std.proofs.Common.{slice_index, refl, sym, ◌∙◌, ap, arith}
use Rattle.std.proofs.lemmas.Bool.{true≢false}
use Rattle.ule_runq.proofs.RunqLaws.{bucket_in-none, place_in-none, times_place}
use Rattle.ule_runq.proofs.Spelled.{absent_from_bucket, placed_read, head_at, met, step_small, walked_on, nowhere}
use Rattle.ule_runq.proofs.runq.Runq.find.Goals as goal

pub returns-then-b-eq-NONE-clause-value : goal.returns-then-b-eq-NONE-clause-value
returns-then-b-eq-NONE-clause-value c =
    let absent = absent_from_bucket _ c.args.self.now c.args.t c.links-links.ensures.spells (rw (c.from.ensures, c.t.view_is) at c.if-b-eq-NONE.true) in
    sym (place_in-none c.args.self.now c.args.t (bucket_in-none c.args.self.now c.args.t absent))

pub returns-then-b-eq-NONE-clause-none : goal.returns-then-b-eq-NONE-clause-none
returns-then-b-eq-NONE-clause-none c =
    let absent = absent_from_bucket _ c.args.self.now c.args.t c.links-links.ensures.spells (rw (c.from.ensures, c.t.view_is) at c.if-b-eq-NONE.true) in
    ((λ _. absent), (λ _. refl))

pub bounds-links-from-2 : goal.bounds-links-from-2
bounds-links-from-2 c =
    let place = placed_read _ _ c.args.t _ _ c.links-links.ensures.spells c.from.ensures c.t.view_is c.t.invariant c.if-b-eq-NONE.false in
    let low = place.1.bucket in let is = c.from-2.ensures in omega arith

pub loop-position-init : goal.loop-position-init
loop-position-init c k is =
    let place = placed_read _ _ c.args.t _ _ c.links-links.ensures.spells c.from.ensures c.t.view_is c.t.invariant c.if-b-eq-NONE.false in (
      omega arith,
      ap (slice_index c.links-links.result.now.head) c.from-2.ensures
          ∙ head_at c.links-links.result.now c.args.self.now c.links-links.ensures.spells (slice_index c.links-links.result.now.bucket c.from.result) place.1.bucket,
    )

pub overflow_cast-result : goal.overflow_cast-result
overflow_cast-result c =
    let place = placed_read _ _ c.args.t _ _ c.links-links.ensures.spells c.from.ensures c.t.view_is c.t.invariant c.if-b-eq-NONE.false in
    let low = place.1.bucket in omega arith

pub returns-then-at-from-clause-value : goal.returns-then-at-from-clause-value
returns-then-at-from-clause-value c =
    let place = placed_read _ _ c.args.t _ _ c.links-links.ensures.spells c.from.ensures c.t.view_is c.t.invariant c.if-b-eq-NONE.false in
    sym (met _ _ _ _ _ _ _ _ place c.links-links.ensures.whole c.loop-position.invariant c.if-at-from.true c.from-in-loop-position.ensures c.t.view_is)

pub returns-then-at-from-clause-none : goal.returns-then-at-from-clause-none
returns-then-at-from-clause-none c =
    let place = placed_read _ _ c.args.t _ _ c.links-links.ensures.spells c.from.ensures c.t.view_is c.t.invariant c.if-b-eq-NONE.false in
    let found = met _ _ _ _ _ _ _ _ place c.links-links.ensures.whole c.loop-position.invariant c.if-at-from.true c.from-in-loop-position.ensures c.t.view_is in
    let one = times_place c.args.self.now c.args.t _ _ c.links-links.ensures.whole found in
    ((λ none. absurd (true≢false none)), (λ absent. absurd (omega arith)))

pub returns-then-at-from-clause-found : goal.returns-then-at-from-clause-found
returns-then-at-from-clause-found c =
    let place = placed_read _ _ c.args.t _ _ c.links-links.ensures.spells c.from.ensures c.t.view_is c.t.invariant c.if-b-eq-NONE.false in
    let found = met _ _ _ _ _ _ _ _ place c.links-links.ensures.whole c.loop-position.invariant c.if-at-from.true c.from-in-loop-position.ensures c.t.view_is in
    times_place c.args.self.now c.args.t _ _ c.links-links.ensures.whole found

pub returns-then-at-from-clause-within : goal.returns-then-at-from-clause-within
returns-then-at-from-clause-within c =
    let place = placed_read _ _ c.args.t _ _ c.links-links.ensures.spells c.from.ensures c.t.view_is c.t.invariant c.if-b-eq-NONE.false in
    (place.1.bucket, omega arith)

pub offset_bounds-links-from-in-loop-position : goal.offset_bounds-links-from-in-loop-position
offset_bounds-links-from-in-loop-position c =
    let place = placed_read _ _ c.args.t _ _ c.links-links.ensures.spells c.from.ensures c.t.view_is c.t.invariant c.if-b-eq-NONE.false in
    let low = (step_small _ _ _ _ _ _ _ place c.links-links.ensures.whole c.loop-position.invariant c.from-in-loop-position-2.ensures) in omega arith

pub bounds-links-from-in-loop-position : goal.bounds-links-from-in-loop-position
bounds-links-from-in-loop-position c =
    let place = placed_read _ _ c.args.t _ _ c.links-links.ensures.spells c.from.ensures c.t.view_is c.t.invariant c.if-b-eq-NONE.false in
    step_small _ _ _ _ _ _ _ place c.links-links.ensures.whole c.loop-position.invariant c.from-in-loop-position-2.ensures

pub loop-position-preserved : goal.loop-position-preserved
loop-position-preserved c =
    let place = placed_read _ _ c.args.t _ _ c.links-links.ensures.spells c.from.ensures c.t.view_is c.t.invariant c.if-b-eq-NONE.false in
    walked_on _ _ c.args.t _ _ _ _ _ _ place c.links-links.ensures.spells c.loop-position.invariant c.from-in-loop-position-2.ensures c.if-at-from.false
    c.from-in-loop-position.ensures c.t.view_is

pub returns-clause-value : goal.returns-clause-value
returns-clause-value c =
    let place = placed_read _ _ c.args.t _ _ c.links-links.ensures.spells c.from.ensures c.t.view_is c.t.invariant c.if-b-eq-NONE.false in
    absurd (nowhere _ _ _ _ _ _ place c.loop-position.invariant c.loop-position-test.false)

pub returns-clause-none : goal.returns-clause-none
returns-clause-none c =
    let place = placed_read _ _ c.args.t _ _ c.links-links.ensures.spells c.from.ensures c.t.view_is c.t.invariant c.if-b-eq-NONE.false in
    absurd (nowhere _ _ _ _ _ _ place c.loop-position.invariant c.loop-position-test.false)
