use Rattle.std.proofs.Common.{Some, slice_index, refl, sym, ◌∙◌, ap, arith, add-one}
use Rattle.ule_runq.specs.Set.{has}
use Rattle.ule_runq.specs.Runq.{list_at, is_eligible}
use Rattle.ule_runq.proofs.RunqLaws.{length-list_at-le}
use Rattle.ule_runq.proofs.Spelled.{head_at, next_at, small_entry, end_at, place_within, find_more, find_at_place, find_end}
use Rattle.ule_runq.proofs.runq.Runq.first_allowed_in.Goals as goal

pub loop-init : goal.loop-init
loop-init c = (
  ap (slice_index c.links-links.result.now.head) c.from.ensures ∙ head_at c.links-links.result.now c.args.self.now c.links-links.ensures.spells c.args.b c.requires,
  refl,
)

pub returns-then-at-eq-NONE : goal.returns-then-at-eq-NONE
returns-then-at-eq-NONE c =
    sym (find_end (is_eligible (has c.args.allowed.now) c.args.skip.now) (list_at c.args.self.now c.args.b) c.loop.counter
    (end_at c.args.self.now c.args.b c.loop.counter c.links-links.ensures.whole (sym c.loop.invariant.0 ∙ c.if-at-eq-NONE.true)) c.loop.invariant.1)

pub overflow_cast-t : goal.overflow_cast-t
overflow_cast-t c =
    let within = place_within c.args.self.now c.args.b c.loop.counter (λ none. c.if-at-eq-NONE.false (c.loop.invariant.0 ∙ none)) in
    let low = small_entry c.args.self.now c.args.b c.loop.counter c.links-links.ensures.whole within in
    let is = c.loop.invariant.0 in omega arith

pub invariant_of-t : goal.invariant_of-t
invariant_of-t c =
    let within = place_within c.args.self.now c.args.b c.loop.counter (λ none. c.if-at-eq-NONE.false (c.loop.invariant.0 ∙ none)) in
    let low = small_entry c.args.self.now c.args.b c.loop.counter c.links-links.ensures.whole within in
    let is = c.loop.invariant.0 in omega arith

pub returns-then-is_eligible : goal.returns-then-is_eligible
returns-then-is_eligible c =
    let within = place_within c.args.self.now c.args.b c.loop.counter (λ none. c.if-at-eq-NONE.false (c.loop.invariant.0 ∙ none)) in
    ap Some c.loop.invariant.0
    ∙ sym (find_at_place (is_eligible (has c.args.allowed.now) c.args.skip.now) (list_at c.args.self.now c.args.b) c.loop.counter within
    (ap (is_eligible (has c.args.allowed.now) c.args.skip.now) (sym c.loop.invariant.0) ∙ sym c.is_eligible.ensures ∙ c.if-is_eligible.true) c.loop.invariant.1)

pub bounds-links-from-in-loop : goal.bounds-links-from-in-loop
bounds-links-from-in-loop c =
    let within = place_within c.args.self.now c.args.b c.loop.counter (λ none. c.if-at-eq-NONE.false (c.loop.invariant.0 ∙ none)) in
    let low = small_entry c.args.self.now c.args.b c.loop.counter c.links-links.ensures.whole within in
    let is = c.from-in-loop.ensures in
    let at = c.loop.invariant.0 in omega arith

pub loop-preserved : goal.loop-preserved
loop-preserved c =
    let within = place_within c.args.self.now c.args.b c.loop.counter (λ none. c.if-at-eq-NONE.false (c.loop.invariant.0 ∙ none)) in
    rw (add-one c.loop.counter) (
      ap (slice_index c.links-links.result.now.next) (c.from-in-loop.ensures ∙ c.loop.invariant.0)
          ∙ next_at c.links-links.result.now c.args.self.now c.links-links.ensures.spells c.args.b c.loop.counter c.requires within,
      find_more (is_eligible (has c.args.allowed.now) c.args.skip.now) (list_at c.args.self.now c.args.b) c.loop.counter within
          (ap (is_eligible (has c.args.allowed.now) c.args.skip.now) (sym c.loop.invariant.0) ∙ sym c.is_eligible.ensures ∙ c.if-is_eligible.false) c.loop.invariant.1,
    )

pub returns : goal.returns
returns c =
    sym (find_end (is_eligible (has c.args.allowed.now) c.args.skip.now) (list_at c.args.self.now c.args.b) c.loop.counter
    (let most = length-list_at-le c.args.self.now c.args.b c.links-links.ensures.whole in omega arith) c.loop.invariant.1)
