-- The tests whether two are the same one hold exactly of the same.
use Rattle.std.proofs.Common.{◌≡◌, ℕ, Bool, true, ◌==◌, ◌&&◌, Option, ◌∙◌, ap, rules}
use Rattle.std.specs.Option.{option_eq}
use Rattle.std.specs.Ordering.{int_eq}
use Rattle.std.proofs.lemmas.Bool.{and_parts, eqb-true}
use Rattle.std.proofs.lemmas.Bool.Decides.{Decides-int_eq}
use Rattle.ule_prio.specs.contracts.class.ClassPartialEq.TheImpl.{ghosts as classes}
use Rattle.ule_prio.specs.declared.class.Class.{Class}
use Rattle.ule_score.specs.contracts.place.PlacePartialEq.TheImpl.{ghosts as places}
use Rattle.ule_score.specs.declared.place.Place.{Place}
use Rattle.ule_score.specs.declared.record.CpuLine.{CpuLine}
use Rattle.ule_types.specs.declared.event.Event.{Event}
use Rattle.ule_types.specs.declared.event.Reply.{Reply}
use Rattle.ule_types.specs.declared.event.Reply.TheVariants as reply
use Rattle.ule_types.specs.declared.outcome.ThreadLine.{ThreadLine}
use Rattle.ule_types.specs.contracts.outcome.ThreadLineEq.TheImpl.Laws.{laws-law as line_laws}
use Rattle.ule_check.specs.Same.{is_same_cpu_line, is_same_event, is_same_thread_line, is_same_reply}

-- two tests that hold do so together
pub and-both : (a b : Bool) → a ≡ true → b ≡ true → (a && b) ≡ true
and-both a b first second = ap (λ x. x && b) first ∙ second

-- places that are tested to be the same are
same_place : (x y : Place) → places.eq x y ≡ true → x ≡ y
same_place x y is = search rules

-- so are classes
same_class : (x y : Class) → classes.eq x y ≡ true → x ≡ y
same_class x y is = search rules

-- so are optional numbers
same_option : (x y : Option ℕ) → option_eq ◌==◌ x y ≡ true → x ≡ y
same_option x y is = search rules

-- so are events
pub same_event : (x y : Event) → is_same_event x y ≡ true → x ≡ y
same_event x y is = search rules

-- an event is tested to be itself
pub event_itself : (x : Event) → is_same_event x x ≡ true
event_itself x = search rules

-- the first case stands alone, so that the others are searched one by one too
pub same_reply : (x y : Reply) → is_same_reply x y ≡ true → x ≡ y
same_reply (reply.Ticked a b c) y is = search rules
same_reply x y is = search rules

-- a reply is tested to be itself
pub reply_itself : (x : Reply) → is_same_reply x x ≡ true
reply_itself x = search rules

-- lines of threads that are tested to be the same are, field by field
pub same_line : (x y : ThreadLine) → is_same_thread_line x y ≡ true → x ≡ y
same_line x y is =
    let p0 = and_parts (x.id == y.id) _ is in
    let p1 = and_parts (places.eq x.place y.place) _ p0.1 in
    let p2 = and_parts (x.pos == y.pos) _ p1.1 in
    let p3 = and_parts (classes.eq x.class y.class) _ p2.1 in
    let p4 = and_parts (int_eq x.nice y.nice) _ p3.1 in
    let p5 = and_parts (x.base == y.base) _ p4.1 in
    let p6 = and_parts (option_eq ◌==◌ x.lent y.lent) _ p5.1 in
    let p7 = and_parts (x.priority == y.priority) _ p6.1 in
    let p8 = and_parts (x.run == y.run) _ p7.1 in
    let p9 = and_parts (x.slept == y.slept) _ p8.1 in
    let p10 = and_parts (x.ticks == y.ticks) _ p9.1 in
    let p11 = and_parts (x.ltick == y.ltick) _ p10.1 in
    let p12 = and_parts (x.ftick == y.ftick) _ p11.1 in
    let p13 = and_parts (x.slice_count == y.slice_count) _ p12.1 in
    let p14 = and_parts (x.slept_at == y.slept_at) _ p13.1 in
    let p15 = and_parts (x.last == y.last) _ p14.1 in
    let p16 = and_parts (x.last_run == y.last_run) _ p15.1 in
    let p17 = and_parts (option_eq ◌==◌ x.bound y.bound) _ p16.1 in
    let p18 = and_parts (option_eq ◌==◌ x.parent y.parent) _ p17.1 in
    (λ i. record {
      id = (eqb-true (x.id) (y.id) (p0.0)) i;
      place = (same_place (x.place) (y.place) (p1.0)) i;
      pos = (eqb-true (x.pos) (y.pos) (p2.0)) i;
      class = (same_class (x.class) (y.class) (p3.0)) i;
      nice = ((Decides-int_eq (x.nice) (y.nice)).0 (p4.0)) i;
      base = (eqb-true (x.base) (y.base) (p5.0)) i;
      lent = (same_option (x.lent) (y.lent) (p6.0)) i;
      priority = (eqb-true (x.priority) (y.priority) (p7.0)) i;
      run = (eqb-true (x.run) (y.run) (p8.0)) i;
      slept = (eqb-true (x.slept) (y.slept) (p9.0)) i;
      ticks = (eqb-true (x.ticks) (y.ticks) (p10.0)) i;
      ltick = (eqb-true (x.ltick) (y.ltick) (p11.0)) i;
      ftick = (eqb-true (x.ftick) (y.ftick) (p12.0)) i;
      slice_count = (eqb-true (x.slice_count) (y.slice_count) (p13.0)) i;
      slept_at = (eqb-true (x.slept_at) (y.slept_at) (p14.0)) i;
      last = (eqb-true (x.last) (y.last) (p15.0)) i;
      last_run = (eqb-true (x.last_run) (y.last_run) (p16.0)) i;
      bound = (same_option (x.bound) (y.bound) (p17.0)) i;
      parent = (same_option (x.parent) (y.parent) (p18.0)) i;
      word = (same_option (x.word) (y.word) (p18.1)) i;
    })

-- a line of a thread is tested to be itself
pub line_itself : (x : ThreadLine) → is_same_thread_line x x ≡ true
line_itself x = line_laws.refl x

-- lines of CPUs that are tested to be the same are
pub same_cpu_line : (x y : CpuLine) → is_same_cpu_line x y ≡ true → x ≡ y
same_cpu_line x y is = search rules

-- a line of a CPU is tested to be itself
pub cpu_line_itself : (x : CpuLine) → is_same_cpu_line x x ≡ true
cpu_line_itself x = search rules
