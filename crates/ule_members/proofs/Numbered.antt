-- The numbers of the threads after a step, what each number finds, and what each record keeps.
use Rattle.std.proofs.Common.{◌≡◌, ℕ, ◌^◌, ◌<◌, ◌==◌, Bool, true, false, List, [], ◌∷◌, Option, Some, None, if◌then◌else◌, refl, sym, ◌∙◌, ap, subst}
use Rattle.std.specs.Prelude.{IfSome}
use Rattle.std.specs.List.{AllByRecursion}
use Rattle.std.specs.Option.{option_map}
use Rattle.std.proofs.lemmas.Option.{none-some, same_Some}
use Rattle.ule_score.specs.Bounds.{KeepsBounds}
use Rattle.ule_score.specs.Changes.{HasNumbers, HasSlice, IsBy, IsSoundChange, RecordChange, changed, forked, forks, placed, ran, record_after, runs, sleeps, ticked, woken}
use Rattle.ule_score.specs.declared.record.Settings.{Settings}
use Rattle.ule_score.specs.declared.record.ThreadRecord.{ThreadRecord}
use Rattle.ule_types.specs.declared.event.Event.{Event}
use Rattle.ule_model.specs.Conditions.{IsByIfReached, IsPossible}
use Rattle.ule_model.specs.Events.{is_reached}
use Rattle.ule_model.specs.Frames.{AreTouched, ComesTo, IsParent, IsSoundIn, IsTouched, as_it_was, by_change, left, reached}
use Rattle.ule_model.specs.Shows.{numbers_of}
use Rattle.ule_model.specs.Step.{step}
use Rattle.ule_model.specs.WellMade.{IsMade, IsWellMadeWorld}
use Rattle.ule_model.specs.World.{Member, World, is_numbered, thread_of}
use Rattle.ule_score.proofs.ChangeLaws.{change_by_now, change_bounds, change_numbers}
use Rattle.ule_members.proofs.Membership.{all_has, has_thread_of}
use Rattle.ule_members.proofs.Steps.{step_is_made, step_touches}
use Rattle.ule_members.proofs.Touches.{touched_number}
use Rattle.ule_members.proofs.Within.{all_along, all_both}

-- ---- one record

-- what each change keeps that a step of a world may make, a record that went through such changes keeps
pub comes_keeps : (w : World) (now : ℕ) (P : ThreadRecord → Type 0) →
    ((change : RecordChange) (r : ThreadRecord) → IsSoundIn w now change → P r → P (record_after w.settings now change r)) →
    (r n : ThreadRecord) → ComesTo w now r n → P r → P n
comes_keeps w now P keeps _ _ (as_it_was r) holds = holds
comes_keeps w now P keeps _ _ (by_change change r n sound rest) holds =
    comes_keeps w now P keeps (record_after w.settings now change r) n rest (keeps change r sound holds)

-- what each record of a world keeps, the record of a parent keeps
pub parent_keeps : (w : World) (now : ℕ) (P : ThreadRecord → Type 0) (parent : ThreadRecord) → AllByRecursion (λ m. P m.thread) w.members → IsParent w now parent → P parent
parent_keeps w now P parent all is = split (thread_of parent.id w.members) refl is.found
  where
    split : (o : Option Member) → thread_of parent.id w.members ≡ o → option_map (λ m. m.thread) o ≡ Some parent → P parent
    split None found none = absurd (none-some parent none)
    split (Some m) found is =
        subst P (same_Some m.thread parent is) (all_has (λ x. P x.thread) m w.members all (has_thread_of parent.id m w.members found).0)

-- a change that a step of a world may make is sound where each record of the world keeps its bounds
sound_where_bounded : (w : World) (now : ℕ) → AllByRecursion (λ m. KeepsBounds m.thread) w.members → (change : RecordChange) → IsSoundIn w now change → IsSoundChange now change
sound_where_bounded w now all ran sound = tt
sound_where_bounded w now all runs sound = tt
sound_where_bounded w now all sleeps sound = tt
sound_where_bounded w now all woken sound = tt
sound_where_bounded w now all (ticked load) sound = tt
sound_where_bounded w now all (placed c) sound = tt
sound_where_bounded w now all (changed change) sound = sound
sound_where_bounded w now all forks sound = tt
sound_where_bounded w now all (forked parent c load) sound =
    (parent_keeps w now KeepsBounds parent all sound.0, sound.0.by_now, sound.0.numbers.nice, sound.0.numbers.base)

-- what a record keeps that went through changes no earlier than what is noted of it
pub record IsInBounds (now : ℕ) (r : ThreadRecord) : Type 0 where
  pub numbers : HasNumbers r
  pub by_now : IsBy now r
  pub bounds : KeepsBounds r

-- each sound change keeps it
in_bounds_after : (settings : Settings) (now : ℕ) → HasSlice settings → now < 2 ^ 36 → (change : RecordChange) (r : ThreadRecord) → IsSoundChange now change →
    IsInBounds now r → IsInBounds now (record_after settings now change r)
in_bounds_after settings now slice below change r sound h = record {
  numbers = change_numbers settings now change r sound h.numbers;
  by_now = change_by_now settings now change r h.by_now;
  bounds = change_bounds settings now change r slice sound h.numbers.nice h.by_now below h.bounds;
}

-- ---- lists

-- what a number finds before and after a step: a thread that it touches or leaves, or none both times
pub record IsFoundTouched (w : World) (worker : ℕ) (e : Event) (now : ℕ) (m n : Option Member) : Type 0 where
  pub there : IfSome m (λ x. (y : Member) × ((n ≡ Some y) × IsTouched w worker e now x y))
  pub absent : m ≡ None → n ≡ None

module _ (w : World) (worker : ℕ) (e : Event) (now : ℕ) where
  -- threads that are touched or left have their numbers
  pub touched_numbers : (ms ns : List Member) → AreTouched w worker e now ms ns → numbers_of ns ≡ numbers_of ms
  touched_numbers [] [] touched = refl
  touched_numbers [] (n ∷ ns) touched = absurd touched
  touched_numbers (m ∷ ms) [] touched = absurd touched
  touched_numbers (m ∷ ms) (n ∷ ns) touched =
      ap (λ (u : ℕ). u ∷ numbers_of ns) (touched_number w worker e now m n touched.0) ∙ ap (λ (us : List ℕ). m.thread.id ∷ us) (touched_numbers ms ns touched.1)

  -- a number finds among them a thread that is touched or left, or none both times
  pub touched_found : (u : ℕ) (ms ns : List Member) → AreTouched w worker e now ms ns → IsFoundTouched w worker e now (thread_of u ms) (thread_of u ns)
  touched_found u [] [] touched = record { there = tt; absent = λ none. none }
  touched_found u [] (n ∷ ns) touched = absurd touched
  touched_found u (m ∷ ms) [] touched = absurd touched
  touched_found u (m ∷ ms) (n ∷ ns) touched =
      subst (λ (d : Bool). IsFoundTouched w worker e now (thread_of u (m ∷ ms)) (if d then Some n else thread_of u ns))
      (ap (λ (i : ℕ). i == u) (sym (touched_number w worker e now m n touched.0))) (split (is_numbered u m) (touched_found u ms ns touched.1))
    where
      split : (d : Bool) → IsFoundTouched w worker e now (thread_of u ms) (thread_of u ns) →
          IsFoundTouched w worker e now (if d then Some m else thread_of u ms) (if d then Some n else thread_of u ns)
      split true rest = record { there = (n, (refl, touched.0)); absent = λ none. absurd (none-some m (sym none)) }
      split false rest = rest

  -- what follows for each thread that is left or reached follows for each of the list
  pub touched_each : (P Q : Member → Type 0) → ((m : Member) → P m → Q m) →
      ((m n : Member) → is_reached w worker e m.place ≡ true → ComesTo w now m.thread n.thread → P m → Q n) →
      (ms ns : List Member) → AreTouched w worker e now ms ns → AllByRecursion P ms → AllByRecursion Q ns
  touched_each P Q stay pass [] [] touched all = tt
  touched_each P Q stay pass [] (n ∷ ns) touched all = absurd touched
  touched_each P Q stay pass (m ∷ ms) [] touched all = absurd touched
  touched_each P Q stay pass (m ∷ ms) (n ∷ ns) touched all = (one touched.0, touched_each P Q stay pass ms ns touched.1 all.1)
    where
      one : IsTouched w worker e now m n → Q n
      one (left same) = subst Q same (stay m all.0)
      one (reached from to through) = pass m n from through all.0

  module _ (made : IsWellMadeWorld w) (possible : IsPossible w worker e now) where
    -- ---- after a step

    -- the numbers of the threads stay
    pub step_numbers : numbers_of (step w worker e now).0.members ≡ numbers_of w.members
    step_numbers = touched_numbers w.members (step w worker e now).0.members (step_touches w worker e now made possible)

    -- each number finds a thread that the step touches or leaves, or none before and after
    pub step_found : (u : ℕ) → IsFoundTouched w worker e now (thread_of u w.members) (thread_of u (step w worker e now).0.members)
    step_found u = touched_found u w.members (step w worker e now).0.members (step_touches w worker e now made possible)

    -- what each change of a record keeps that a step may make, each record keeps
    pub step_records : (P : ThreadRecord → Type 0) →
        ((change : RecordChange) (r : ThreadRecord) → IsSoundIn w now change → P r → P (record_after w.settings now change r)) →
        AllByRecursion (λ m. P m.thread) w.members → AllByRecursion (λ m. P m.thread) (step w worker e now).0.members
    step_records P keeps all =
        touched_each (λ m. P m.thread) (λ m. P m.thread) (λ m h. h)
        (λ m n here through h. comes_keeps w now P keeps m.thread n.thread through h) w.members (step w worker e now).0.members
        (step_touches w worker e now made possible) all

    -- what is noted of each thread happened by now, where it had before
    pub step_by_now : AllByRecursion (λ m. IsBy now m.thread) w.members → AllByRecursion (λ m. IsBy now m.thread) (step w worker e now).0.members
    step_by_now all = step_records (IsBy now) (λ change r sound h. change_by_now w.settings now change r h) all

    -- the numbers of each record stay in range
    pub step_in_range : AllByRecursion (λ m. HasNumbers m.thread) (step w worker e now).0.members
    step_in_range =
        all_along IsMade (λ m. HasNumbers m.thread) (step w worker e now).0.members (λ m h. h.numbers) (step_is_made w worker e now made possible).members.each

    -- each record keeps its bounds, where the slice is in range
    pub step_bounds : HasSlice w.settings → AllByRecursion (λ m. KeepsBounds m.thread) w.members → AllByRecursion (λ m. KeepsBounds m.thread) (step w worker e now).0.members
    step_bounds slice all =
        touched_each P (λ m. KeepsBounds m.thread) (λ m h. h.0.1)
        (λ m n here through h.
        (comes_keeps w now (IsInBounds now)
        (λ change r sound. in_bounds_after w.settings now slice possible.bounded change r (sound_where_bounded w now all change sound)) m.thread n.thread through
        (record { numbers = h.0.0.numbers; by_now = h.1 here; bounds = h.0.1 })).bounds)
        w.members (step w worker e now).0.members (step_touches w worker e now made possible)
        (all_both (λ m. IsMade m × KeepsBounds m.thread) (IsByIfReached w worker e now) P w.members (λ m h by. (h, by))
        (all_both IsMade (λ m. KeepsBounds m.thread) (λ m. IsMade m × KeepsBounds m.thread) w.members (λ m h k. (h, k)) made.members.each all) possible.in_time)
      where
        P : Member → Type 0
        P m = (IsMade m × KeepsBounds m.thread) × IsByIfReached w worker e now m
