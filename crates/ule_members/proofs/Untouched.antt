-- What a step leaves: each filter, look-up and count of threads that sees none within the event's reach,
-- so what stands under other locks, in other hands and on other CPUs.
use Rattle.std.proofs.Common.{◌≡◌, ◌≢◌, ℕ, ◌&&◌, Bool, true, false, List, [], ◌∷◌, filter, length, Option, Some, if◌then◌else◌, ⊎_elim, refl, sym, ◌∙◌, ap}
use Rattle.std.specs.List.{count_by, find, list_any}
use Rattle.std.proofs.lemmas.Bool.{and_right, both_ways, cond-false, false_from_ne_true, or_cases}
use Rattle.std.proofs.lemmas.List.Sums.{length-filter}
use Rattle.std.proofs.lemmas.Option.{none-some, same_Some}
use Rattle.ule_score.specs.declared.place.Place.{Place}
use Rattle.ule_types.specs.Commands.{is_among}
use Rattle.ule_types.specs.declared.event.Event.{Event}
use Rattle.ule_model.specs.Conditions.{IsPossible}
use Rattle.ule_model.specs.Events.{is_reached, locks_of}
use Rattle.ule_model.specs.Frames.{AreTouched, IsTouched, left, reached, thread_in_hand}
use Rattle.ule_model.specs.Places.{hand_of, is_hand_of, is_on, is_under, lock_of}
use Rattle.ule_model.specs.Step.{step}
use Rattle.ule_model.specs.WellMade.{IsWellMadeWorld}
use Rattle.ule_model.specs.World.{Member, World, is_numbered}
use Rattle.ule_members.proofs.Reach.{among_where_under, lock_where_on, no_hand_under, number_from_test}
use Rattle.ule_members.proofs.Steps.{step_touches}

-- ---- places within reach

-- a reached place lies under a lock of the event, or is the worker's hand
pub reached_under : (w : World) (worker : ℕ) (e : Event) (place : Place) (l : ℕ) → is_reached w worker e place ≡ true → lock_of place ≡ Some l →
    is_among (locks_of w e) l ≡ true
reached_under w worker e place l here under =
    ⊎_elim
    (λ (locked : list_any (λ x. is_under x place) (locks_of w e) ≡ true).
    let one = among_where_under place (locks_of w e) locked in
    ap (is_among (locks_of w e)) (same_Some l one.0 (sym under ∙ one.1.0)) ∙ one.1.1)
    (λ (held : is_hand_of worker place ≡ true).
    absurd (none-some worker (sym (no_hand_under l place under) ∙ number_from_test worker (hand_of place) held)))
    (or_cases (list_any (λ x. is_under x place) (locks_of w e)) (is_hand_of worker place) here)

-- a reached place lies under no lock that the event doesn't take
pub reached_no_other : (w : World) (worker : ℕ) (e : Event) (l : ℕ) (place : Place) → is_among (locks_of w e) l ≡ false → is_reached w worker e place ≡ true →
    is_under l place ≡ false
reached_no_other w worker e l place none here =
    false_from_ne_true (is_under l place)
    (λ under. both_ways (is_among (locks_of w e) l) none (reached_under w worker e place l here (number_from_test l (lock_of place) under)))

-- a reached place is on no CPU whose lock the event doesn't take
pub reached_off : (w : World) (worker : ℕ) (e : Event) (c : ℕ) (place : Place) → is_among (locks_of w e) c ≡ false → is_reached w worker e place ≡ true →
    is_on c place ≡ false
reached_off w worker e c place none here =
    false_from_ne_true (is_on c place)
    (λ on. both_ways (is_among (locks_of w e) c) none (reached_under w worker e place c here (lock_where_on c place on)))

-- a reached place is no other worker's hand
pub reached_no_other_hand : (w : World) (worker : ℕ) (e : Event) (h : ℕ) (place : Place) → h ≢ worker → is_reached w worker e place ≡ true →
    is_hand_of h place ≡ false
reached_no_other_hand w worker e h place other here =
    false_from_ne_true (is_hand_of h place) (λ held. hand_reached (number_from_test h (hand_of place) held))
  where
    hand_reached : hand_of place ≡ Some h → ⊥
    hand_reached held =
        ⊎_elim
        (λ (locked : list_any (λ x. is_under x place) (locks_of w e) ≡ true).
        let one = among_where_under place (locks_of w e) locked in none-some h (sym (no_hand_under one.0 place one.1.0) ∙ held))
        (λ (own : is_hand_of worker place ≡ true). other (same_Some h worker (sym held ∙ number_from_test worker (hand_of place) own)))
        (or_cases (list_any (λ x. is_under x place) (locks_of w e)) (is_hand_of worker place) here)

-- ---- lists

module _ (w : World) (worker : ℕ) (e : Event) (now : ℕ) where
  -- no thread at a place within the event's reach passes
  abbrev pub SeesNone : (Member → Bool) → Type 0
  SeesNone p = (m : Member) → is_reached w worker e m.place ≡ true → p m ≡ false

  -- a filter that sees none within reach keeps what it kept
  pub touched_filter : (p : Member → Bool) (ms ns : List Member) → SeesNone p → AreTouched w worker e now ms ns → filter p ns ≡ filter p ms
  touched_filter p [] [] fails touched = refl
  touched_filter p [] (n ∷ ns) fails touched = absurd touched
  touched_filter p (m ∷ ms) [] fails touched = absurd touched
  touched_filter p (m ∷ ms) (n ∷ ns) fails touched = step touched.0 (touched_filter p ms ns fails touched.1)
    where
      step : IsTouched w worker e now m n → filter p ns ≡ filter p ms → filter p (n ∷ ns) ≡ filter p (m ∷ ms)
      step (left same) rest = ap (λ (x : Member). if p x then x ∷ filter p ns else filter p ns) (sym same) ∙ ap (λ (r : List Member). if p m then m ∷ r else r) rest
      step (reached from to through) rest =
          cond-false (p n) (n ∷ filter p ns) (filter p ns) (fails n to) ∙ rest ∙ sym (cond-false (p m) (m ∷ filter p ms) (filter p ms) (fails m from))

  -- a look-up that sees none within reach finds what it found
  pub touched_find : (p : Member → Bool) (ms ns : List Member) → SeesNone p → AreTouched w worker e now ms ns → find p ns ≡ find p ms
  touched_find p [] [] fails touched = refl
  touched_find p [] (n ∷ ns) fails touched = absurd touched
  touched_find p (m ∷ ms) [] fails touched = absurd touched
  touched_find p (m ∷ ms) (n ∷ ns) fails touched = step touched.0 (touched_find p ms ns fails touched.1)
    where
      step : IsTouched w worker e now m n → find p ns ≡ find p ms → find p (n ∷ ns) ≡ find p (m ∷ ms)
      step (left same) rest = ap (λ (x : Member). if p x then Some x else find p ns) (sym same) ∙ ap (λ (r : Option Member). if p m then Some m else r) rest
      step (reached from to through) rest = cond-false (p n) (Some n) (find p ns) (fails n to) ∙ rest ∙ sym (cond-false (p m) (Some m) (find p ms) (fails m from))

  -- a count that sees none within reach counts what it counted
  pub touched_count : (p : Member → Bool) (ms ns : List Member) → SeesNone p → AreTouched w worker e now ms ns → count_by p ns ≡ count_by p ms
  touched_count p ms ns fails touched =
      sym (length-filter p ns) ∙ ap (λ (xs : List Member). length xs) (touched_filter p ms ns fails touched) ∙ length-filter p ms

  -- ---- after a step

  module _ (made : IsWellMadeWorld w) (possible : IsPossible w worker e now) where
    -- what is in another worker's hand is found there as it was
    pub step_in_hand : (h t : ℕ) → h ≢ worker → thread_in_hand h t (step w worker e now).0.members ≡ thread_in_hand h t w.members
    step_in_hand h t other =
        touched_find (λ m. is_numbered t m && is_hand_of h m.place) w.members (step w worker e now).0.members
        (λ m here. and_right (is_numbered t m) (is_hand_of h m.place) (reached_no_other_hand w worker e h m.place other here)) (step_touches w worker e now made possible)
