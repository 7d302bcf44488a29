-- What every state of the step model over a setup's scheduler keeps: the entries so far are a legal history, and each declared thread has a place.
use Rattle.std.proofs.Common.{◌≡◌, ◌≢◌, ℕ, zero, suc, ◌+◌, true, false, List, [], ◌∷◌, drop, map, slice_get, Option, Some, None, refl, sym, ap, ◌∙◌, subst, arith}
use Rattle.std.specs.Option.{option_map}
use Rattle.std.proofs.lemmas.Option.{none-some, same_Some}
use Rattle.ule_score.specs.declared.place.Place.{Place}
use Rattle.ule_score.specs.declared.record.ThreadRecord.{ThreadRecord}
use Rattle.ule_types.specs.Commands.{is_among}
use Rattle.ule_types.specs.declared.event.Event.{Event}
use Rattle.ule_types.specs.declared.event.Reply.{Reply}
use Rattle.ule_types.specs.declared.setup.Setup.{Setup}
use Rattle.ule_model.specs.CpuValue.{first_found}
use Rattle.ule_model.specs.LockValue.{LockValue}
use Rattle.ule_model.specs.World.{Member, thread_of}
use Rattle.ule_model.specs.WorldValue.{Shows, holder_among}
use Rattle.ule_micro.specs.declared.seat.Phase.{Phase}
use Rattle.ule_micro.specs.declared.seat.Seat.{Seat}
use Rattle.ule_micro.specs.Courses.{WorkerCourse}
use Rattle.ule_micro.specs.Means.{carried_by, stands_under}
use Rattle.ule_micro.specs.Standings.{rests}
use Rattle.ule_micro.specs.Agreement.{IsThere}
use Rattle.ule_micro.specs.States.{Machine, course_of_seat, courses, standing_of_phase}
use Rattle.ule_micro.specs.Theorem.{HasLegalPlay, LockAgreement}
use Rattle.ule_parts.specs.Plays.{IsPlayedLegally}
use Rattle.ule_parts.specs.Scheduler.{orders_of, sched_means}
use Rattle.ule_parts.specs.Workers.{Worker, declared_ids_of}
use Rattle.ule_parts.proofs.Legality.{plays_are_legal}
use Rattle.ule_seq.specs.Hands.{is_held}
use Rattle.ule_seq.specs.PartLaws.{sched_orders}
use Rattle.ule_seq.specs.StepStates.{IsFinished, IsLegalSoFar, place_among, place_at, place_under, scheduler_in, world_in}
use Rattle.ule_seq.proofs.HandLaws.{held_here, held_past}
use Rattle.ule_seq.proofs.PlaceLaws.{map_map, place_shown, place_there}

-- ---- the history

-- the seat of a course
seat_of : (ps : List (Seat Worker Event Reply)) (w : ℕ) (c : WorkerCourse Worker Event Reply) → slice_get (map course_of_seat ps) w ≡ Some c
    → (p : Seat Worker Event Reply) × (slice_get ps w ≡ Some p) × (course_of_seat p ≡ c)
seat_of [] w c at = absurd (none-some c at)
seat_of (p ∷ ps) zero c at = (p, refl, same_Some (course_of_seat p) c at)
seat_of (p ∷ ps) (suc w) c at = seat_of ps w c at

-- what a state that agrees and has a legal play keeps
pub legal_so_far : (m : Machine Setup Worker LockValue Event Reply) → LockAgreement (sched_means m.parts) (orders_of m.parts) m.state
    → HasLegalPlay (sched_means m.parts) (orders_of m.parts) m.state → IsLegalSoFar m
legal_so_far m agrees legal = record {
  played = played;
  whole = λ finished. played.whole (λ w c at. ended finished w c (seat_of m.state.seats w c at));
}
  where
    played : IsPlayedLegally m.parts m.parts.scripts m.state.history m.state.values (courses m.state)
    played = plays_are_legal m.parts m.parts.scripts m.state.history m.state.values (courses m.state) (sched_orders m.parts) legal

    ended : IsFinished m → (w : ℕ) (c : WorkerCourse Worker Event Reply)
        → ((p : Seat Worker Event Reply) × (slice_get m.state.seats w ≡ Some p) × (course_of_seat p ≡ c))
        → (c.standing ≡ rests) × (slice_get (orders_of m.parts w) c.begun ≡ None)
    ended finished w c (p, at, is) =
        let end = finished w p at in (
          sym (ap (λ (d : WorkerCourse Worker Event Reply). d.standing) is) ∙ ap (λ (x : Phase Event Reply). standing_of_phase x) end,
          ap (λ (d : WorkerCourse Worker Event Reply). slice_get (orders_of m.parts w) d.begun) (sym is) ∙ ((agrees.workers w p at).finished end).ended,
        )

-- ---- a search over the locks, and over the hands

-- what is behind the first so many, where the next is this
drop_at : {X : Type 0} (xs : List X) (i : ℕ) (x : X) → slice_get xs i ≡ Some x → drop i xs ≡ x ∷ drop (i + 1) xs
drop_at [] i x got = absurd (none-some x got)
drop_at (y ∷ ys) zero x got = ap (λ z. z ∷ ys) (same_Some y x got)
drop_at (y ∷ ys) (suc i) x got = drop_at ys i x got ∙ ap (λ j. x ∷ drop j (y ∷ ys)) (let e : suc (i + 1) ≡ suc i + 1 = omega arith in e)

-- the place under the next lock, or else behind it
pub place_next : (vs : List LockValue) (t l : ℕ) (v : LockValue) (o : Option Place) → place_among vs t ≡ place_among (drop l vs) t → slice_get vs l ≡ Some v → place_under v t ≡ o
    → place_among vs t ≡ first_found o (place_among (drop (l + 1) vs) t)
place_next vs t l v o so_far got is =
    so_far ∙ (ap (λ xs. place_among xs t) (drop_at vs l v got) ∙ ap (λ p. first_found p (place_among (drop (l + 1) vs) t)) is)

-- the hands of a state's workers
abbrev pub hands_of : List (Seat Worker Event Reply) → List (Option ThreadRecord)
hands_of ps = map (λ (c : WorkerCourse Worker Event Reply). c.own.hand) (map course_of_seat ps)

hand_at : (ps : List (Seat Worker Event Reply)) (w : ℕ) (p : Seat Worker Event Reply) → slice_get ps w ≡ Some p → slice_get (hands_of ps) w ≡ Some p.own.hand
hand_at [] w p got = absurd (none-some p got)
hand_at (q ∷ ps) zero p got = ap (λ (x : Seat Worker Event Reply). Some x.own.hand) (same_Some q p got)
hand_at (q ∷ ps) (suc w) p got = hand_at ps w p got

module _ (ps : List (Seat Worker Event Reply)) (t w : ℕ) (so_far : holder_among 0 (hands_of ps) t ≡ holder_among w (drop w (hands_of ps)) t) where
  module _ (own : Worker) (there : (p : Seat Worker Event Reply) × (slice_get ps w ≡ Some p) × (p.own ≡ own)) where
    next_hand : holder_among 0 (hands_of ps) t ≡ holder_among w (own.hand ∷ drop (w + 1) (hands_of ps)) t
    next_hand =
        let got = hand_at ps w there.0 there.1 ∙ ap (λ (o : Worker). Some o.hand) there.2 in
        so_far ∙ ap (λ hs. holder_among w hs t) (drop_at (hands_of ps) w own.hand got)

    -- the next hand has the thread
    pub hand_has : is_held own.hand t ≡ true → holder_among 0 (hands_of ps) t ≡ Some w
    hand_has is = next_hand ∙ held_here w t own.hand (drop (w + 1) (hands_of ps)) is

    -- or one behind it, if any
    pub hand_past : is_held own.hand t ≡ false → holder_among 0 (hands_of ps) t ≡ holder_among (w + 1) (drop (w + 1) (hands_of ps)) t
    hand_past is =
        next_hand ∙ (held_past w t own.hand (drop (w + 1) (hands_of ps)) is ∙ ap (λ n. holder_among n (drop (w + 1) (hands_of ps)) t) (let e : suc w ≡ w + 1 = omega arith in e))

-- ---- the place of a declared thread

-- a declared thread has a place
pub somewhere : (m : Machine Setup Worker LockValue Event Reply) (t : ℕ) → LockAgreement (sched_means m.parts) (orders_of m.parts) m.state → Shows (scheduler_in m) (world_in m)
    → is_among (declared_ids_of m.parts) t ≡ true → place_at (scheduler_in m) t ≢ None
somewhere m t agrees shows declared none =
    let one = agrees.shared.threads t declared in
    let there = subst (λ hs. IsThere (λ l. stands_under (sched_means m.parts) m.state.values l t) (λ w. carried_by (sched_means m.parts) hs w t) one.place) (sym (map_map m.state.seats)) one.there in
    place_there (scheduler_in m) (world_in m) t shows m.parts one.place there (split (thread_of t (world_in m).members) (sym (place_shown (scheduler_in m) (world_in m) t shows) ∙ none))
  where
    split : (o : Option Member) → option_map (λ (x : Member). x.place) o ≡ None → o ≡ None
    split None is = refl
    split (Some x) is = absurd (none-some x.place (sym is))
