-- Where a scheduler has a thread is where the thread stands in each world that it shows.
use Rattle.std.proofs.Common.{◌≡◌, ◌≢◌, ℕ, suc, Bool, true, false, ◌==◌, List, [], ◌∷◌, map, slice_get, Option, Some, None, if◌then◌else◌, option_and_then, is_some, refl, sym, ap, ◌∙◌}
use Rattle.std.specs.Option.{option_map}
use Rattle.std.proofs.lemmas.Bool.{false≢true}
use Rattle.std.proofs.lemmas.Option.{get_or_from_slice_get}
use Rattle.ule_score.specs.declared.place.Place.{Place}
use Rattle.ule_score.specs.declared.place.Place.TheVariants.{Hand}
use Rattle.ule_score.specs.declared.record.ThreadRecord.{ThreadRecord}
use Rattle.ule_sleep.specs.Chain.{standing_in}
use Rattle.ule_threads.specs.declared.standing.Standing.{Standing}
use Rattle.ule_types.specs.declared.event.Event.{Event}
use Rattle.ule_types.specs.declared.event.Reply.{Reply}
use Rattle.ule_types.specs.declared.outcome.ThreadLine.{ThreadLine}
use Rattle.ule_types.specs.declared.setup.Setup.{Setup}
use Rattle.ule_model.specs.CpuValue.{first_found, thread_in, value_place}
use Rattle.ule_model.specs.Finals.{final_line, line_of}
use Rattle.ule_model.specs.LockValue.{LockValue, chain, has_under, limbo, line_under, nothing, queue, standing_line}
use Rattle.ule_model.specs.Places.{is_hand_of, is_under}
use Rattle.ule_model.specs.World.{Member, World, thread_of}
use Rattle.ule_model.specs.WorldValue.{Shows, StandsUnder, WorldValue, held_by, held_line, holder_among, holder_at, if_thread, line_among, line_at, line_in_hands}
use Rattle.ule_members.proofs.PlaceFinds.{thread_at_none}
use Rattle.ule_laws.proofs.SeekLaws.{has_stands}
use Rattle.ule_laws.proofs.TellLaws.{line_shown}
use Rattle.ule_laws.proofs.WorldLaws.{at_some}
use Rattle.ule_micro.specs.declared.seat.Seat.{Seat}
use Rattle.ule_micro.specs.Agreement.{ThreadAgrees, IsThere, in_hand, under}
use Rattle.ule_micro.specs.Agreement as agreement
use Rattle.ule_micro.specs.Means.{carried_by, stands_under}
use Rattle.ule_micro.specs.States.{course_of_seat}
use Rattle.ule_parts.specs.Scheduler.{sched_means}
use Rattle.ule_parts.specs.Workers.{Worker}
use Rattle.ule_seq.specs.StepStates.{place_among, place_at, place_under}

-- ---- the place is that of the line

-- the place that a line tells
abbrev told_place : Option ThreadLine → Option Place
told_place o = option_map (λ (l : ThreadLine). l.place) o

map_found : {X Y : Type 0} (f : X → Y) (a b : Option X) → option_map f (first_found a b) ≡ first_found (option_map f a) (option_map f b)
map_found f None b = refl
map_found f (Some x) b = refl

line_place : (v : LockValue) (t : ℕ) → told_place (line_under v t) ≡ place_under v t
line_place (queue v) t = split (thread_in v t) (value_place v t)
  where
    split : (o : Option ThreadRecord) (p : Option (Place × ℕ)) →
        told_place (option_and_then (λ (r : ThreadRecord). option_map (λ (at : Place × ℕ). line_of r at.0 at.1) p) o) ≡ option_map (λ (s : Standing). s.place) (option_and_then (λ (r : ThreadRecord). option_map (λ (at : Place × ℕ). record { thread = r; place = at.0 }) p) o)
    split None p = refl
    split (Some r) None = refl
    split (Some r) (Some at) = refl
line_place (chain v) t = split (standing_in v.slots t)
  where
    split : (o : Option Standing) → told_place (option_map standing_line o) ≡ option_map (λ (s : Standing). s.place) o
    split None = refl
    split (Some s) = refl
line_place (limbo v) t = split (standing_in v.slots t)
  where
    split : (o : Option Standing) → told_place (option_map standing_line o) ≡ option_map (λ (s : Standing). s.place) o
    split None = refl
    split (Some s) = refl
line_place nothing t = refl

lines_place : (vs : List LockValue) (t : ℕ) → told_place (line_among vs t) ≡ place_among vs t
lines_place [] t = refl
lines_place (v ∷ vs) t =
    map_found (λ (l : ThreadLine). l.place) (line_under v t) (line_among vs t) ∙
    (ap (λ o. first_found o (told_place (line_among vs t))) (line_place v t) ∙ ap (first_found (place_under v t)) (lines_place vs t))

hands_place : (w : ℕ) (hs : List (Option ThreadRecord)) (t : ℕ) → told_place (line_in_hands w hs t) ≡ option_map Hand (holder_among w hs t)
hands_place w [] t = refl
hands_place w (h ∷ hs) t =
    map_found (λ (l : ThreadLine). l.place) (option_and_then (held_line w t) h) (line_in_hands (suc w) hs t) ∙
    (ap (λ o. first_found o (told_place (line_in_hands (suc w) hs t))) (one h) ∙
    (ap (first_found (option_map Hand (option_and_then (holder_at w t) h))) (hands_place (suc w) hs t) ∙
    sym (map_found Hand (option_and_then (holder_at w t) h) (holder_among (suc w) hs t))))
  where
    one : (h : Option ThreadRecord) → told_place (option_and_then (held_line w t) h) ≡ option_map Hand (option_and_then (holder_at w t) h)
    one None = refl
    one (Some r) = split (r.id == t)
      where
        split : (b : Bool) → told_place (if b then Some (line_of r (Hand w) 0) else None) ≡ option_map Hand (if b then Some w else None)
        split true = refl
        split false = refl

line_tells : (v : WorldValue) (t : ℕ) → told_place (line_at v t) ≡ place_at v t
line_tells v t =
    map_found (λ (l : ThreadLine). l.place) (line_among v.values t) (line_in_hands 0 v.hands t) ∙
    (ap (λ o. first_found o (told_place (line_in_hands 0 v.hands t))) (lines_place v.values t) ∙ ap (first_found (place_among v.values t)) (hands_place 0 v.hands t))

-- where a scheduler has a thread is where the thread stands in a world that it shows
pub place_shown : (v : WorldValue) (w : World) (t : ℕ) → Shows v w → place_at v t ≡ option_map (λ (m : Member). m.place) (thread_of t w.members)
place_shown v w t shows = sym (line_tells v t) ∙ (ap told_place (line_shown v w t shows) ∙ split (thread_of t w.members))
  where
    split : (o : Option Member) → told_place (option_map (final_line w.members) o) ≡ option_map (λ (m : Member). m.place) o
    split None = refl
    split (Some m) = refl

-- ---- a declared thread is somewhere

pub map_map : (ps : List (Seat Worker Event Reply)) → map (λ c. c.own.hand) (map course_of_seat ps) ≡ map (λ p. p.own.hand) ps
map_map [] = refl
map_map (p ∷ ps) = ap (λ hs. p.own.hand ∷ hs) (map_map ps)

none_mapped : {X Y : Type 0} (f : X → Y) (o : Option X) → o ≡ None → is_some (option_map f o) ≡ true → ⊥
none_mapped f o none some = absurd (false≢true (ap (λ u. is_some (option_map f u)) (sym none) ∙ some))

module _ (v : WorldValue) (w : World) (t : ℕ) (shows : Shows v w) where
  -- a thread under a lock is there
  under_there : (l : ℕ) (o : Option LockValue) → slice_get v.values l ≡ o → elim o as (λ _. Bool) [ None ↦ false | Some x ↦ has_under x t ] ≡ true → thread_of t w.members ≢ None
  under_there l None got stands none = false≢true stands
  under_there l (Some x) got stands none =
      let here = has_stands w l t x shows.made shows.cpus (at_some (StandsUnder w l) (slice_get v.values l) x (shows.under l) got) in
      false≢true (sym (ap (λ (o : Option Member). is_some o) (thread_at_none (is_under l) t w.members none)) ∙ (sym here ∙ stands))

  -- and so is one in a hand
  hand_there : (k : ℕ) (o : Option (Option ThreadRecord)) → slice_get v.hands k ≡ o → elim o as (λ _. Bool) [ None ↦ false | Some h ↦ is_some (if_thread t h) ] ≡ true → thread_of t w.members ≢ None
  hand_there k None got has none = false≢true has
  hand_there k (Some h) got has none =
      let held : held_by v k ≡ h = get_or_from_slice_get v.hands k h None got in
      let seen = ap (if_thread t) (sym held) ∙ (shows.hands k t ∙ ap (option_map (λ (m : Member). m.thread)) (thread_at_none (is_hand_of k) t w.members none)) in
      false≢true (sym (ap (λ (o : Option ThreadRecord). is_some o) seen) ∙ has)

  -- a thread that has a place is there
  pub place_there : (s : Setup) (place : agreement.Place) → IsThere (λ l. stands_under (sched_means s) v.values l t) (λ k. carried_by (sched_means s) v.hands k t) place → thread_of t w.members ≢ None
  place_there s (under l) is = under_there l (slice_get v.values l) refl is
  place_there s (in_hand k) is = hand_there k (slice_get v.hands k) refl is
