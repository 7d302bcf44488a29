-- Which places are within an event's reach, and what lock or hand a place has.
use Rattle.std.proofs.Common.{◌≡◌, ℕ, ◌==◌, true, false, List, [], ◌∷◌, Option, Some, None, ⊎_elim, refl, sym, ◌∙◌, ap}
use Rattle.std.specs.List.{list_any}
use Rattle.std.specs.Prelude.{option_and_then}
use Rattle.std.proofs.lemmas.Bool.{both_ways, eq-eqb, eqb-true, or_cases, or_left, or_right}
use Rattle.std.proofs.lemmas.Option.{none-some, same_Some}
use Rattle.ule_score.specs.declared.place.Place.{Place}
use Rattle.ule_score.specs.declared.place.Place.TheVariants.{Running, Queued, Asleep, Unborn, Gone, Hand}
use Rattle.ule_types.specs.Commands.{is_among}
use Rattle.ule_types.specs.declared.event.Event.{Event}
use Rattle.ule_model.specs.Events.{holder_of, is_reached, is_unborn, is_unborn_thread, locks_of}
use Rattle.ule_model.specs.Places.{hand_of, is_hand_of, is_number, is_on, is_under, lock_of, runs_on, waits_on}
use Rattle.ule_model.specs.World.{Member, World, thread_of}

-- ---- places

-- the place of a current thread lies under its CPU's lock
pub lock_where_runs : (c : ℕ) (place : Place) → runs_on c place ≡ true → lock_of place ≡ Some c
lock_where_runs c (Running d) runs = ap (λ (e : ℕ). Some e) (sym (eqb-true c d runs))
lock_where_runs c (Queued d k b) runs = absurd (both_ways false refl runs)
lock_where_runs c (Asleep channel) runs = absurd (both_ways false refl runs)
lock_where_runs c Unborn runs = absurd (both_ways false refl runs)
lock_where_runs c Gone runs = absurd (both_ways false refl runs)
lock_where_runs c (Hand w) runs = absurd (both_ways false refl runs)

-- the place of a queued thread lies under its CPU's lock
pub lock_where_waits : (c : ℕ) (place : Place) → waits_on c place ≡ true → lock_of place ≡ Some c
lock_where_waits c (Running d) waits = absurd (both_ways false refl waits)
lock_where_waits c (Queued d k b) waits = ap (λ (e : ℕ). Some e) (sym (eqb-true c d waits))
lock_where_waits c (Asleep channel) waits = absurd (both_ways false refl waits)
lock_where_waits c Unborn waits = absurd (both_ways false refl waits)
lock_where_waits c Gone waits = absurd (both_ways false refl waits)
lock_where_waits c (Hand w) waits = absurd (both_ways false refl waits)

-- a place on a CPU lies under its lock
pub lock_where_on : (c : ℕ) (place : Place) → is_on c place ≡ true → lock_of place ≡ Some c
lock_where_on c place on =
    ⊎_elim (lock_where_runs c place) (lock_where_waits c place) (or_cases (runs_on c place) (waits_on c place) on)

-- a place under a lock is no hand
pub no_hand_under : (l : ℕ) (place : Place) → lock_of place ≡ Some l → hand_of place ≡ None
no_hand_under l (Running c) under = refl
no_hand_under l (Queued c k b) under = refl
no_hand_under l (Asleep channel) under = refl
no_hand_under l Unborn under = refl
no_hand_under l Gone under = refl
no_hand_under l (Hand w) under = absurd (none-some l under)

-- a place that is a worker's hand is that hand
pub place_from_hand : (worker : ℕ) (place : Place) → hand_of place ≡ Some worker → place ≡ Hand worker
place_from_hand worker (Running c) is = absurd (none-some worker is)
place_from_hand worker (Queued c k b) is = absurd (none-some worker is)
place_from_hand worker (Asleep channel) is = absurd (none-some worker is)
place_from_hand worker Unborn is = absurd (none-some worker is)
place_from_hand worker Gone is = absurd (none-some worker is)
place_from_hand worker (Hand w) is = ap (λ (v : ℕ). Hand v) (same_Some w worker is)

-- an optional number that is this one passes its test
pub is_number_itself : (n : ℕ) (o : Option ℕ) → o ≡ Some n → is_number n o ≡ true
is_number_itself n o is = ap (is_number n) is ∙ eq-eqb n n refl

-- an optional number that passes the test of a number is that one
pub number_from_test : (n : ℕ) (o : Option ℕ) → is_number n o ≡ true → o ≡ Some n
number_from_test n None is = absurd (both_ways false refl is)
number_from_test n (Some m) is = ap (λ (x : ℕ). Some x) (sym (eqb-true n m is))

-- ---- reach

-- where one of these locks is that of a place, the place lies under one
under_one : (l : ℕ) (place : Place) (ls : List ℕ) → lock_of place ≡ Some l → is_among ls l ≡ true → list_any (λ x. is_under x place) ls ≡ true
under_one l place [] under among = among
under_one l place (x ∷ xs) under among =
    ⊎_elim
    (λ (same : (x == l) ≡ true). or_left (is_under x place) (list_any (λ y. is_under y place) xs)
    (is_number_itself x (lock_of place) (under ∙ ap (λ (y : ℕ). Some y) (sym (eqb-true x l same)))))
    (λ (rest : is_among xs l ≡ true). or_right (is_under x place) (list_any (λ y. is_under y place) xs) (under_one l place xs under rest))
    (or_cases (x == l) (is_among xs l) among)

-- where a place lies under one of these locks, its lock is among them
pub among_where_under : (place : Place) (ls : List ℕ) → list_any (λ x. is_under x place) ls ≡ true → (l : ℕ) × ((lock_of place ≡ Some l) × (is_among ls l ≡ true))
among_where_under place [] under = absurd (both_ways false refl under)
among_where_under place (x ∷ xs) under =
    ⊎_elim
    (λ (here : is_under x place ≡ true). (x, (number_from_test x (lock_of place) here, or_left (x == x) (is_among xs x) (eq-eqb x x refl))))
    (λ (there : list_any (λ y. is_under y place) xs ≡ true).
    let rest = among_where_under place xs there in (rest.0, (rest.1.0, or_right (x == rest.0) (is_among xs rest.0) rest.1.1)))
    (or_cases (is_under x place) (list_any (λ y. is_under y place) xs) under)

-- a place under a lock that an event takes is within its reach
pub reached_by_lock : (w : World) (worker : ℕ) (e : Event) (l : ℕ) (place : Place) → is_among (locks_of w e) l ≡ true → lock_of place ≡ Some l →
    is_reached w worker e place ≡ true
reached_by_lock w worker e l place among under =
    or_left (list_any (λ x. is_under x place) (locks_of w e)) (is_hand_of worker place) (under_one l place (locks_of w e) under among)

-- the worker's hand is within an event's reach
pub reached_by_hand : (w : World) (worker : ℕ) (e : Event) (place : Place) → hand_of place ≡ Some worker → is_reached w worker e place ≡ true
reached_by_hand w worker e place is =
    or_right (list_any (λ x. is_under x place) (locks_of w e)) (is_hand_of worker place) (is_number_itself worker (hand_of place) is)

-- an event that takes one lock takes it
pub takes_itself : (l : ℕ) → is_among (l ∷ []) l ≡ true
takes_itself l = or_left (l == l) false (eq-eqb l l refl)

-- ---- the thread that an event has in hand

-- a thread that is in a worker's hand
pub record IsHeld (ms : List Member) (t worker : ℕ) : Type 0 where
  pub member : Member
  pub found : thread_of t ms ≡ Some member
  pub hand : hand_of member.place ≡ Some worker

-- the thread whose holder is a worker is in its hand
pub held_found : (ms : List Member) (t worker : ℕ) → holder_of ms t ≡ Some worker → IsHeld ms t worker
held_found ms t worker is = split (thread_of t ms) refl is
  where
    split : (o : Option Member) → thread_of t ms ≡ o → option_and_then (λ m. hand_of m.place) o ≡ Some worker → IsHeld ms t worker
    split None found hand = absurd (none-some worker hand)
    split (Some m) found hand = record { member = m; found = found; hand = hand }

-- a thread that is there and unborn
pub record IsUnbornIn (ms : List Member) (t : ℕ) : Type 0 where
  pub member : Member
  pub found : thread_of t ms ≡ Some member
  pub place : member.place ≡ Unborn

-- a place that passes the test of an unborn thread's place is one
unborn_place : (place : Place) → is_unborn place ≡ true → place ≡ Unborn
unborn_place Unborn is = refl
unborn_place (Running c) is = absurd (both_ways false refl is)
unborn_place (Queued c k b) is = absurd (both_ways false refl is)
unborn_place (Asleep channel) is = absurd (both_ways false refl is)
unborn_place Gone is = absurd (both_ways false refl is)
unborn_place (Hand w) is = absurd (both_ways false refl is)

-- a thread that passes the test of an unborn one is there and unborn
pub unborn_found : (ms : List Member) (t : ℕ) → is_unborn_thread (thread_of t ms) ≡ true → IsUnbornIn ms t
unborn_found ms t is = split (thread_of t ms) refl is
  where
    split : (o : Option Member) → thread_of t ms ≡ o → is_unborn_thread o ≡ true → IsUnbornIn ms t
    split None found unborn = absurd (both_ways false refl unborn)
    split (Some m) found unborn = record { member = m; found = found; place = unborn_place m.place unborn }
