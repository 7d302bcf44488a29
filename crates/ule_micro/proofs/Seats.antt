-- What is read of a state after one worker changed.
use Rattle.std.proofs.Common.{◌≡◌, ◌≢◌, ◌⊎◌, ℕ, ◌<◌, true, List, map, length, set, sym, ap, ◌∙◌, arith, true≢false}
use Rattle.std.specs.Prelude.{Some, None, slice_get}
use Rattle.std.proofs.lemmas.Option.{none-some}
use mathlib.Core.Logic.{dite}
use native.Mathlib.Decide.{dec_lt}
use Rattle.ule_micro.specs.declared.seat.Phase.TheVariants as phase
use Rattle.ule_micro.specs.declared.seat.Seat.{Seat}
use Rattle.ule_micro.specs.Means.{Means}
use Rattle.ule_micro.specs.Agreement.{NamesOneHolder}
use Rattle.ule_micro.specs.States.{State, lock_holder, holds, lock_held_by, pending_by, course_of_seat, hand_of_seat, took}
use Rattle.ule_micro.proofs.Lists.{get_here, get_else, get_set, set_same, get_map, map_set, there, same_at, index_past}

module _ {O E R : Type 0} (seats : List (Seat O E R)) (w : ℕ) (p p' : Seat O E R) (at : slice_get seats w ≡ Some p) where
  -- seats after: the workers with the one that changed
  abbrev pub seats_after : List (Seat O E R)
  seats_after = set seats w p'

  -- the worker that changed is as it is now
  pub seat_here : slice_get seats_after w ≡ Some p'
  seat_here = get_here seats w p' (there seats w p at)

  -- every other worker is as before
  pub seat_else : (v : ℕ) → v ≢ w → slice_get seats_after v ≡ slice_get seats v
  seat_else v n = get_else seats w v p' n

  -- each worker after is the one that changed, or another as before
  pub each_seat : (v : ℕ) (q : Seat O E R) → slice_get seats_after v ≡ Some q → ((v ≡ w) × (p' ≡ q)) ⊎ ((v ≢ w) × (slice_get seats v ≡ Some q))
  each_seat v q e = get_set seats w v p' q e

  -- the worker that changed holds what it took by now
  pub lock_held_here : (l : ℕ) → lock_held_by (slice_get seats_after w) l ≡ took p'.phase l
  lock_held_here l = ap (λ o. lock_held_by o l) seat_here

  -- the worker held what it had taken
  pub held_before : (l : ℕ) → lock_held_by (slice_get seats w) l ≡ took p.phase l
  held_before l = ap (λ o. lock_held_by o l) at

  -- every other worker holds what it held
  pub held_else : (l v : ℕ) → v ≢ w → lock_held_by (slice_get seats_after v) l ≡ lock_held_by (slice_get seats v) l
  held_else l v n = ap (λ o. lock_held_by o l) (seat_else v n)

  -- where the worker took nothing and gave nothing back, all hold what they held
  pub held_same : (l : ℕ) → took p'.phase l ≡ took p.phase l → (v : ℕ) → lock_held_by (slice_get seats_after v) l ≡ lock_held_by (slice_get seats v) l
  held_same l e v = same_at (λ o. lock_held_by o l) seats w p p' at e v

  -- the worker's pending change was the one that it had
  pub pending_before : pending_by (slice_get seats w) ≡ p.pending
  pending_before = ap pending_by at

  -- where the worker has the change that it had, all have what they had
  pub pending_same : p'.pending ≡ p.pending → (v : ℕ) → pending_by (slice_get seats_after v) ≡ pending_by (slice_get seats v)
  pending_same e v = same_at pending_by seats w p p' at e v

  -- the courses after
  pub seat_courses_set : map course_of_seat seats_after ≡ set (map course_of_seat seats) w (course_of_seat p')
  seat_courses_set = map_set course_of_seat seats w p'

  -- the course of the worker is among the courses
  pub seat_course_at : slice_get (map course_of_seat seats) w ≡ Some (course_of_seat p)
  seat_course_at = get_map course_of_seat seats w p at

  -- where the course of the worker stays, all courses stay
  pub courses_same : course_of_seat p' ≡ course_of_seat p → map course_of_seat seats_after ≡ map course_of_seat seats
  courses_same e = seat_courses_set ∙ (ap (set (map course_of_seat seats) w) e ∙ set_same (map course_of_seat seats) w (course_of_seat p) seat_course_at)

module _ {H O G E R C : Type 0} (m : Means H O G E R C) (seats : List (Seat O E R)) (w : ℕ) (p p' : Seat O E R) (at : slice_get seats w ≡ Some p) where
  -- the hand of the worker is among the hands
  pub seat_hand_at : slice_get (map (hand_of_seat m) seats) w ≡ Some (m.hand p.own)
  seat_hand_at = get_map (hand_of_seat m) seats w p at

  -- the hands after are the hands with that of the worker
  pub hands_set : map (hand_of_seat m) (set seats w p') ≡ set (map (hand_of_seat m) seats) w (m.hand p'.own)
  hands_set = map_set (hand_of_seat m) seats w p'

  -- where the hand of the worker stays, all hands stay
  pub hands_same : m.hand p'.own ≡ m.hand p.own → map (hand_of_seat m) (set seats w p') ≡ map (hand_of_seat m) seats
  hands_same e = hands_set ∙ (ap (set (map (hand_of_seat m) seats) w) e ∙ set_same (map (hand_of_seat m) seats) w (m.hand p.own) seat_hand_at)

-- what a lock word and its holder agree on, read of a state
module _ {O G E R : Type 0} (s : State O G E R) (names : (l : ℕ) → NamesOneHolder (lock_holder s l) (λ w. holds s w l)) where
  -- a lock that is held is one of those that there are
  pub held_low : (w l : ℕ) → holds s w l ≡ true → l < length s.locks
  held_low w l h = dite (dec_lt l (length s.locks)) (λ z. z) (λ n. absurd (none-some w (sym (index_past s.locks l None (let k = n in omega arith)) ∙ (names l).named w h)))

  -- a finished worker's name stands in no lock word
  pub finished_free : (w : ℕ) (p : Seat O E R) → slice_get s.seats w ≡ Some p → p.phase ≡ phase.Finished → (l : ℕ) → lock_holder s l ≢ Some w
  finished_free w p at fin l e = true≢false (sym ((names l).held w e) ∙ (ap (λ o. lock_held_by o l) at ∙ ap (λ f. took f l) fin))
