-- What the step of each event does to the threads of a world and leaves of the rest: the laws of a step.
use Rattle.std.proofs.Common.{◌≡◌, ℕ, ◌<◌, ◌==◌, ◌%◌, ◌+◌, Bool, true, false, length, List, [], ◌∷◌, Option, Some, None, is_some, if◌then◌else◌, refl, sym, ◌∙◌, ap, subst}
use Rattle.std.specs.Option.{option_map, option_to_list}
use Rattle.std.specs.Prelude.{max, min, option_and_then}
use Rattle.std.proofs.lemmas.Option.{none-some}
use Rattle.std.proofs.lemmas.Bool.{eq-eqb, or_left}
use Rattle.ule_score.specs.declared.place.Place.{Place}
use Rattle.ule_score.specs.declared.place.Place.TheVariants.{Running, Queued, Asleep, Unborn, Gone, Hand}
use Rattle.ule_types.specs.Commands.{is_among}
use Rattle.ule_types.specs.declared.event.Event.{Event}
use Rattle.ule_types.specs.declared.event.Event.TheVariants.{Wake, Move, Lend, Unlend, Renice, Inherit}
use Rattle.ule_types.specs.declared.event.MoveWhy.{MoveWhy}
use Rattle.ule_types.specs.declared.event.Reply.{Reply}
use Rattle.ule_model.specs.Action.{Action, action_done, parts_done}
use Rattle.ule_model.specs.Actions.{action_of, move_action, pair_action_of, wake_action, wake_action_at}
use Rattle.ule_model.specs.ActionStep.{bare_side, named_by, seen_on, seen_under}
use Rattle.ule_model.specs.Step.{pair_done, step, step_under_locks, step_with}
use Rattle.ule_model.specs.Conditions.{IsPossible}
use Rattle.ule_model.specs.Events.{Locking, chain, holder_of, limbo, lock_numbers, locking, locks_of, place_of, queue, queues, sought_by, sought_in}
use Rattle.ule_model.specs.Frames.{LeavesRest, StepIsMade, StepLeavesRest, StepMovesWord, StepTouches, thread_in_hand}
use Rattle.ule_model.specs.Places.{hand_of, is_hand_of, is_number, lock_of}
use Rattle.ule_model.specs.WellMade.{HaveIndexes, IsWellMade, IsWellMadeWorld}
use Rattle.ule_model.specs.Words.{WordChange, block, change_of, point}
use Rattle.ule_model.specs.World.{Member, Side, World, current_of, on_side, side_of, standing_of, thread_of}
use Rattle.ule_members.proofs.ActionFits.{IsFit, event_fits}
use Rattle.ule_members.proofs.CalendarPlaces.{made_finds}
use Rattle.ule_members.proofs.Given.{move_sees}
use Rattle.ule_members.proofs.PairDone.{IsMove, move_fits, move_where, pair_fit_done, pair_indexes, pair_leaves, second_there}
use Rattle.ule_members.proofs.PartDone.{AreDone, StandsAt, holder_after, none_done, parts_follow}
use Rattle.ule_members.proofs.PlaceFinds.{thread_at_none, thread_at_within}
use Rattle.ule_members.proofs.PartRest.{parts_kept}
use Rattle.ule_members.proofs.Rest.{index_of, rest_left, side_indexes, side_leaves}
use Rattle.ule_members.proofs.Within.{within_thread}

-- the first of some locks is among them
pub first_among : (l : ℕ) (ls : List ℕ) → is_among (l ∷ ls) l ≡ true
first_among l ls = or_left (l == l) (is_among ls l) (eq-eqb l l refl)

-- what two locks make of a world by an event of a worker
abbrev pub stepped_under_two : ℕ → ℕ → World → ℕ → Event → ℕ → World × Reply
stepped_under_two a b w worker e now =
    pair_done a b now (pair_action_of e (seen_on a worker now None (side_of a w)) (seen_on b worker now None (side_of b w))) w

-- what holds of the step under one lock or none, and of that under two, holds of the step
pub step_by_locks : (P : World × Reply → Type 0) (w : World) (worker : ℕ) (e : Event) (now : ℕ) → P (step_under_locks (locks_of w e) w worker e now) →
    ((a b : ℕ) → locking e ≡ queues a b → P (stepped_under_two a b w worker e now)) → P (step w worker e now)
step_by_locks P w worker e now one two = split (locking e) refl
  where
    split : (k : Locking) → locking e ≡ k → P (step_with k w worker e now)
    split (queues a b) is = two a b is
    split (queue c) is = subst (λ (k : Locking). P (step_under_locks (lock_numbers w.members k) w worker e now)) is one
    split (chain channel) is = subst (λ (k : Locking). P (step_under_locks (lock_numbers w.members k) w worker e now)) is one
    split limbo is = subst (λ (k : Locking). P (step_under_locks (lock_numbers w.members k) w worker e now)) is one
    split (place_of t) is = subst (λ (k : Locking). P (step_under_locks (lock_numbers w.members k) w worker e now)) is one

module _ (w : World) (worker now : ℕ) (made : IsWellMadeWorld w) where
  -- what was done to the threads of the world by an event that was answered so
  abbrev pub IsStepDone : Event → World × Reply → Type 0
  IsStepDone e done = AreDone w worker e now (change_of e done.1) w.members done.0.members

  -- an action that is fit is done
  fit_done : (e : Event) (l : ℕ) (a : Action) → is_among (locks_of w e) l ≡ true → IsFit w worker now made e l a → IsStepDone e (on_side l (action_done l now a) w)
  fit_done e l a among fit =
      subst (λ (o : Option WordChange). AreDone w worker e now o w.members (parts_done l now a.parts (side_of l w, None)).0.members)
      (sym (fit.word (parts_done l now a.parts (side_of l w, None)).1))
      (parts_follow w worker e now l a.parts (λ t place. StandsAt t place w.members) (current_of l w.members ≡ None) (side_of l w) None among
      (record { settings = refl; made = made.members; index = index_of w l made.indexes; stands = λ t place is. is; none = λ is. is }) fit.follows).done

  -- some locks aren't none
  some_lock : (l : ℕ) (ls : List ℕ) → l ∷ ls ≡ [] → ⊥
  some_lock l ls is = cc

  -- a wake of a thread that stands under no lock blocks none
  wake_unlocked : (t : ℕ) → locks_of w (Wake t) ≡ [] →
      change_of (Wake t) ((wake_action t (option_map standing_of (thread_of t w.members)) (seen_on 0 worker now (thread_of t w.members) (bare_side w))).reply None) ≡ None
  wake_unlocked t none = split (thread_of t w.members) none
    where
      at_place : (m : Member) (place : Place) → option_to_list (lock_of place) ≡ [] → change_of (Wake t) ((wake_action_at place t m.thread (seen_on 0 worker now (Some m) (bare_side w))).reply None) ≡ None
      at_place m (Asleep channel) none = absurd (some_lock (16 + channel % 8) [] none)
      at_place m (Running c) none = refl
      at_place m (Queued c k b) none = refl
      at_place m Unborn none = refl
      at_place m Gone none = refl
      at_place m (Hand h) none = refl

      split : (o : Option Member) → option_to_list (option_and_then (λ (m : Member). lock_of m.place) o) ≡ [] →
          change_of (Wake t) ((wake_action t (option_map standing_of o) (seen_on 0 worker now o (bare_side w))).reply None) ≡ None
      split None none = refl
      split (Some m) none = at_place m m.place none

  -- an event that takes no lock changes no word: it seeks a thread
  unlocked : (e : Event) → locks_of w e ≡ [] → change_of e ((action_of e (seen_on 0 worker now (named_by w e) (bare_side w))).reply None) ≡ None
  unlocked e none = by_locks (locking e) refl none
    where
      seeking : (x : Event) (t : ℕ) → locks_of w x ≡ [] → sought_by x ≡ Some t → change_of x ((action_of x (seen_on 0 worker now (named_by w x) (bare_side w))).reply None) ≡ None
      seeking (Wake u) t none seeks = wake_unlocked u none
      seeking (Lend u p) t none seeks = refl
      seeking (Unlend u) t none seeks = refl
      seeking (Renice u n) t none seeks = refl
      seeking (Inherit u run) t none seeks = refl
      seeking _ t none seeks = absurd (none-some t seeks)

      by_locks : (k : Locking) → locking e ≡ k → lock_numbers w.members k ≡ [] → change_of e ((action_of e (seen_on 0 worker now (named_by w e) (bare_side w))).reply None) ≡ None
      by_locks (queue c) is none = absurd (some_lock c [] none)
      by_locks (queues a b) is none = absurd (some_lock (min a b) (max a b ∷ []) none)
      by_locks (chain channel) is none = absurd (some_lock (16 + channel % 8) [] none)
      by_locks limbo is none = absurd (some_lock 24 [] none)
      by_locks (place_of t) is nowhere = seeking e t none (ap sought_in is)

  -- a move is done
  move_done : (a b : ℕ) (why : MoveWhy) → b < length w.lines → IsStepDone (Move a b why) (stepped_under_two a b w worker (Move a b why) now)
  move_done a b why there =
      pair_fit_done w worker (Move a b why) now a b made refl (move_action why (move_sees w worker now a) (move_sees w worker now b))
      (move_fits w worker now a b why there (made_finds w.members made.members))

  -- what the step of an event does to the threads
  pub step_done : (e : Event) → IsPossible w worker e now → IsStepDone e (step w worker e now)
  step_done e possible = step_by_locks (IsStepDone e) w worker e now (split (locks_of w e) refl) two
    where
      two : (a b : ℕ) → locking e ≡ queues a b → IsStepDone e (stepped_under_two a b w worker e now)
      two a b is =
          let move : IsMove e a b = move_where e a b is in
          subst (λ (x : Event). IsStepDone x (stepped_under_two a b w worker x now)) (sym move.event_is)
          (move_done a b move.why (second_there w e a b is possible.cpus))

      split : (ls : List ℕ) → locks_of w e ≡ ls → IsStepDone e (step_under_locks ls w worker e now)
      split [] none =
          subst (λ (o : Option WordChange). AreDone w worker e now o w.members w.members) (sym (unlocked e none)) (none_done w worker e now w.members made.members)
      split (l ∷ ls) is =
          let among = ap (λ (xs : List ℕ). is_among xs l) is ∙ first_among l ls in
          fit_done e l (action_of e (seen_under w worker now e l)) among (event_fits w worker now made e possible l among)

-- what the step of an event leaves
pub step_leaves_rest : StepLeavesRest
step_leaves_rest w worker e now =
    step_by_locks (λ done. LeavesRest w e done.0) w worker e now (split (locks_of w e) refl)
    (λ a b is. pair_leaves w e a b is now (pair_action_of e (move_sees w worker now a) (move_sees w worker now b)))
  where
    split : (ls : List ℕ) → locks_of w e ≡ ls → LeavesRest w e (step_under_locks ls w worker e now).0
    split [] is = rest_left w e w.members
    split (l ∷ ls) is =
        let ps = (action_of e (seen_under w worker now e l)).parts in
        side_leaves w e l (parts_done l now ps (side_of l w, None)).0 is (parts_kept l now ps (side_of l w) None).balance_word

-- the step of an event leaves the removal indexes those of buckets
pub step_indexes : (w : World) (worker : ℕ) (e : Event) (now : ℕ) → HaveIndexes w.lines → HaveIndexes (step w worker e now).0.lines
step_indexes w worker e now indexes =
    step_by_locks (λ done. HaveIndexes done.0.lines) w worker e now (split (locks_of w e))
    (λ a b is. pair_indexes w now a b (pair_action_of e (move_sees w worker now a) (move_sees w worker now b)) indexes)
  where
    split : (ls : List ℕ) → HaveIndexes (step_under_locks ls w worker e now).0.lines
    split [] = indexes
    split (l ∷ ls) =
        let ps = (action_of e (seen_under w worker now e l)).parts in
        side_indexes w l (parts_done l now ps (side_of l w, None)).0 indexes (parts_kept l now ps (side_of l w) None).index

-- what holds of what an event's action replies by what it sees holds of the reply of its step
pub step_reply : (P : Reply → Type 0) (w : World) (worker : ℕ) (e : Event) (now : ℕ) →
    ((l : ℕ) (s : Side) → s.settings ≡ w.settings → (into : Option ℕ) → P ((action_of e (seen_on l worker now (named_by w e) s)).reply into)) →
    ((a b : ℕ) → locking e ≡ queues a b → P (stepped_under_two a b w worker e now).1) → P (step w worker e now).1
step_reply P w worker e now replies moves = step_by_locks (λ done. P done.1) w worker e now (split (locks_of w e)) moves
  where
    split : (ls : List ℕ) → P (step_under_locks ls w worker e now).1
    split [] = replies 0 (bare_side w) refl None
    split (l ∷ ls) = replies l (side_of l w) refl (parts_done l now (action_of e (seen_under w worker now e l)).parts (side_of l w, None)).1

-- ---- the laws of a step

-- a step touches what is within the event's reach alone
pub step_touches : StepTouches
step_touches w worker e now made possible = (step_done w worker now made e possible).touched

-- the one thread whose lock changes is the one whose word the event and its reply change
pub step_moves_word : StepMovesWord
step_moves_word w worker e now made possible = (step_done w worker now made e possible).words

-- a world stays well made
pub step_is_made : StepIsMade
step_is_made w worker e now made possible = record {
  members = (step_done w worker now made e possible).made;
  indexes = step_indexes w worker e now made.indexes;
}

-- the holder of each thread after an event, by the change of a word: the worker for the thread that is taken, none for the
-- thread that is put down, and for each other whom it was
pub step_holders : (w : World) (worker : ℕ) (e : Event) (now : ℕ) → IsWellMadeWorld w → IsPossible w worker e now → (u : ℕ) →
    holder_of (step w worker e now).0.members u ≡ holder_after worker (change_of e (step w worker e now).1) u (holder_of w.members u)
step_holders w worker e now made possible = (step_done w worker now made e possible).holders

-- ---- the worker's hand

-- look-up in a hand finds a thread just where the hand is that of its holder
pub held_by_holder : (h t : ℕ) (ms : List Member) → IsWellMade ms → is_some (thread_in_hand h t ms) ≡ is_number h (holder_of ms t)
held_by_holder h t ms made = split (thread_of t ms) refl
  where
    by_test : (m : Member) (b : Bool) → is_some (if b then Some m else None) ≡ b
    by_test m true = refl
    by_test m false = refl

    split : (o : Option Member) → thread_of t ms ≡ o → is_some (thread_in_hand h t ms) ≡ is_number h (option_and_then (λ (m : Member). hand_of m.place) o)
    split None found = ap (λ (o : Option Member). is_some o) (thread_at_none (is_hand_of h) t ms found)
    split (Some m) found =
        ap (λ (o : Option Member). is_some o) (thread_at_within (is_hand_of h) t m ms (within_thread t ms m made found)) ∙ by_test m (is_hand_of h m.place)

-- whether thread u is in the hand of the worker after a change of a word, where this says whether it was before
abbrev pub in_hand_after : Option WordChange → ℕ → Bool → Bool
in_hand_after None u old = old
in_hand_after (Some (block t)) u old = if u == t then true else old
in_hand_after (Some (point t l)) u old = if u == t then false else old

-- whether look-up in the hand of the event's worker finds a thread after it, by the change of a word
pub step_own_hand : (w : World) (worker : ℕ) (e : Event) (now : ℕ) → IsWellMadeWorld w → IsPossible w worker e now → (u : ℕ) →
    is_some (thread_in_hand worker u (step w worker e now).0.members) ≡ in_hand_after (change_of e (step w worker e now).1) u (is_some (thread_in_hand worker u w.members))
step_own_hand w worker e now made possible u =
    held_by_holder worker u (step w worker e now).0.members (step_is_made w worker e now made possible).members ∙
    ap (is_number worker) (step_holders w worker e now made possible u) ∙
    by_change (change_of e (step w worker e now).1) ∙
    ap (in_hand_after (change_of e (step w worker e now).1) u) (sym (held_by_holder worker u w.members made.members))
  where
    holder : Option ℕ
    holder = holder_of w.members u

    taken : (b : Bool) → is_number worker (if b then Some worker else holder) ≡ (if b then true else is_number worker holder)
    taken true = eq-eqb worker worker refl
    taken false = refl

    put_down : (b : Bool) → is_number worker (if b then None else holder) ≡ (if b then false else is_number worker holder)
    put_down true = refl
    put_down false = refl

    by_change : (change : Option WordChange) → is_number worker (holder_after worker change u holder) ≡ in_hand_after change u (is_number worker holder)
    by_change None = refl
    by_change (Some (block t)) = taken (u == t)
    by_change (Some (point t l)) = put_down (u == t)
