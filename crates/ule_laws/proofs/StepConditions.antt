-- Where a worker can perform an event in a world, the scheduler that shows it has what the step under the event's lock needs, or
-- that under its two locks.
use Rattle.std.proofs.Common.{◌≡◌, ◌≢◌, ℕ, ◌+◌, ◌%◌, ◌<◌, ◌≤◌, Bool, true, false, ◌==◌, ◌||◌, List, [], ◌∷◌, length, slice_get, Option, Some, None, IfSome, ⊎_elim, refl, sym, ◌∙◌, ap, subst, arith}
use Rattle.std.specs.List.{list_any}
use Rattle.std.specs.Option.{option_map}
use Rattle.std.proofs.lemmas.Bool.{cond-false, cond-true, eq-eqb, eqb-true, true≢false}
use Rattle.std.proofs.lemmas.Option.{none-some, same_Some, slice_get_within}
use Rattle.ule_score.specs.Changes.{IsBy}
use Rattle.ule_score.specs.declared.place.Place.{Place}
use Rattle.ule_score.specs.declared.record.ThreadRecord.{ThreadRecord}
use Rattle.ule_sleep.specs.Chain.{standing_in}
use Rattle.ule_threads.specs.declared.standing.Standing.{Standing}
use Rattle.ule_types.specs.Commands.{is_among}
use Rattle.ule_types.specs.declared.event.Event.{Event}
use Rattle.ule_types.specs.declared.event.Event.TheVariants.{Hatch, Move}
use Rattle.ule_types.specs.declared.event.MoveWhy.{MoveWhy}
use Rattle.ule_model.specs.Conditions.{IsByIfReached, IsHandled, IsPossible}
use Rattle.ule_model.specs.CpuValue.{CpuValue, thread_in, thread_on}
use Rattle.ule_model.specs.Events.{handling, is_reached, locking, locks_of, sought_by}
use Rattle.ule_model.specs.Frames.{thread_in_hand, thread_under}
use Rattle.ule_model.specs.LockConditions.{CanStepAt, CanStepPair, HasPlaced, HasSleeper, HasStill}
use Rattle.ule_model.specs.LockValue.{LockValue, chain, limbo, nothing, queue}
use Rattle.ule_model.specs.Places.{hand_of, is_hand_of, is_number, is_under}
use Rattle.ule_model.specs.WellMade.{IsWellMade}
use Rattle.ule_sleep.specs.Limbo.{HasUnborn}
use Rattle.ule_model.specs.World.{Member, World, side_of}
use Rattle.ule_model.specs.WorldValue.{CanStep, IsQueueOf, Shows, StandsUnder, WorldValue, held_by, if_thread, lock_for, standing_of}
use Rattle.ule_members.proofs.ActionFits.{IsUnder, sought_under}
use Rattle.ule_members.proofs.Membership.{all_has, has_within}
use Rattle.ule_members.proofs.Reach.{lock_where_on, place_from_hand, takes_itself}
use Rattle.ule_members.proofs.PlaceFinds.{thread_at_stands, thread_at_within, within_thread_at}
use Rattle.ule_members.proofs.Threads.{thread_of_within, thread_on_stands, within_thread_on}
use Rattle.ule_laws.proofs.SeekLaws.{on_is_under, one_lock}
use Rattle.ule_laws.proofs.EventStands.{same_lock}
use Rattle.ule_laws.proofs.SoughtLaws.{current_numbered, has_placed, has_sleeper, has_still, sought_locks, takes_chain, takes_limbo, takes_queue}
use Rattle.ule_laws.proofs.StepFrom.{IsAtEvent, empty_hand, slot_of}
use Rattle.ule_laws.proofs.StepLaws.{AreBoth, HasLock, IsPair, both_there, event_lock, unborn_stands}
use Rattle.ule_laws.proofs.WorldLaws.{HasValue, if_some, value_at}

-- ---- reach

-- a place under an event's one lock is within its reach
reached_here : (w : World) (worker : ℕ) (e : Event) (l : ℕ) (p : Place) → locks_of w e ≡ l ∷ [] → is_under l p ≡ true → is_reached w worker e p ≡ true
reached_here w worker e l p locks under =
    ap (λ (ls : List ℕ). list_any (λ k. is_under k p) ls || is_hand_of worker p) locks ∙ ap (λ (b : Bool). (b || false) || is_hand_of worker p) under

-- what is noted of a thread under the lock is by now
by_now : (w : World) (worker : ℕ) (e : Event) (now l t : ℕ) (m : Member) → IsWellMade w.members → IsPossible w worker e now → locks_of w e ≡ l ∷ [] →
    thread_under l t w.members ≡ Some m → IsBy now m.thread
by_now w worker e now l t m made possible locks found =
    all_has (IsByIfReached w worker e now) m w.members possible.in_time (has_within t m w.members (within_thread_at (is_under l) t m w.members made found))
    (reached_here w worker e l m.place locks (thread_at_stands (is_under l) t m w.members found))

-- ---- the thread in the hand

-- a thread that a hand has is under no lock
not_under : (v : WorldValue) (w : World) (worker l : ℕ) (r : ThreadRecord) → Shows v w → held_by v worker ≡ Some r → thread_under l r.id w.members ≡ None
not_under v w worker l r shows held = at_thread (thread_in_hand worker r.id w.members) refl
  where
    some : Some r ≡ option_map (λ m. m.thread) (thread_in_hand worker r.id w.members)
    some =
        sym (cond-true (r.id == r.id) (Some r) None (eq-eqb r.id r.id refl)) ∙ sym (ap (if_thread r.id) held) ∙ shows.hands worker r.id

    at_thread : (o : Option Member) → thread_in_hand worker r.id w.members ≡ o → thread_under l r.id w.members ≡ None
    at_thread None is = absurd (none-some r (sym (some ∙ ap (option_map (λ (m : Member). m.thread)) is)))
    at_thread (Some m) is =
        thread_at_within (is_under l) r.id m w.members (within_thread_at (is_hand_of worker) r.id m w.members shows.made is) ∙
        cond-false (is_under l m.place) (Some m) None (ap (is_under l) (place_from_hand worker m.place (number_from (hand_of m.place) (thread_at_stands (is_hand_of worker) r.id m w.members is))))
      where
        number_from : (o : Option ℕ) → is_number worker o ≡ true → o ≡ Some worker
        number_from None not = absurd (true≢false (sym not))
        number_from (Some h) is = ap (λ (i : ℕ). Some i) (sym (eqb-true worker h is))

-- ---- what the step needs

-- the thread that an event of one lock seeks stands under it
seeks_under : (v : WorldValue) (w : World) (worker : ℕ) (e : Event) (now l t : ℕ) (at : IsAtEvent v w worker e now) → locks_of w e ≡ l ∷ [] → sought_by e ≡ Some t →
    IsUnder w t l
seeks_under v w worker e now l t at locks sought =
    sought_under w t l (ap (λ (ls : List ℕ). is_among ls l) (sym (sought_locks w.members (locking e) t sought) ∙ locks) ∙ takes_itself l)

-- the step under an event's lock has what it needs
pub can_step_at : (v : WorldValue) (w : World) (worker : ℕ) (e : Event) (now l : ℕ) (value : LockValue) → IsAtEvent v w worker e now → locks_of w e ≡ l ∷ [] →
    StandsUnder w l value → CanStepAt value (held_by v worker) e now
can_step_at v w worker e now l (queue u) at locks is = record {
  time = record { begun = at.possible.begun; bounded = at.possible.bounded };
  in_time = λ t. subst (λ (o : Option ThreadRecord). IfSome o (λ r. r.usage.ltick ≤ now)) (sym (is.stands.threads t)) (on t (thread_on u.cpu t w.members) refl);
  absent = if_some (λ (r : ThreadRecord). thread_in u r.id ≡ None) (held_by v worker) (λ r held. is.stands.threads r.id ∙ ap (option_map (λ (m : Member). m.thread)) (under r.id ∙ not_under v w worker l r at.shows held));
  numbers = at.possible.numbers;
  cpu = λ t c same. is.cpu ∙ sym (same_lock c l (sym (ap (locks_of w) same) ∙ locks));
  lock = takes_queue w.members l (locking e) (let below = is.there in let few = at.shows.cpus in omega arith) locks;
  runs = current_numbered u (side_of l w) is.stands at.shows.made;
  sought = if_some (HasPlaced u) (sought_by e) (λ t same. has_placed v w worker now at.shows t l (seeks_under v w worker e now l t at locks same) u is);
}
  where
    under : (t : ℕ) → thread_on u.cpu t w.members ≡ thread_under l t w.members
    under t = let few = at.shows.cpus in let below = is.there in let e0 = is.cpu in on_is_under u.cpu t w.members (omega arith) ∙ ap (λ (c : ℕ). thread_under c t w.members) is.cpu

    on : (t : ℕ) (o : Option Member) → thread_on u.cpu t w.members ≡ o → IfSome (option_map (λ m. m.thread) o) (λ r. r.usage.ltick ≤ now)
    on t None found = tt
    on t (Some m) found = (by_now w worker e now l t m at.shows.made at.possible locks (sym (under t) ∙ found)).ltick
can_step_at v w worker e now l (chain c) at locks is = record {
  time = record { begun = at.possible.begun; bounded = at.possible.bounded };
  in_time = λ t. subst (λ (o : Option Standing). IfSome o (λ s. IsBy now s.thread)) (sym (is.under t)) (on t (thread_under l t w.members) refl);
  absent = if_some (λ (r : ThreadRecord). standing_in c.slots r.id ≡ None) (held_by v worker) (λ r held. is.under r.id ∙ ap (option_map standing_of) (not_under v w worker l r at.shows held));
  numbers = at.possible.numbers;
  channel = λ t channel same. let number = is.number in let lock : 16 + channel % 8 ≡ l = same_lock (16 + channel % 8) l (sym (ap (locks_of w) same) ∙ locks) in omega arith;
  lock = takes_chain w.members l (length w.lines) (locking e) (let number = is.number in omega arith) (let number = is.number in let small = is.small in omega arith) at.shows.cpus at.possible.cpus locks;
  sought = if_some (HasSleeper c) (sought_by e) (λ t same. has_sleeper v w worker now at.shows t l (seeks_under v w worker e now l t at locks same) c is);
}
  where
    on : (t : ℕ) (o : Option Member) → thread_under l t w.members ≡ o → IfSome (option_map standing_of o) (λ s. IsBy now s.thread)
    on t None found = tt
    on t (Some m) found = by_now w worker e now l t m at.shows.made at.possible locks found
can_step_at v w worker e now l (limbo c) at locks is = record {
  absent = if_some (λ (r : ThreadRecord). standing_in c.slots r.id ≡ None) (held_by v worker) (λ r held. is.under r.id ∙ ap (option_map standing_of) (not_under v w worker l r at.shows held));
  numbers = at.possible.numbers;
  unborn = λ t same. hatched t same;
  lock = takes_limbo w.members l (length w.lines) (locking e) is.number at.shows.cpus at.possible.cpus locks;
  sought = if_some (HasStill c) (sought_by e) (λ t same. has_still v w worker now at.shows t l (seeks_under v w worker e now l t at locks same) c is);
}
  where
    hatched : (t : ℕ) → e ≡ Hatch t → HasUnborn c t
    hatched t same =
        let m = unborn_stands w t (subst (λ (x : Event). IsHandled w worker (handling x)) same at.possible.hand).1 in
        (m.0.thread, slot_of w l t m.0 c.slots is.under at.shows.made m.1 (ap (is_under l) m.2 ∙ ap (λ (i : ℕ). is_number i (Some 24)) is.number) ∙ ap (λ (p : Place). Some (record { thread = m.0.thread; place = p })) m.2)
can_step_at v w worker e now l nothing at locks is = tt

-- ---- the lock of an event

-- the one lock of an event that a worker can perform
pub record IsLockOf (w : World) (e : Event) (l : ℕ) : Type 0 where
  pub within : l < 25
  pub locks : locks_of w e ≡ l ∷ []

-- the lock that a scheduler finds for an event is the event's one lock
pub lock_is_events : (v : WorldValue) (w : World) (worker : ℕ) (e : Event) (now l : ℕ) → IsAtEvent v w worker e now → lock_for v.values (locking e) ≡ Some l → IsLockOf w e l
lock_is_events v w worker e now l at lock = ⊎_elim two one (event_lock v w worker e now at)
  where
    two : IsPair e → IsLockOf w e l
    two pair = absurd (none-some l (sym (ap (lock_for v.values) pair.locks) ∙ lock))

    one : HasLock v w e → IsLockOf w e l
    one has = subst (IsLockOf w e) (same_Some has.lock l (sym has.lock_is ∙ lock)) (record { within = has.within; locks = has.locks })

-- what a scheduler has where it finds a lock for an event
pub record CanStepUnder (v : WorldValue) (worker : ℕ) (e : Event) (now l : ℕ) : Type 0 where
  pub within : l < length v.values
  pub worker_is : worker < length v.hands
  pub value : LockValue
  pub found : slice_get v.values l ≡ Some value
  pub can : CanStepAt value (held_by v worker) e now

pub can_step_under : (v : WorldValue) (worker : ℕ) (e : Event) (now l : ℕ) → CanStep v worker e now → lock_for v.values (locking e) ≡ Some l → CanStepUnder v worker e now l
can_step_under v worker e now l can lock =
    let at : IsAtEvent v can.0 worker e now = record { shows = can.1; possible = can.2 } in
    let is : IsLockOf can.0 e l = lock_is_events v can.0 worker e now l at lock in
    let has : HasValue v can.0 l = value_at v can.0 l can.1 is.within in record {
      within = subst (λ (i : ℕ). l < i) (sym can.1.locks) is.within;
      worker_is = subst (λ (i : ℕ). worker < i) (sym can.1.workers) can.2.worker_is;
      value = has.value;
      found = has.found;
      can = can_step_at v can.0 worker e now l has.value at is.locks has.stands;
    }

-- ---- two locks

-- no thread is on two CPUs
on_one : (w : World) (a b : ℕ) (u x : CpuValue) → IsWellMade w.members → length w.lines ≤ 16 → a ≢ b → IsQueueOf w a u → IsQueueOf w b x → (t : ℕ) →
    IfSome (thread_in u t) (λ r. thread_in x t ≡ None)
on_one w a b u x made few apart is_a is_b t =
    subst (λ (o : Option ThreadRecord). IfSome o (λ r. thread_in x t ≡ None)) (sym (is_a.stands.threads t)) (at_thread (thread_on u.cpu t w.members) refl)
  where
    at_thread : (o : Option Member) → thread_on u.cpu t w.members ≡ o → IfSome (option_map (λ m. m.thread) o) (λ r. thread_in x t ≡ None)
    at_thread None found = tt
    at_thread (Some m) found =
        is_b.stands.threads t ∙ ap (option_map (λ (n : Member). n.thread))
        (on_is_under x.cpu t w.members (let there = is_b.there in let cpu = is_b.cpu in omega arith) ∙ ap (λ (c : ℕ). thread_under c t w.members) is_b.cpu ∙
        one_lock w a b t m made (thread_of_within t m w.members (within_thread_on u.cpu t m w.members made found))
        (lock_where_on u.cpu m.place (thread_on_stands u.cpu t m w.members found) ∙ ap (λ (c : ℕ). Some c) is_a.cpu) (λ same. apart (sym same)))

-- what a scheduler has where a worker can perform a move
pub record CanStepBoth (v : WorldValue) (worker a b : ℕ) : Type 0 where
  pub apart : a ≢ b
  pub within_from : a < length v.values
  pub within_to : b < length v.values
  pub worker_is : worker < length v.hands
  pub from : CpuValue
  pub to : CpuValue
  pub found_from : slice_get v.values a ≡ Some (queue from)
  pub found_to : slice_get v.values b ≡ Some (queue to)
  pub can : CanStepPair (queue from) (queue to) (held_by v worker)

pub can_step_both : (v : WorldValue) (worker a b : ℕ) (why : MoveWhy) (now : ℕ) → CanStep v worker (Move a b why) now → CanStepBoth v worker a b
can_step_both v worker a b why now can =
    let both : AreBoth v can.0 a b = both_there v can.0 worker a b why now (record { shows = can.1; possible = can.2 }) in record {
      apart = both.apart;
      within_from = slice_get_within v.values a (queue both.from) both.found_from;
      within_to = slice_get_within v.values b (queue both.to) both.found_to;
      worker_is = subst (λ (i : ℕ). worker < i) (sym can.1.workers) can.2.worker_is;
      from = both.from;
      to = both.to;
      found_from = both.found_from;
      found_to = both.found_to;
      can = record {
        empty = empty_hand can.0 worker (held_by v worker) can.1.made (can.1.hands worker) can.2.hand;
        apart = on_one can.0 a b both.from both.to can.1.made can.1.cpus both.apart both.is_from both.is_to;
      };
    }
