-- A step of the whole scheduler is that of the world that it shows: the value under the event's lock and the worker's hand
-- are what its action makes of them.
use Rattle.std.proofs.Common.{◌≡◌, ◌≢◌, ◌==◌, ◌&&◌, not, ℕ, ◌+◌, ◌%◌, ◌<◌, Bool, true, false, [], ◌∷◌, length, Option, Some, None, IsSome, option_and_then, ◌⊎◌, inl, inr, ⊎_elim, refl, sym, ◌∙◌, ap, subst, arith, mod-lt}
use Rattle.std.specs.Option.{option_map, option_to_list}
use Rattle.std.specs.Prelude.{IfSome, nat_lt, slice_get}
use Rattle.std.proofs.lemmas.Bool.{and_parts, both_ways, eq-eqb, eqb-true, false≢true, ltb-true, true≢false}
use Rattle.ule_score.specs.declared.place.Place.{Place}
use Rattle.ule_score.specs.declared.place.Place.TheVariants.{Running, Queued, Asleep, Unborn, Gone, Hand}
use Rattle.ule_types.specs.declared.event.Event.{Event}
use Rattle.ule_types.specs.declared.event.Event.TheVariants.{Wake, Move, Lend, Unlend, Renice, Inherit}
use Rattle.ule_types.specs.declared.event.MoveWhy.{MoveWhy}
use Rattle.ule_model.specs.Conditions.{HasEmptyHand, IsHandled}
use Rattle.ule_model.specs.Events.{Locking, are_cpus, empty, handling, holder_of, is_no_others, is_unborn, is_unborn_thread, lock_numbers, lock_of_thread, locking, locks_of, place_of, queues, sought_in}
use Rattle.ule_model.specs.Events as events
use Rattle.ule_model.specs.Places.{hand_of, lock_of}
use Rattle.ule_model.specs.World.{Member, World, thread_of}
use Rattle.ule_model.specs.WorldValue.{IsQueueOf, Shows, WorldValue, held_by, lock_for, lock_with, put_back_pair}
use Rattle.ule_model.specs.CpuValue.{CpuValue}
use Rattle.ule_model.specs.LockValue.{LockValue, queue}
use Rattle.ule_model.specs.Step.{PairStepped, pair_step, step}
use Rattle.ule_members.proofs.PairDone.{IsMove, move_where}
use Rattle.ule_laws.proofs.EventStands.{action_made}
use Rattle.ule_laws.proofs.PairStands.{move_shows}
use Rattle.ule_laws.proofs.SeekLaws.{lock_found}
use Rattle.ule_laws.proofs.StepFrom.{IsAtEvent, IsStepOf, ShowsWithReply, empty_hand, queue_at, step_from}
use Rattle.ule_laws.proofs.WorldLaws.{value_at}

-- ---- the thread that an event seeks

-- a sought thread, which stands under a lock
pub record IsSought (v : WorldValue) (w : World) (t : ℕ) : Type 0 where
  pub member : Member
  pub found : thread_of t w.members ≡ Some member
  pub lock : ℕ
  pub place : lock_of member.place ≡ Some lock
  pub within : lock < 25
  pub lock_is : lock_with t v.values ≡ Some lock
  pub locks : lock_of_thread w.members t ≡ lock ∷ []

-- a thread that is there and in no other's hand, where the worker's own is empty, stands under a lock
pub sought_stands : (v : WorldValue) (w : World) (worker t : ℕ) → Shows v w → IsSome (thread_of t w.members) →
    is_no_others worker (holder_of w.members t) ≡ true → HasEmptyHand w worker → IsSought v w t
sought_stands v w worker t shows there ready none_held = at_thread (thread_of t w.members) refl there
  where
    under : (m : Member) (l : ℕ) → thread_of t w.members ≡ Some m → lock_of m.place ≡ Some l → IsSought v w t
    under m l found lock =
        let is = lock_found v w t l m shows found lock in record {
          member = m;
          found = found;
          lock = l;
          place = lock;
          within = is.0;
          lock_is = is.1;
          locks = ap (λ (o : Option Member). option_to_list (option_and_then (λ (n : Member). lock_of n.place) o)) found ∙ ap (λ (o : Option ℕ). option_to_list o) lock;
        }

    at_place : (m : Member) (p : Place) → thread_of t w.members ≡ Some m → m.place ≡ p → IsSought v w t
    at_place m (Running c) found place = under m c found (ap lock_of place)
    at_place m (Queued c k b) found place = under m c found (ap lock_of place)
    at_place m (Asleep channel) found place = under m (16 + channel % 8) found (ap lock_of place)
    at_place m Unborn found place = under m 24 found (ap lock_of place)
    at_place m Gone found place = under m 24 found (ap lock_of place)
    at_place m (Hand h) found place =
        let holder : holder_of w.members t ≡ Some h = ap (option_and_then (λ (n : Member). hand_of n.place)) found ∙ ap hand_of place in
        absurd (none_held t (holder ∙ ap (λ (i : ℕ). Some i) (eqb-true h worker (sym (ap (is_no_others worker) holder) ∙ ready))))

    at_thread : (o : Option Member) → thread_of t w.members ≡ o → IsSome o → IsSought v w t
    at_thread None found some = absurd (true≢false (sym some))
    at_thread (Some m) found some = at_place m m.place found refl

-- an unborn thread
pub unborn_stands : (w : World) (t : ℕ) → is_unborn_thread (thread_of t w.members) ≡ true → (m : Member) × (thread_of t w.members ≡ Some m) × (m.place ≡ Unborn)
unborn_stands w t is = at_thread (thread_of t w.members) refl is
  where
    at_place : (m : Member) (p : Place) → thread_of t w.members ≡ Some m → m.place ≡ p → is_unborn p ≡ true → (m : Member) × (thread_of t w.members ≡ Some m) × (m.place ≡ Unborn)
    at_place m Unborn found place is = (m, found, place)
    at_place m (Running c) found place is = absurd (true≢false (sym is))
    at_place m (Queued c k b) found place is = absurd (true≢false (sym is))
    at_place m (Asleep channel) found place is = absurd (true≢false (sym is))
    at_place m Gone found place is = absurd (true≢false (sym is))
    at_place m (Hand h) found place is = absurd (true≢false (sym is))

    at_thread : (o : Option Member) → thread_of t w.members ≡ o → is_unborn_thread o ≡ true → (m : Member) × (thread_of t w.members ≡ Some m) × (m.place ≡ Unborn)
    at_thread None found is = absurd (true≢false (sym is))
    at_thread (Some m) found is = at_place m m.place found refl is

-- ---- the lock of an event

-- the one lock of an event, which the scheduler finds for it
pub record HasLock (v : WorldValue) (w : World) (e : Event) : Type 0 where
  pub lock : ℕ
  pub lock_is : lock_for v.values (locking e) ≡ Some lock
  pub locks : locks_of w e ≡ lock ∷ []
  pub within : lock < 25

-- an event that takes two locks
pub record IsPair (e : Event) : Type 0 where
  pub from : ℕ
  pub to : ℕ
  pub locks : locking e ≡ queues from to

-- whether a lock is that of a thread's place
abbrev is_sought : Locking → Bool
is_sought (place_of t) = true
is_sought _ = false

-- an event that seeks a thread needs an empty hand
seeks_empty : (e : Event) → is_sought (locking e) ≡ true → handling e ≡ empty
seeks_empty (Wake t) is = refl
seeks_empty (Lend t p) is = refl
seeks_empty (Unlend t) is = refl
seeks_empty (Renice t n) is = refl
seeks_empty (Inherit t run) is = refl
seeks_empty _ is = absurd (false≢true is)

-- an event that a worker can perform takes two locks, or has one
pub event_lock : (v : WorldValue) (w : World) (worker : ℕ) (e : Event) (now : ℕ) → IsAtEvent v w worker e now → IsPair e ⊎ HasLock v w e
event_lock v w worker e now at = by_locks (locking e) refl
  where
    one : (k : Locking) → locking e ≡ k → (l : ℕ) → lock_for v.values k ≡ Some l → lock_numbers w.members k ≡ l ∷ [] → l < 25 → HasLock v w e
    one k is l lock locks within = record { lock = l; lock_is = ap (lock_for v.values) is ∙ lock; locks = ap (lock_numbers w.members) is ∙ locks; within = within }

    sought : (t : ℕ) → locking e ≡ place_of t → HasLock v w e
    sought t is =
        let s = sought_stands v w worker t at.shows (subst (λ (k : Locking). IfSome (sought_in k) (λ u. IsSome (thread_of u w.members))) is at.possible.declared)
        (sym (ap (λ (k : Locking). is_no_others worker (option_and_then (holder_of w.members) (sought_in k))) is) ∙ at.possible.ready)
        (subst (IsHandled w worker) (seeks_empty e (ap is_sought is)) at.possible.hand) in
        one (place_of t) is s.lock s.lock_is s.locks s.within

    by_locks : (k : Locking) → locking e ≡ k → IsPair e ⊎ HasLock v w e
    by_locks (events.queue c) is =
        let there = ltb-true c (length w.lines) (sym (ap (are_cpus (length w.lines)) is) ∙ at.possible.cpus) in let few = at.shows.cpus in
        inr (one (events.queue c) is c refl refl (omega arith))
    by_locks (queues a b) is = inl (record { from = a; to = b; locks = is })
    by_locks (events.chain channel) is = inr (one (events.chain channel) is (16 + channel % 8) refl refl (let small : channel % 8 < 8 = mod-lt channel (omega arith) in omega arith))
    by_locks events.limbo is = inr (one events.limbo is 24 refl refl (omega arith))
    by_locks (place_of t) is = inr (sought t is)

-- ---- the step

-- the values of two CPUs that there are
pub record AreBoth (v : WorldValue) (w : World) (a b : ℕ) : Type 0 where
  pub apart : a ≢ b
  pub from : CpuValue
  pub to : CpuValue
  pub found_from : slice_get v.values a ≡ Some (queue from)
  pub found_to : slice_get v.values b ≡ Some (queue to)
  pub is_from : IsQueueOf w a from
  pub is_to : IsQueueOf w b to

-- where a worker can perform a move, the scheduler has the values of both
pub both_there : (v : WorldValue) (w : World) (worker a b : ℕ) (why : MoveWhy) (now : ℕ) → IsAtEvent v w worker (Move a b why) now → AreBoth v w a b
both_there v w worker a b why now at =
    let first = and_parts (nat_lt a (length w.lines)) (nat_lt b (length w.lines) && not (a == b)) at.possible.cpus in
    let second = and_parts (nat_lt b (length w.lines)) (not (a == b)) first.1 in
    let from = there a (ltb-true a (length w.lines) first.0) in
    let to = there b (ltb-true b (length w.lines) second.0) in record {
      apart = λ same. both_ways (not (a == b)) (ap not (eq-eqb a b same)) second.1;
      from = from.0;
      to = to.0;
      found_from = from.1;
      found_to = to.1;
      is_from = from.2;
      is_to = to.2;
    }
  where
    there : (c : ℕ) → c < length w.lines → (u : CpuValue) × (slice_get v.values c ≡ Some (queue u)) × IsQueueOf w c u
    there c below =
        let few = at.shows.cpus in
        let has = value_at v w c at.shows (omega arith) in
        let q = queue_at w c has.value below at.shows.cpus has.stands in (q.0, has.found ∙ ap (λ (x : LockValue). Some x) q.1, q.2)

-- a move
move_steps : (v : WorldValue) (w : World) (worker a b : ℕ) (why : MoveWhy) (now : ℕ) → IsAtEvent v w worker (Move a b why) now → IsStepOf v w worker (Move a b why) now
move_steps v w worker a b why now at =
    subst (λ (o : Option LockValue). IsMoved (option_and_then (λ from. option_map (made from) (slice_get v.values b)) o)) (sym both.found_from)
    (subst (λ (o : Option LockValue). IsMoved (option_map (made (queue both.from)) o)) (sym both.found_to)
    (move_shows v w worker now a b both.from both.to at.shows at.possible.worker_is both.apart both.is_from both.is_to why
    (empty_hand w worker (held_by v worker) at.shows.made (at.shows.hands worker) at.possible.hand)))
  where
    both : AreBoth v w a b
    both = both_there v w worker a b why now at

    made : LockValue → LockValue → PairStepped
    made from to = pair_step worker (Move a b why) now (held_by v worker) from to

    IsMoved : Option PairStepped → Type 0
    IsMoved o = ShowsWithReply (step w worker (Move a b why) now).0 (step w worker (Move a b why) now).1 (put_back_pair a b worker o v)

-- a step of the whole scheduler, where an event is performed
pub step_shows : (v : WorldValue) (w : World) (worker : ℕ) (e : Event) (now : ℕ) → IsAtEvent v w worker e now → IsStepOf v w worker e now
step_shows v w worker e now at = ⊎_elim two one (event_lock v w worker e now at)
  where
    two : IsPair e → IsStepOf v w worker e now
    two pair =
        let is : IsMove e pair.from pair.to = move_where e pair.from pair.to pair.locks in
        subst (λ (x : Event). IsAtEvent v w worker x now → IsStepOf v w worker x now) (sym is.event_is) (move_steps v w worker pair.from pair.to is.why now) at

    one : HasLock v w e → IsStepOf v w worker e now
    one has =
        step_from v w worker e now has.lock at has.lock_is has.locks has.within (λ here. action_made v w worker now at.shows e has.lock at.possible has.locks here.value here.stands)
