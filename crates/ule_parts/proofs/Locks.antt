-- The locks of an event, found by the values and by the world; the worker's hand; and what an act under them is.
use Rattle.std.proofs.Common.{◌≡◌, ◌≢◌, ℕ, ◌+◌, ◌%◌, ◌<◌, ◌≤◌, ◌==◌, ◌&&◌, not, true, false, nat_lt, List, [], ◌∷◌, length, map, refl, sym, ap, ◌∙◌, subst, arith, mod-lt, lt-ltb, le-ltb, true≢false, ⊎_elim, slice_get, slice_set, Option, Some, None, IfSome, IsSome, IsTrue, is_some, if◌then◌else◌, option_and_then}
use Rattle.std.specs.List.{AllByRecursion}
use Rattle.std.specs.Option.{option_map, option_to_list}
use Rattle.std.specs.Prelude.{max, min}
use Rattle.std.proofs.lemmas.Bool.{and_parts, both_ways, cases_lt, eq-eqb, ltb-true, not-true}
use Rattle.std.proofs.lemmas.List.{length-set, set_comm}
use Rattle.ule_score.specs.declared.record.Settings.{Settings}
use Rattle.ule_score.specs.declared.record.ThreadRecord.{ThreadRecord}
use Rattle.ule_types.specs.declared.event.Event.{Event}
use Rattle.ule_types.specs.declared.event.Event.TheVariants.{Tick, Switch, Drop, Bed, Wake, Look, Land, Move, Lend, Unlend, Renice, Hatch, Fork, Return, Exit, Bury, Inherit}
use Rattle.ule_types.specs.declared.event.Reply.{Reply}
use Rattle.ule_types.specs.declared.setup.Setup.{Setup}
use Rattle.ule_model.specs.Conditions.{HasEmptyHand, IsHandled, IsPossible}
use Rattle.ule_model.specs.Events.{Locking, queue, queues, chain, limbo, place_of, locking, Handling, any, empty, unborn, has, handling, lock_numbers, locks_of, are_cpus, names_cpus, sought_by, sought_in, is_no_others, is_ready, holder_of, is_unborn_thread}
use Rattle.ule_model.specs.Frames.{thread_in_hand, thread_under}
use Rattle.ule_model.specs.LockValue.{LockValue, has_under}
use Rattle.ule_model.specs.Places.{hand_of, is_under, lock_of}
use Rattle.ule_model.specs.Step.{PairStepped, Stepped, lock_step, pair_step, step}
use Rattle.ule_model.specs.World.{Member, World, thread_of}
use Rattle.ule_model.specs.WorldValue.{IsHandOf, Shows, WorldValue, held_by, if_thread, put_back, put_back_pair}
use Rattle.ule_members.proofs.Reach.{is_number_itself, no_hand_under, number_from_test}
use Rattle.ule_members.proofs.Within.{within_thread}
use Rattle.ule_members.proofs.PlaceFinds.{thread_at_is, thread_at_stands, thread_at_within}
use Rattle.ule_laws.proofs.SeekLaws.{has_stands, lock_found}
use Rattle.ule_laws.proofs.StepFrom.{IsAtEvent, ShowsWithReply, two_locks}
use Rattle.ule_laws.proofs.StepLaws.{HasLock, IsPair, event_lock, sought_stands, step_shows}
use Rattle.ule_laws.proofs.WorldLaws.{HasValue, at_some, value_at}
use Rattle.ule_laws.proofs.WorldSteps.{made_is_step, pair_made_is_step}
use Rattle.ule_courses.proofs.Hands.{found_held, held_in_hand}
use Rattle.ule_micro.specs.declared.entry.Entry.{Entry}
use Rattle.ule_micro.specs.declared.entry.HeldLocks.{HeldLocks}
use Rattle.ule_micro.specs.declared.entry.HeldLocks.TheVariants.{One, Two}
use Rattle.ule_micro.specs.Histories.{AreLocksFor, laid_under, values_under}
use Rattle.ule_micro.specs.Laws.{AreInRisingOrder}
use Rattle.ule_micro.specs.Standings.{Acted}
use Rattle.ule_micro.proofs.Effects.{stands_here, stands_value, under_one, under_two}
use Rattle.ule_micro.proofs.Lists.{get_else, get_here}
use Rattle.ule_parts.specs.Acts.{AreAt, act_on, act_under_two, acted_under_two, lock_list, names_lower_first, needs_of}
use Rattle.ule_parts.specs.Workers.{HandFits}
use Rattle.ule_parts.specs.Scheduler.{sched_means}

-- an event that seeks needs an empty hand
pub seeker_empty : (e : Event) (t : ℕ) → locking e ≡ place_of t → handling e ≡ empty
seeker_empty (Tick c) t is = absurd (cc)
seeker_empty (Switch c why) t is = absurd (cc)
seeker_empty (Drop c channel) t is = absurd (cc)
seeker_empty (Bed u channel) t is = absurd (cc)
seeker_empty (Wake u) t is = refl
seeker_empty (Look c) t is = absurd (cc)
seeker_empty (Land u c) t is = absurd (cc)
seeker_empty (Move a b why) t is = absurd (cc)
seeker_empty (Lend u p) t is = refl
seeker_empty (Unlend u) t is = refl
seeker_empty (Renice u n) t is = refl
seeker_empty (Hatch u) t is = absurd (cc)
seeker_empty (Fork c u) t is = absurd (cc)
seeker_empty (Return u) t is = absurd (cc)
seeker_empty (Exit c) t is = absurd (cc)
seeker_empty (Bury u) t is = absurd (cc)
seeker_empty (Inherit u run) t is = refl

-- an option that is there
pub some_of : {X : Type 0} (o : Option X) → is_some o ≡ true → (x : X) × (o ≡ Some x)
some_of None is = absurd (true≢false (sym is))
some_of (Some x) is = (x, refl)

-- ---- the locks of an event

-- has locks: these are the event's locks, by the world, and a sought thread stands under its one
pub record HasLocks (x : World) (k : Locking) (held : HeldLocks) : Type 0 where
  pub numbers : lock_numbers x.members k ≡ lock_list held
  pub within : AllByRecursion (λ l. l < 25) (lock_list held)
  pub rising : AreInRisingOrder held
  pub ready : (worker : ℕ) → is_no_others worker (option_and_then (holder_of x.members) (sought_in k)) ≡ true

-- one lock of a list
pub one_same : (k l : ℕ) → k ∷ [] ≡ l ∷ [] → k ≡ l
one_same k l is = ap first is where
  first : List ℕ → ℕ
  first [] = k
  first (i ∷ is) = i

-- two locks of a list
pub two_same : (a b c d : ℕ) → a ∷ b ∷ [] ≡ c ∷ d ∷ [] → (a ≡ c) × (b ≡ d)
two_same a b c d is = (ap first is, ap second is)
  where
    first : List ℕ → ℕ
    first [] = a
    first (i ∷ is) = i

    second : List ℕ → ℕ
    second [] = b
    second (i ∷ []) = b
    second (i ∷ j ∷ is) = j

-- the locks that are held, by their list
pub held_one : (held : HeldLocks) (l : ℕ) → lock_list held ≡ l ∷ [] → held ≡ One l
held_one (One a) l is = ap (λ i. One i) (one_same a l is)
held_one (Two a b) l is = absurd (two_locks a b l is)

pub held_two : (held : HeldLocks) (a b : ℕ) → lock_list held ≡ a ∷ b ∷ [] → held ≡ Two a b
held_two (One c) a b is = absurd (two_locks a b c (sym is))
held_two (Two c d) a b is = let same = two_same c d a b is in (λ i. Two (same.0 i) (same.1 i))

-- a CPU's lock
queue_lock : (x : World) (c : ℕ) → length x.lines ≤ 16 → IsTrue (are_cpus (length x.lines) (queue c)) → HasLocks x (queue c) (One c)
queue_lock x c few names =
    let there = ltb-true c (length x.lines) names in record { numbers = refl; within = (omega arith, tt); rising = tt; ready = λ worker. refl }

-- two CPUs that are there are two
pub are_apart : (n a b : ℕ) → IsTrue (are_cpus n (queues a b)) → (a < n) × (b < n) × (a ≢ b)
are_apart n a b names =
    let first = and_parts (nat_lt a n) (nat_lt b n && not (a == b)) names in
    let second = and_parts (nat_lt b n) (not (a == b)) first.1 in
    (ltb-true a n first.0, ltb-true b n second.0, λ same. both_ways (a == b) (not-true (a == b) second.1) (eq-eqb a b same))

-- two CPUs' locks
queue_locks : (x : World) (a b : ℕ) → length x.lines ≤ 16 → IsTrue (are_cpus (length x.lines) (queues a b)) → HasLocks x (queues a b) (Two (min a b) (max a b))
queue_locks x a b few names =
    let there = are_apart (length x.lines) a b names in let first = there.0 in let second = there.1 in let far : a ≢ b = there.2 in record {
      numbers = refl;
      within = (omega arith, (omega arith, tt));
      rising = omega arith;
      ready = λ worker. refl;
    }

-- a channel's lock
chain_lock : (x : World) (channel : ℕ) → HasLocks x (chain channel) (One (16 + channel % 8))
chain_lock x channel =
    let small : channel % 8 < 8 = mod-lt channel (omega arith) in record { numbers = refl; within = (omega arith, tt); rising = tt; ready = λ worker. refl }

-- limbo's lock
limbo_lock : (x : World) → HasLocks x limbo (One 24)
limbo_lock x = record { numbers = refl; within = (omega arith, tt); rising = tt; ready = λ worker. refl }

-- the lock of a thread that stands under it
thread_lock : (v : WorldValue) (x : World) (t l : ℕ) (m : Member) → Shows v x → thread_of t x.members ≡ Some m → lock_of m.place ≡ Some l → HasLocks x (place_of t) (One l)
thread_lock v x t l m shows found lock = record {
  numbers = ap (λ (o : Option Member). option_to_list (option_and_then (λ (n : Member). lock_of n.place) o)) found ∙ ap (λ (o : Option ℕ). option_to_list o) lock;
  within = ((lock_found v x t l m shows found lock).0, tt);
  rising = tt;
  ready = λ worker. ap (is_no_others worker) (ap (option_and_then (λ (n : Member). hand_of n.place)) found ∙ no_hand_under l m.place lock);
}

module _ (s : Setup) where
  -- the locks that the step model finds for an event are its locks
  pub locks_are : (v : WorldValue) (x : World) (k : Locking) (held : HeldLocks) → Shows v x → IsTrue (are_cpus (length x.lines) k)
      → AreLocksFor (sched_means s) v.values held (needs_of k) → HasLocks x k held
  locks_are v x (queue c) held shows names is = subst (HasLocks x (queue c)) (sym is) (queue_lock x c shows.cpus names)
  locks_are v x (queues a b) held shows names is = subst (HasLocks x (queues a b)) (sym is) (queue_locks x a b shows.cpus names)
  locks_are v x (chain channel) held shows names is = subst (HasLocks x (chain channel)) (sym is) (chain_lock x channel)
  locks_are v x limbo held shows names is = subst (HasLocks x limbo) (sym is) (limbo_lock x)
  locks_are v x (place_of t) held shows names (l, is, st) =
      let at = stands_value (sched_means s) v.values l t st in
      let there : is_some (thread_under l t x.members) ≡ true = sym (has_stands x l t at.0 shows.made shows.cpus (at_some _ (slice_get v.values l) at.0 (shows.under l) at.1)) ∙ at.2 in
      let m = some_of (thread_under l t x.members) there in
      subst (HasLocks x (place_of t)) (sym is)
      (thread_lock v x t l m.0 shows (thread_at_is (is_under l) t m.0 x.members shows.made m.1) (number_from_test l (lock_of m.0.place) (thread_at_stands (is_under l) t m.0 x.members m.1)))

-- finds locks: the locks of an event, by the world and by the values
pub record FindsLocks (s : Setup) (v : WorldValue) (x : World) (k : Locking) : Type 0 where
  pub held : HeldLocks
  pub has : HasLocks x k held
  pub are : AreLocksFor (sched_means s) v.values held (needs_of k)

-- an event of which a sought thread is in no other worker's hand finds its locks
pub locks_of_ready : (s : Setup) (v : WorldValue) (x : World) (worker : ℕ) (e : Event) → Shows v x → IsTrue (names_cpus (length x.lines) e)
    → IfSome (sought_by e) (λ t. IsSome (thread_of t x.members)) → is_ready x worker e ≡ true → IsHandled x worker (handling e) → FindsLocks s v x (locking e)
locks_of_ready s v x worker e shows cpus declared ready hand = by (locking e) refl
  where
    names : (k : Locking) → locking e ≡ k → IsTrue (are_cpus (length x.lines) k)
    names k is = subst (λ i. IsTrue (are_cpus (length x.lines) i)) is cpus

    at : (k : Locking) → locking e ≡ k → FindsLocks s v x k → FindsLocks s v x (locking e)
    at k is found = subst (FindsLocks s v x) (sym is) found

    by : (k : Locking) → locking e ≡ k → FindsLocks s v x (locking e)
    by (queue c) is = at (queue c) is (record { held = One c; has = queue_lock x c shows.cpus (names (queue c) is); are = refl })
    by (queues a b) is = at (queues a b) is (record { held = Two (min a b) (max a b); has = queue_locks x a b shows.cpus (names (queues a b) is); are = refl })
    by (chain channel) is = at (chain channel) is (record { held = One (16 + channel % 8); has = chain_lock x channel; are = refl })
    by limbo is = at limbo is (record { held = One 24; has = limbo_lock x; are = refl })
    by (place_of t) is =
        let z = sought_stands v x worker t shows (subst (λ k. IfSome (sought_in k) (λ u. IsSome (thread_of u x.members))) is declared)
        (subst (λ k. is_no_others worker (option_and_then (holder_of x.members) (sought_in k)) ≡ true) is ready)
        (subst (IsHandled x worker) (seeker_empty e t is) hand) in
        let there : HasValue v x z.lock = value_at v x z.lock shows z.within in
        let under : is_some (thread_under z.lock t x.members) ≡ true =
        ap (λ o. is_some o) (thread_at_within (is_under z.lock) t z.member x.members (within_thread t x.members z.member shows.made z.found))
        ∙ ap (λ b. is_some (if◌then◌else◌ b (Some z.member) None)) (is_number_itself z.lock (lock_of z.member.place) z.place) in
        at (place_of t) is (record {
          held = One z.lock;
          has = thread_lock v x t z.lock z.member shows z.found z.place;
          are = (z.lock, refl, stands_here (sched_means s) v.values z.lock t there.value there.found ∙ (has_stands x z.lock t there.value shows.made shows.cpus there.stands ∙ under));
        })

-- the locks of an event that is possible
pub locks_of_possible : (s : Setup) (v : WorldValue) (x : World) (worker : ℕ) (e : Event) (now : ℕ) → Shows v x → IsPossible x worker e now → FindsLocks s v x (locking e)
locks_of_possible s v x worker e now shows can = locks_of_ready s v x worker e shows can.cpus can.declared can.ready can.hand

-- ---- the values under locks

-- the values under the locks that are held stand there
pub are_under : (held : HeldLocks) (values guarded : List LockValue) → values_under held values ≡ Some guarded → AreAt values (lock_list held) guarded
are_under (One a) values guarded under = let u = under_one a values guarded under in subst (AreAt values (a ∷ [])) (sym u.2) (u.1, tt)
are_under (Two a b) values guarded under = let u = under_two a b values guarded under in subst (AreAt values (a ∷ b ∷ [])) (sym u.4) (u.2, (u.3, tt))

-- one value under one lock
pub one_at : (values : List LockValue) (l : ℕ) (guarded : List LockValue) → AreAt values (l ∷ []) guarded → (u : LockValue) × (guarded ≡ u ∷ []) × (slice_get values l ≡ Some u)
one_at values l [] is = absurd is
one_at values l (u ∷ []) is = (u, refl, is.0)
one_at values l (u ∷ v ∷ us) is = absurd is.1

-- two values under two locks
pub two_at : (values : List LockValue) (l k : ℕ) (guarded : List LockValue) → AreAt values (l ∷ k ∷ []) guarded
    → (u : LockValue) × (v : LockValue) × (guarded ≡ u ∷ v ∷ []) × (slice_get values l ≡ Some u) × (slice_get values k ≡ Some v)
two_at values l k [] is = absurd is
two_at values l k (u ∷ []) is = absurd is.1
two_at values l k (u ∷ v ∷ []) is = (u, v, refl, is.0, is.1.0)
two_at values l k (u ∷ v ∷ w ∷ us) is = absurd is.1.1

-- there are as many as locks
pub as_many : (values : List LockValue) (ls : List ℕ) (guarded : List LockValue) → AreAt values ls guarded → length guarded ≡ length ls
as_many values [] [] is = refl
as_many values [] (u ∷ us) is = absurd is
as_many values (l ∷ ls) [] is = absurd is
as_many values (l ∷ ls) (u ∷ us) is = let z = as_many values ls us is.1 in omega arith

-- where a thread stands among them is where the world has it
pub are_placed : (v : WorldValue) (x : World) (t : ℕ) → Shows v x → (ls : List ℕ) (guarded : List LockValue) → AreAt v.values ls guarded
    → map (λ u. has_under u t) guarded ≡ map (λ l. is_some (thread_under l t x.members)) ls
are_placed v x t shows [] [] is = refl
are_placed v x t shows [] (u ∷ us) is = absurd is
are_placed v x t shows (l ∷ ls) [] is = absurd is
are_placed v x t shows (l ∷ ls) (u ∷ us) is =
    let here = has_stands x l t u shows.made shows.cpus (at_some _ (slice_get v.values l) u (shows.under l) is.0) in
    let rest = are_placed v x t shows ls us is.1 in (λ i. here i ∷ rest i)

-- ---- the hand

module _ (v : WorldValue) (x : World) (worker : ℕ) (hand : Option ThreadRecord) (shows : Shows v x) (here : IsHandOf x worker hand) where
  mapped : (o : Option Member) → is_some (option_map (λ (m : Member). m.thread) o) ≡ is_some o
  mapped None = refl
  mapped (Some m) = refl

  -- the hand has a thread where the world has it there
  pub hand_some : (t : ℕ) → is_some (if_thread t hand) ≡ is_some (thread_in_hand worker t x.members)
  hand_some t = ap (λ (o : Option ThreadRecord). is_some o) (here t) ∙ mapped (thread_in_hand worker t x.members)

  -- an empty hand is empty in the world
  empty_in_world : hand ≡ None → HasEmptyHand x worker
  empty_in_world none t held = true≢false (sym (held_in_hand worker t x.members held) ∙ (sym (hand_some t) ∙ ap (λ (h : Option ThreadRecord). is_some (if_thread t h)) none))

  -- the hand that an event needs is as it needs it in the world
  pub handled : (s : Setup) (mine : List (Entry Event Reply)) (k : Handling) → HandFits s worker mine hand k
      → ((t : ℕ) → k ≡ unborn t → is_unborn_thread (thread_of t x.members) ≡ true) → IsHandled x worker k
  handled s mine any fits still = tt
  handled s mine empty fits still = empty_in_world fits
  handled s mine (unborn t) fits still = (empty_in_world fits.0, still t refl)
  handled s mine (has t) fits still = found_held worker t x.members shows.made (sym (hand_some t) ∙ fits)

-- ---- one act

-- is acted: what an act under these locks is, as a step of the whole scheduler
pub record IsActed (v : WorldValue) (x : World) (worker : ℕ) (e : Event) (now : ℕ) (held : HeldLocks) (made : Acted (Option ThreadRecord) LockValue Reply) : Type 0 where
  pub shows : Shows (record { settings = v.settings; values = laid_under held v.values made.values; hands = slice_set v.hands worker made.hand }) (step x worker e now).0
  pub reply : made.reply ≡ (step x worker e now).1
  pub laid : AreAt (laid_under held v.values made.values) (lock_list held) made.values

module _ (v : WorldValue) (x : World) (worker : ℕ) (e : Event) (now : ℕ) (at : IsAtEvent v x worker e now) where
  abbrev own_hand : Option ThreadRecord
  own_hand = held_by v worker

  abbrev act : List LockValue → Acted (Option ThreadRecord) LockValue Reply
  act guarded = act_on v.settings worker e now own_hand guarded

  -- under one lock
  acted_one : HasLock v x e → (held : HeldLocks) (guarded : List LockValue) → locks_of x e ≡ lock_list held → AreAt v.values (lock_list held) guarded → IsActed v x worker e now held (act guarded)
  acted_one one held guarded numbers under =
      let same : held ≡ One one.lock = held_one held one.lock (sym numbers ∙ one.locks) in
      let u = one_at v.values one.lock guarded (subst (λ k. AreAt v.values (lock_list k) guarded) same under) in
      let made : Stepped = lock_step v.settings worker e now own_hand u.0 in
      let done : ShowsWithReply (step x worker e now).0 (step x worker e now).1 (put_back one.lock worker (Some made) v) =
      subst (ShowsWithReply (step x worker e now).0 (step x worker e now).1)
      (sym (made_is_step v worker e now one.lock made (record { lock = one.lock_is; value = u.0; found = u.2; made_is = refl }))) (step_shows v x worker e now at) in
      subst (λ k. IsActed v x worker e now k (act guarded)) (sym same) (subst (λ g. IsActed v x worker e now (One one.lock) (act g)) (sym u.1) (record {
        shows = done.0;
        reply = done.1;
        laid = (get_here v.values one.lock made.value (subst (λ i. one.lock < i) (sym at.shows.locks) one.within), tt);
      }))

  -- under two locks, of which this one is named first
  module _ (a b : ℕ) (is : locking e ≡ queues a b) where
    there : (a < length x.lines) × (b < length x.lines) × (a ≢ b)
    there = are_apart (length x.lines) a b (subst (λ k. IsTrue (are_cpus (length x.lines) k)) is at.possible.cpus)

    within : (c : ℕ) → c < length x.lines → c < length v.values
    within c low = let few = at.shows.cpus in let many = at.shows.locks in omega arith

    module _ (p q : LockValue) (found_p : slice_get v.values a ≡ Some p) (found_q : slice_get v.values b ≡ Some q) where
      abbrev made_both : PairStepped
      made_both = pair_step worker e now own_hand p q

      done_both : ShowsWithReply (step x worker e now).0 (step x worker e now).1 (put_back_pair a b worker (Some made_both) v)
      done_both = subst (ShowsWithReply (step x worker e now).0 (step x worker e now).1)
          (sym (pair_made_is_step v worker e now a b made_both (record { locks = is; from = p; to = q; found_from = found_p; found_to = found_q; made_is = refl }))) (step_shows v x worker e now at)

      -- the lower first
      rising : IsActed v x worker e now (Two a b) (acted_under_two true made_both)
      rising = record {
        shows = done_both.0;
        reply = done_both.1;
        laid = (
          get_else (slice_set v.values a made_both.from) b a made_both.to there.2 ∙ get_here v.values a made_both.from (within a there.0),
          (get_here (slice_set v.values a made_both.from) b made_both.to (subst (λ n. b < n) (sym (length-set v.values a made_both.from)) (within b there.1)), tt),
        );
      }

      -- the greater first
      falling : IsActed v x worker e now (Two b a) (acted_under_two false made_both)
      falling = record {
        shows = subst (λ (values : List LockValue). Shows (record { settings = v.settings; values = values; hands = slice_set v.hands worker made_both.hand }) (step x worker e now).0)
            (set_comm v.values a b made_both.from made_both.to there.2) done_both.0;
        reply = done_both.1;
        laid = (
          get_else (slice_set v.values b made_both.to) a b made_both.from (λ same. there.2 (sym same)) ∙ get_here v.values b made_both.to (within b there.1),
          (get_here (slice_set v.values b made_both.to) a made_both.from (subst (λ n. a < n) (sym (length-set v.values b made_both.to)) (within a there.0)), tt),
        );
      }

    acted_two : (held : HeldLocks) (guarded : List LockValue) → locks_of x e ≡ lock_list held → AreAt v.values (lock_list held) guarded → IsActed v x worker e now held (act guarded)
    acted_two held guarded numbers under =
        let two : held ≡ Two (min a b) (max a b) = held_two held (min a b) (max a b) (sym numbers ∙ ap (lock_numbers x.members) is) in
        let u = two_at v.values (min a b) (max a b) guarded (subst (λ k. AreAt v.values (lock_list k) guarded) two under) in
        subst (λ k. IsActed v x worker e now k (act guarded)) (sym two) (subst (λ g. IsActed v x worker e now (Two (min a b) (max a b)) (act g)) (sym u.2)
        (⊎_elim (λ (low : a < b). up u.0 u.1 u.3 u.4 low) (λ (high : b ≤ a). down u.0 u.1 u.3 u.4 high) (cases_lt a b)))
      where
        up : (p q : LockValue) → slice_get v.values (min a b) ≡ Some p → slice_get v.values (max a b) ≡ Some q → a < b → IsActed v x worker e now (Two (min a b) (max a b)) (act (p ∷ q ∷ []))
        up p q found_p found_q low =
            let less : min a b ≡ a = omega arith in let more : max a b ≡ b = omega arith in
            let order : names_lower_first (locking e) ≡ true = ap names_lower_first is ∙ lt-ltb a b low in
            subst (λ f. IsActed v x worker e now (Two (min a b) (max a b)) f) (sym (ap (λ o. act_under_two o worker e now own_hand p q) order))
            (subst (λ k. IsActed v x worker e now k (acted_under_two true (pair_step worker e now own_hand p q))) (λ i. Two (sym less i) (sym more i))
            (rising p q (ap (slice_get v.values) (sym less) ∙ found_p) (ap (slice_get v.values) (sym more) ∙ found_q)))

        down : (p q : LockValue) → slice_get v.values (min a b) ≡ Some p → slice_get v.values (max a b) ≡ Some q → b ≤ a → IsActed v x worker e now (Two (min a b) (max a b)) (act (p ∷ q ∷ []))
        down p q found_p found_q high =
            let less : min a b ≡ b = omega arith in let more : max a b ≡ a = omega arith in
            let order : names_lower_first (locking e) ≡ false = ap names_lower_first is ∙ le-ltb a b high in
            subst (λ f. IsActed v x worker e now (Two (min a b) (max a b)) f) (sym (ap (λ o. act_under_two o worker e now own_hand p q) order))
            (subst (λ k. IsActed v x worker e now k (acted_under_two false (pair_step worker e now own_hand q p))) (λ i. Two (sym less i) (sym more i))
            (falling q p (ap (slice_get v.values) (sym more) ∙ found_q) (ap (slice_get v.values) (sym less) ∙ found_p)))

  -- under the locks of the event
  acted_at : (held : HeldLocks) (guarded : List LockValue) → locks_of x e ≡ lock_list held → AreAt v.values (lock_list held) guarded → IsActed v x worker e now held (act guarded)
  acted_at held guarded numbers under = ⊎_elim
      (λ (pair : IsPair e). acted_two pair.from pair.to pair.locks held guarded numbers under)
      (λ (one : HasLock v x e). acted_one one held guarded numbers under)
      (event_lock v x worker e now at)

pub acted_shows : (s : Setup) (v : WorldValue) (x : World) (worker : ℕ) (e : Event) (now : ℕ) (held : HeldLocks) (guarded : List LockValue) (hand : Option ThreadRecord) → Shows v x
    → IsPossible x worker e now → locks_of x e ≡ lock_list held → AreAt v.values (lock_list held) guarded → held_by v worker ≡ hand → v.settings ≡ s.settings
    → IsActed v x worker e now held (act_on s.settings worker e now hand guarded)
acted_shows s v x worker e now held guarded hand shows can numbers under is settings =
    subst (λ h. IsActed v x worker e now held (act_on s.settings worker e now h guarded)) is
    (subst (λ (g : Settings). IsActed v x worker e now held (act_on g worker e now (held_by v worker) guarded)) settings
    (acted_at v x worker e now (record { shows = shows; possible = can }) held guarded numbers under))
