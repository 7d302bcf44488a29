-- Under the one lock of an event stands a value of its kind, which has the thread that the event seeks.
use Rattle.std.proofs.Common.{◌≡◌, ◌≢◌, ℕ, ◌+◌, ◌%◌, ◌<◌, ◌≤◌, ◌==◌, true, false, List, [], ◌∷◌, Option, Some, None, if◌then◌else◌, refl, sym, ◌∙◌, ap, subst, arith, mod-lt}
use Rattle.std.specs.Option.{option_map}
use Rattle.std.specs.Prelude.{max, min}
use Rattle.std.proofs.lemmas.Bool.{eq-eqb, ltb-true, or_left, or_right}
use Rattle.std.proofs.lemmas.Option.{none-some, same_Some}
use Rattle.ule_prio.specs.declared.kind.Kind.{Kind}
use Rattle.ule_score.specs.declared.place.Place.{Place}
use Rattle.ule_score.specs.declared.place.Place.TheVariants.{Running, Queued, Asleep, Unborn, Gone, Hand}
use Rattle.ule_score.specs.declared.record.ThreadRecord.{ThreadRecord}
use Rattle.ule_sleep.specs.Chain.{ChainValue, standing_in}
use Rattle.ule_sleep.specs.Limbo.{LimboValue}
use Rattle.ule_model.specs.CpuChange.{kind_queued}
use Rattle.ule_model.specs.CpuValue.{CpuValue, StandsFor, current_in, thread_in}
use Rattle.ule_model.specs.Events.{Locking, are_cpus, lock_numbers, lock_of_thread, locking, place_of, queues, sought_in}
use Rattle.ule_model.specs.Events as events
use Rattle.ule_model.specs.LockConditions.{HasPlaced, HasSleeper, HasStill, IsOnCpu, IsPlacedOn, MayTakeChain, MayTakeLimbo, MayTakeQueue, queue_kind}
use Rattle.ule_model.specs.LockValue.{chain, limbo}
use Rattle.ule_model.specs.Places.{is_on, runs_on}
use Rattle.ule_model.specs.WellMade.{IsWellMade}
use Rattle.ule_model.specs.World.{Member, Side, World, current_of, side_of, standing_of, thread_of}
use Rattle.ule_model.specs.WorldValue.{IsAsleepOn, IsChainOf, IsLimboOf, IsQueueOf, Shows, WorldValue}
use Rattle.ule_members.proofs.ActionFits.{IsUnder}
use Rattle.ule_members.proofs.Membership.{has_thread_of, has_within}
use Rattle.ule_members.proofs.Threads.{current_runs, thread_of_within, thread_on_within, within_current}
use Rattle.ule_members.proofs.Within.{Within, within_thread}
use Rattle.ule_laws.proofs.CpuPlaces.{kind_running, kind_waiting}
use Rattle.ule_laws.proofs.CpuNumbers.{current_in_is}
use Rattle.ule_laws.proofs.EventStands.{on_from_lock, same_lock, under_named}
use Rattle.ule_laws.proofs.PlaceLaws.{place_from_runs_on}
use Rattle.ule_laws.proofs.SlotStands.{IsStill}
use Rattle.ule_laws.proofs.SeekLaws.{cpu_finds}
use Rattle.ule_laws.proofs.WorldLaws.{at_some}

-- ---- kinds

-- an event whose one lock is that of a CPU may take such a lock
pub takes_queue : (ms : List Member) (l : ℕ) (k : Locking) → l < 16 → lock_numbers ms k ≡ l ∷ [] → MayTakeQueue k
takes_queue ms l (events.queue c) few locks = tt
takes_queue ms l (queues a b) few locks = tt
takes_queue ms l (events.chain channel) few locks = absurd (let e = same_lock (16 + channel % 8) l locks in omega arith)
takes_queue ms l events.limbo few locks = absurd (let e = same_lock 24 l locks in omega arith)
takes_queue ms l (place_of t) few locks = tt

-- two locks are not one
two_locks : (a b l : ℕ) → a ∷ b ∷ [] ≡ l ∷ [] → ⊥
two_locks a b l is = cc

-- and one whose one lock is that of a chain
pub takes_chain : (ms : List Member) (l count : ℕ) (k : Locking) → 16 ≤ l → l < 24 → count ≤ 16 → are_cpus count k ≡ true → lock_numbers ms k ≡ l ∷ [] → MayTakeChain k
takes_chain ms l count (events.queue c) far near few cpus locks = absurd (let e = same_lock c l locks in let below = ltb-true c count cpus in omega arith)
takes_chain ms l count (queues a b) far near few cpus locks = absurd (two_locks (min a b) (max a b) l locks)
takes_chain ms l count (events.chain channel) far near few cpus locks = tt
takes_chain ms l count events.limbo far near few cpus locks = absurd (let e = same_lock 24 l locks in omega arith)
takes_chain ms l count (place_of t) far near few cpus locks = tt

-- and one whose one lock is limbo's
pub takes_limbo : (ms : List Member) (l count : ℕ) (k : Locking) → l ≡ 24 → count ≤ 16 → are_cpus count k ≡ true → lock_numbers ms k ≡ l ∷ [] → MayTakeLimbo k
takes_limbo ms l count (events.queue c) own few cpus locks = absurd (let e = same_lock c l locks in let below = ltb-true c count cpus in omega arith)
takes_limbo ms l count (queues a b) own few cpus locks = absurd (two_locks (min a b) (max a b) l locks)
takes_limbo ms l count (events.chain channel) own few cpus locks = absurd (let e = same_lock (16 + channel % 8) l locks in let small : channel % 8 < 8 = mod-lt channel (omega arith) in omega arith)
takes_limbo ms l count events.limbo own few cpus locks = tt
takes_limbo ms l count (place_of t) own few cpus locks = tt

-- an event that seeks a thread takes the lock of its place
pub sought_locks : (ms : List Member) (k : Locking) (t : ℕ) → sought_in k ≡ Some t → lock_numbers ms k ≡ lock_of_thread ms t
sought_locks ms (place_of u) t is = ap (lock_of_thread ms) (same_Some u t is)
sought_locks ms (events.queue c) t is = absurd (none-some t is)
sought_locks ms (queues a b) t is = absurd (none-some t is)
sought_locks ms (events.chain channel) t is = absurd (none-some t is)
sought_locks ms events.limbo t is = absurd (none-some t is)

-- ---- on a CPU

-- the record of the current thread has its number
pub current_numbered : (u : CpuValue) (s : Side) → StandsFor u s → IsWellMade s.members → u.current ≡ option_map (λ r. r.id) (current_in u)
current_numbered u s stands made = stands.current ∙ numbers (current_of u.cpu s.members) ∙ ap (option_map (λ (r : ThreadRecord). r.id)) (sym (current_in_is u s stands made))
  where
    numbers : (o : Option Member) → option_map (λ m. m.thread.id) o ≡ option_map (λ r. r.id) (option_map (λ m. m.thread) o)
    numbers None = refl
    numbers (Some m) = refl

-- a place on a CPU is tested so
on_cpu_test : (c : ℕ) (p : Place) → IsOnCpu c p → is_on c p ≡ true
on_cpu_test c (Running d) on = or_left (c == d) false (eq-eqb c d (sym on))
on_cpu_test c (Queued d k b) on = or_right false (c == d) (eq-eqb c d (sym on))
on_cpu_test c (Asleep channel) on = absurd on
on_cpu_test c Unborn on = absurd on
on_cpu_test c Gone on = absurd on
on_cpu_test c (Hand w) on = absurd on

-- a thread of a CPU's side
module _ (u : CpuValue) (s : Side) (stands : StandsFor u s) (made : IsWellMade s.members) (m : Member) (v : Within m.thread.id m s.members) where
  -- the queue that has it is that of its place
  kind_is : (p : Place) → m.place ≡ p → IsOnCpu u.cpu p → kind_queued u m.thread.id ≡ queue_kind p
  kind_is (Running d) is on = kind_running u s m stands made (has_within m.thread.id m s.members v) (ap (runs_on u.cpu) is ∙ eq-eqb u.cpu d (sym on))
  kind_is (Queued d k b) is on = kind_waiting u s m k b stands made (has_within m.thread.id m s.members v) (is ∙ ap (λ (x : ℕ). Queued x k b) on)
  kind_is (Asleep channel) is on = absurd on
  kind_is Unborn is on = absurd on
  kind_is Gone is on = absurd on
  kind_is (Hand w) is on = absurd on

  -- where it is queued another thread runs
  runs_apart : (k : Kind) → queue_kind m.place ≡ Some k → u.current ≢ Some m.thread.id
  runs_apart k queued runs = at_current (current_of u.cpu s.members) refl (sym runs ∙ stands.current)
    where
      at_current : (o : Option Member) → current_of u.cpu s.members ≡ o → Some m.thread.id ≡ option_map (λ n. n.thread.id) o → ⊥
      at_current None found is = none-some m.thread.id (sym is)
      at_current (Some n) found is =
          let same : m ≡ n = same_Some m n
          (sym (thread_of_within m.thread.id m s.members v) ∙ ap (λ (t : ℕ). thread_of t s.members) (same_Some m.thread.id n.thread.id is) ∙ thread_of_within n.thread.id n s.members (within_current u.cpu s.members n made found)) in
          none-some k (sym (ap queue_kind (place_from_runs_on u.cpu m.place (ap (λ (x : Member). runs_on u.cpu x.place) same ∙ current_runs u.cpu s.members n found))) ∙ queued)

  -- the value has its record
  pub thread_recorded : is_on u.cpu m.place ≡ true → thread_in u m.thread.id ≡ Some m.thread
  thread_recorded on =
      stands.threads m.thread.id ∙ ap (option_map (λ (n : Member). n.thread)) (thread_on_within u.cpu m.thread.id m s.members v ∙ ap (λ d. if d then Some m else None) on)

  -- it is placed on the value as on the side
  pub placed_on_cpu : IsOnCpu u.cpu m.place → IsPlacedOn u m.thread.id m.thread m.place
  placed_on_cpu on = record {
    on = on;
    found = cpu_finds u s m.thread.id stands made ∙ ap (option_map standing_of) (thread_on_within u.cpu m.thread.id m s.members v ∙ ap (λ d. if d then Some m else None) (on_cpu_test u.cpu m.place on));
    record_is = thread_recorded (on_cpu_test u.cpu m.place on);
    number = refl;
    small = subst (λ (i : ℕ). m.thread.id < i) (sym stands.slots) v.made.numbers.id;
    kind = kind_is m.place refl on;
    apart = λ k queued. runs_apart k queued;
  }

module _ (v : WorldValue) (w : World) (worker now : ℕ) (shows : Shows v w) (t l : ℕ) (is : IsUnder w t l) where
  -- the thread that is sought
  abbrev m : Member
  m = is.member

  -- has that number
  own_number : m.thread.id ≡ t
  own_number = (has_thread_of t m w.members is.found).1

  -- and stands in the list
  own_within : Within m.thread.id m w.members
  own_within = subst (λ (i : ℕ). Within i m w.members) (sym own_number) (within_thread t w.members m shows.made is.found)

  -- the thread that is sought is on the CPU
  pub has_placed : (u : CpuValue) → IsQueueOf w l u → HasPlaced u t
  has_placed u at =
      (m.thread, m.place, subst (λ (i : ℕ). IsPlacedOn u i m.thread m.place) own_number (placed_on_cpu u (side_of l w) at.stands shows.made m own_within on))
    where
      on : IsOnCpu u.cpu m.place
      on = subst (λ (c : ℕ). IsOnCpu c m.place) (sym at.cpu) (on_from_lock l m.place (let below = at.there in let few = shows.cpus in omega arith) is.under)

  -- or sleeps on the chain
  pub has_sleeper : (c : ChainValue) → IsChainOf w l c → HasSleeper c t
  has_sleeper c at =
      let found : standing_in c.slots t ≡ Some (standing_of m) = under_named v w worker now shows t l (chain c) at is ∙ ap (option_map standing_of) is.found in
      let asleep = at_some (IsAsleepOn c.number) (standing_in c.slots t) (standing_of m) (at.asleep t) found in
      (standing_of m, asleep.channel, found, asleep.place)

  -- or is in limbo
  pub has_still : (c : LimboValue) → IsLimboOf w l c → HasStill c t
  has_still c at =
      let found : standing_in c.slots t ≡ Some (standing_of m) = under_named v w worker now shows t l (limbo c) at is ∙ ap (option_map standing_of) is.found in
      (standing_of m, found, at_some IsStill (standing_in c.slots t) (standing_of m) (at.still t) found)
