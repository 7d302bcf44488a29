-- What the step under one lock needs of the value there and of the worker's hand.
use Rattle.std.specs.Prelude.{◌≡◌, ◌≢◌, ℕ, ◌%◌, ◌<◌, ◌≤◌, ◌^◌, ◌⊎◌, length, Option, Some, None, IfSome}
use Rattle.std.specs.Option.{option_map}
use Rattle.ule_prio.specs.declared.kind.Kind.{Kind}
use Rattle.ule_score.specs.declared.place.Place.{Place}
use Rattle.ule_score.specs.declared.place.Place.TheVariants.{Running, Queued, Asleep, Unborn, Gone, Hand}
use Rattle.ule_threads.specs.declared.standing.Standing.{Standing}
use Rattle.ule_model.specs.CpuChange.{kind_queued}
use Rattle.ule_model.specs.Events.{Locking, locking, place_of, queues, sought_by}
use Rattle.ule_model.specs.Events as events
use Rattle.ule_score.specs.Changes.{IsBy}
use Rattle.ule_score.specs.declared.record.ThreadRecord.{ThreadRecord}
use Rattle.ule_sleep.specs.Chain.{ChainValue, standing_in}
use Rattle.ule_sleep.specs.Limbo.{HasUnborn, LimboValue}
use Rattle.ule_types.specs.declared.event.Event.{Event}
use Rattle.ule_types.specs.declared.event.Event.TheVariants.{Bed, Hatch, Land}
use Rattle.ule_model.specs.Conditions.{HasSoundNumbers}
use Rattle.ule_model.specs.CpuValue.{CpuValue, IsNoEarlier, current_in, thread_in}
use Rattle.ule_model.specs.LockValue.{LockValue, chain, found_on, limbo, nothing, queue}
use Rattle.ule_model.specs.Start.{starting_time}

-- a time at which events happen
pub record IsTime (now : ℕ) : Type 0 where
  pub begun : starting_time ≤ now
  pub bounded : now < 2 ^ 36

-- ---- the kinds of locks

-- the lock may be that of a CPU
abbrev pub MayTakeQueue : Locking → Type 0
MayTakeQueue (events.queue c) = Unit {0}
MayTakeQueue (queues a b) = Unit {0}
MayTakeQueue (events.chain channel) = ⊥
MayTakeQueue events.limbo = ⊥
MayTakeQueue (place_of t) = Unit {0}

-- it may be that of a sleep chain
abbrev pub MayTakeChain : Locking → Type 0
MayTakeChain (events.queue c) = ⊥
MayTakeChain (queues a b) = ⊥
MayTakeChain (events.chain channel) = Unit {0}
MayTakeChain events.limbo = ⊥
MayTakeChain (place_of t) = Unit {0}

-- it may be limbo's
abbrev pub MayTakeLimbo : Locking → Type 0
MayTakeLimbo (events.queue c) = ⊥
MayTakeLimbo (queues a b) = ⊥
MayTakeLimbo (events.chain channel) = ⊥
MayTakeLimbo events.limbo = Unit {0}
MayTakeLimbo (place_of t) = Unit {0}

-- ---- the thread that is sought

-- a place on CPU c
abbrev pub IsOnCpu : ℕ → Place → Type 0
IsOnCpu c (Running d) = d ≡ c
IsOnCpu c (Queued d k b) = d ≡ c
IsOnCpu c (Asleep channel) = ⊥
IsOnCpu c Unborn = ⊥
IsOnCpu c Gone = ⊥
IsOnCpu c (Hand w) = ⊥

-- the kind of the queue of a place, if it is in one
abbrev pub queue_kind : Place → Option Kind
queue_kind (Running c) = None
queue_kind (Queued c k b) = Some k
queue_kind (Asleep channel) = None
queue_kind Unborn = None
queue_kind Gone = None
queue_kind (Hand w) = None

-- thread t is on the CPU, with this record, at this place: in the queue of its kind, where another thread runs, or as the
-- current thread
pub record IsPlacedOn (v : CpuValue) (t : ℕ) (r : ThreadRecord) (p : Place) : Type 0 where
  pub on : IsOnCpu v.cpu p
  pub found : found_on v t ≡ Some (record { thread = r; place = p })
  pub record_is : thread_in v t ≡ Some r
  pub number : r.id ≡ t
  pub small : t < length v.threads
  pub kind : kind_queued v t ≡ queue_kind p
  pub apart : (k : Kind) → queue_kind p ≡ Some k → v.current ≢ Some t

-- thread t is on the CPU
abbrev pub HasPlaced : CpuValue → ℕ → Type 0
HasPlaced v t = (r : ThreadRecord) × (p : Place) × IsPlacedOn v t r p

-- thread t sleeps on the chain
abbrev pub HasSleeper : ChainValue → ℕ → Type 0
HasSleeper v t = (s : Standing) × (channel : ℕ) × (standing_in v.slots t ≡ Some s) × (s.place ≡ Asleep channel)

-- thread t is in limbo, unborn or gone
abbrev pub HasStill : LimboValue → ℕ → Type 0
HasStill v t = (s : Standing) × (standing_in v.slots t ≡ Some s) × ((s.place ≡ Unborn) ⊎ (s.place ≡ Gone))

-- ---- what a step needs

-- on a CPU: the event may take its lock, its current thread's record has that thread's number, a landing names the CPU, the
-- thread in the hand isn't on it, and the one that is sought is
pub record CanStepQueue (v : CpuValue) (hand : Option ThreadRecord) (e : Event) (now : ℕ) : Type 0 where
  pub time : IsTime now
  pub in_time : IsNoEarlier v now
  pub absent : IfSome hand (λ r. thread_in v r.id ≡ None)
  pub numbers : HasSoundNumbers e
  pub cpu : (t c : ℕ) → e ≡ Land t c → v.cpu ≡ c
  pub lock : MayTakeQueue (locking e)
  pub runs : v.current ≡ option_map (λ r. r.id) (current_in v)
  pub sought : IfSome (sought_by e) (HasPlaced v)

-- on a chain: the event may take its lock, a bed names one of its channels, the thread in the hand doesn't sleep on it, and
-- the one that is sought does
pub record CanStepChain (v : ChainValue) (hand : Option ThreadRecord) (e : Event) (now : ℕ) : Type 0 where
  pub time : IsTime now
  pub in_time : (t : ℕ) → IfSome (standing_in v.slots t) (λ s. IsBy now s.thread)
  pub absent : IfSome hand (λ r. standing_in v.slots r.id ≡ None)
  pub numbers : HasSoundNumbers e
  pub channel : (t channel : ℕ) → e ≡ Bed t channel → channel % 8 ≡ v.number
  pub lock : MayTakeChain (locking e)
  pub sought : IfSome (sought_by e) (HasSleeper v)

-- on limbo: the event may take its lock, a hatch names an unborn thread, the thread in the hand isn't there, and the one that
-- is sought is
pub record CanStepLimbo (v : LimboValue) (hand : Option ThreadRecord) (e : Event) : Type 0 where
  pub absent : IfSome hand (λ r. standing_in v.slots r.id ≡ None)
  pub numbers : HasSoundNumbers e
  pub unborn : (t : ℕ) → e ≡ Hatch t → HasUnborn v t
  pub lock : MayTakeLimbo (locking e)
  pub sought : IfSome (sought_by e) (HasStill v)

-- on two CPUs: the hand is empty, and no thread is on both
pub record CanStepQueues (v u : CpuValue) (hand : Option ThreadRecord) : Type 0 where
  pub empty : hand ≡ None
  pub apart : (t : ℕ) → IfSome (thread_in v t) (λ r. thread_in u t ≡ None)

-- what the step under two locks needs
abbrev pub CanStepPair : LockValue → LockValue → Option ThreadRecord → Type 0
CanStepPair (queue v) (queue u) hand = CanStepQueues v u hand
CanStepPair from to hand = Unit {0}

-- what the step under one lock needs
abbrev pub CanStepAt : LockValue → Option ThreadRecord → Event → ℕ → Type 0
CanStepAt (queue v) hand e now = CanStepQueue v hand e now
CanStepAt (chain v) hand e now = CanStepChain v hand e now
CanStepAt (limbo v) hand e now = CanStepLimbo v hand e
CanStepAt nothing hand e now = Unit {0}
