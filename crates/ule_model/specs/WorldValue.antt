-- The whole scheduler as a value: what each lock guards, by its number, and what each worker has in hand.
-- Shows says of which world it is the value.
use Rattle.std.specs.Prelude.{◌≡◌, ℕ, suc, ◌+◌, ◌%◌, ◌<◌, ◌≤◌, ◌==◌, List, [], ◌∷◌, length, position, slice_get, slice_index_or, slice_set, Option, Some, None, IfSome, ◌⊎◌, option_and_then, if◌then◌else◌}
use Rattle.std.specs.List.{filter_map, range_with_len}
use Rattle.std.specs.Option.{option_map}
use Rattle.ule_score.specs.declared.place.Place.TheVariants.{Asleep, Unborn, Gone, Hand}
use Rattle.ule_score.specs.declared.record.Settings.{Settings}
use Rattle.ule_score.specs.declared.record.ThreadRecord.{ThreadRecord}
use Rattle.ule_sleep.specs.Chain.{ChainValue, standing_in}
use Rattle.ule_sleep.specs.Limbo.{LimboValue}
use Rattle.ule_threads.specs.declared.standing.Standing.{Standing}
use Rattle.ule_types.specs.declared.event.Event.{Event}
use Rattle.ule_types.specs.declared.event.Reply.{Reply}
use Rattle.ule_types.specs.declared.event.Reply.TheVariants.{Nothing}
use Rattle.ule_types.specs.declared.outcome.ThreadLine.{ThreadLine}
use Rattle.ule_model.specs.Conditions.{IsPossible}
use Rattle.ule_model.specs.CpuValue.{CpuValue, StandsFor, first_found}
use Rattle.ule_model.specs.Events.{Locking, locking, place_of, queues}
use Rattle.ule_model.specs.Events as events
use Rattle.ule_model.specs.Finals.{line_of}
use Rattle.ule_model.specs.Frames.{thread_in_hand, thread_under}
use Rattle.ule_model.specs.LockValue.{LockValue, chain, has_under, limbo, line_under, nothing, queue}
use Rattle.ule_model.specs.Step.{PairStepped, Stepped, lock_step, pair_step}
use Rattle.ule_model.specs.Step.{step}
use Rattle.ule_model.specs.WellMade.{HaveIndexes, IsWellMade}
use Rattle.ule_model.specs.World.{World, side_of}
pub use Rattle.ule_model.specs.World.{standing_of}

-- lock l's value at place l, worker w's hand at place w
pub record WorldValue : Type 0 where
  pub settings : Settings
  pub values : List LockValue
  pub hands : List (Option ThreadRecord)

-- what worker w has in hand
abbrev pub held_by : WorldValue → ℕ → Option ThreadRecord
held_by v w = slice_index_or v.hands w None

-- this, if it is thread t
abbrev pub if_thread : ℕ → Option ThreadRecord → Option ThreadRecord
if_thread t None = None
if_thread t (Some r) = if r.id == t then Some r else None

-- ---- where a thread is

-- the first lock that has thread t under it
abbrev pub lock_with : ℕ → List LockValue → Option ℕ
lock_with t values = position (λ value. has_under value t) values

-- the lock of an event's value, where the event is under one
abbrev pub lock_for : List LockValue → Locking → Option ℕ
lock_for values (events.queue c) = Some c
lock_for values (queues a b) = None
lock_for values (events.chain channel) = Some (16 + channel % 8)
lock_for values events.limbo = Some 24
lock_for values (place_of t) = lock_with t values

-- the worker that has thread t in hand, the first of these hands being that of worker w
abbrev pub holder_at : ℕ → ℕ → ThreadRecord → Option ℕ
holder_at w t r = if r.id == t then Some w else None

abbrev pub holder_among : ℕ → List (Option ThreadRecord) → ℕ → Option ℕ
holder_among w [] t = None
holder_among w (h ∷ hs) t = first_found (option_and_then (holder_at w t) h) (holder_among (suc w) hs t)

-- the worker that has thread t in hand
abbrev pub holder_in : WorldValue → ℕ → Option ℕ
holder_in v t = holder_among 0 v.hands t

-- ---- the step

-- the scheduler with what an event made of lock l's value and of the worker's hand
abbrev pub put_back : ℕ → ℕ → Option Stepped → WorldValue → WorldValue × Reply
put_back l worker None v = (v, Nothing)
put_back l worker (Some made) v =
    (record v { values = slice_set v.values l made.value; hands = slice_set v.hands worker made.hand }, made.reply)

-- the step of the scheduler, where the lock of the event's value is this one
abbrev pub value_step_at : Option ℕ → ℕ → Event → ℕ → WorldValue → WorldValue × Reply
value_step_at None worker e now v = (v, Nothing)
value_step_at (Some l) worker e now v =
    put_back l worker (option_map (lock_step v.settings worker e now (held_by v worker)) (slice_get v.values l)) v

-- the scheduler with what an event made of the values of locks a and b and of the worker's hand
abbrev pub put_back_pair : ℕ → ℕ → ℕ → Option PairStepped → WorldValue → WorldValue × Reply
put_back_pair a b worker None v = (v, Nothing)
put_back_pair a b worker (Some made) v =
    (record v { values = slice_set (slice_set v.values a made.from) b made.to; hands = slice_set v.hands worker made.hand }, made.reply)

-- the step of the scheduler under locks a and b
abbrev pub value_pair_step : ℕ → ℕ → ℕ → Event → ℕ → WorldValue → WorldValue × Reply
value_pair_step a b worker e now v =
    put_back_pair a b worker
    (option_and_then (λ from. option_map (pair_step worker e now (held_by v worker) from) (slice_get v.values b)) (slice_get v.values a)) v

-- the step of the scheduler for an event with these locks
abbrev pub value_step_with : Locking → ℕ → Event → ℕ → WorldValue → WorldValue × Reply
value_step_with (queues a b) worker e now v = value_pair_step a b worker e now v
value_step_with locks worker e now v = value_step_at (lock_for v.values locks) worker e now v

abbrev pub value_step : WorldValue → ℕ → Event → ℕ → WorldValue × Reply
value_step v worker e now = value_step_with (locking e) worker e now v

-- ---- final lines

-- the line of thread t under the first of these locks that has it
abbrev pub line_among : List LockValue → ℕ → Option ThreadLine
line_among [] t = None
line_among (value ∷ values) t = first_found (line_under value t) (line_among values t)

-- the line of a thread in worker w's hand, if it is thread t
abbrev pub held_line : ℕ → ℕ → ThreadRecord → Option ThreadLine
held_line w t r = if r.id == t then Some (line_of r (Hand w) 0) else None

-- the line of thread t, if it is in one of these hands, the first being that of worker w
abbrev pub line_in_hands : ℕ → List (Option ThreadRecord) → ℕ → Option ThreadLine
line_in_hands w [] t = None
line_in_hands w (h ∷ hs) t = first_found (option_and_then (held_line w t) h) (line_in_hands (suc w) hs t)

-- the line of thread t
abbrev pub line_at : WorldValue → ℕ → Option ThreadLine
line_at v t = first_found (line_among v.values t) (line_in_hands 0 v.hands t)

-- the lines of all threads, in rising number
abbrev pub value_lines : WorldValue → List ThreadLine
value_lines v = filter_map (line_at v) (range_with_len 0 256)

-- ---- the world that a value shows

-- the value of CPU l
pub record IsQueueOf (w : World) (l : ℕ) (v : CpuValue) : Type 0 where
  pub cpu : v.cpu ≡ l
  pub there : l < length w.lines
  pub stands : StandsFor v (side_of l w)

-- these threads are those of the world under lock l
abbrev pub AreUnder : World → ℕ → List (Option Standing) → Type 0
AreUnder w l slots = (t : ℕ) → standing_in slots t ≡ option_map standing_of (thread_under l t w.members)

-- a thread that sleeps on a channel of the chain of this number
pub record IsAsleepOn (number : ℕ) (s : Standing) : Type 0 where
  pub channel : ℕ
  pub place : s.place ≡ Asleep channel
  pub chain : channel % 8 ≡ number

-- the value of the chain of lock l
pub record IsChainOf (w : World) (l : ℕ) (v : ChainValue) : Type 0 where
  pub number : 16 + v.number ≡ l
  pub small : v.number < 8
  pub slots : length v.slots ≡ 256
  pub under : AreUnder w l v.slots
  pub asleep : (t : ℕ) → IfSome (standing_in v.slots t) (IsAsleepOn v.number)

-- the value of limbo
pub record IsLimboOf (w : World) (l : ℕ) (v : LimboValue) : Type 0 where
  pub number : l ≡ 24
  pub slots : length v.slots ≡ 256
  pub under : AreUnder w l v.slots
  pub still : (t : ℕ) → IfSome (standing_in v.slots t) (λ s. (s.place ≡ Unborn) ⊎ (s.place ≡ Gone))

-- no thread of a world is under lock l
abbrev pub HasNoneUnder : World → ℕ → Type 0
HasNoneUnder w l = (t : ℕ) → thread_under l t w.members ≡ None

-- lock l is that of a CPU that there isn't
pub record IsNothingOf (w : World) (l : ℕ) : Type 0 where
  pub past : length w.lines ≤ l
  pub queue : l < 16
  pub none : HasNoneUnder w l

-- a value stands for the threads of a world under lock l, and for a CPU's numbers there
abbrev pub StandsUnder : World → ℕ → LockValue → Type 0
StandsUnder w l (queue v) = IsQueueOf w l v
StandsUnder w l (chain v) = IsChainOf w l v
StandsUnder w l (limbo v) = IsLimboOf w l v
StandsUnder w l nothing = IsNothingOf w l

-- a hand has the threads of a world that are in worker h's
abbrev pub IsHandOf : World → ℕ → Option ThreadRecord → Type 0
IsHandOf w h held = (t : ℕ) → if_thread t held ≡ option_map (λ m. m.thread) (thread_in_hand h t w.members)

-- the scheduler is the value of a world: every lock's value stands under it, and every hand has what the
-- world has in it
pub record Shows (v : WorldValue) (w : World) : Type 0 where
  pub settings : v.settings ≡ w.settings
  pub made : IsWellMade w.members
  pub indexes : HaveIndexes w.lines
  pub locks : length v.values ≡ 25
  pub cpus : length w.lines ≤ 16
  pub workers : length v.hands ≡ length w.lines
  pub under : (l : ℕ) → IfSome (slice_get v.values l) (StandsUnder w l)
  pub past : (l : ℕ) → 25 ≤ l → HasNoneUnder w l
  pub hands : (h : ℕ) → IsHandOf w h (held_by v h)

-- a scheduler shows some world
abbrev pub IsShown : WorldValue → Type 0
IsShown v = (w : World) × Shows v w

-- a worker can perform an event, in a world that the scheduler shows
abbrev pub CanStep : WorldValue → ℕ → Event → ℕ → Type 0
CanStep v worker e now = (w : World) × Shows v w × IsPossible w worker e now

-- the step from one scheduler to the next is that of each world that the first is the value of and in which the
-- worker can perform the event
abbrev pub Steps : WorldValue → ℕ → Event → ℕ → WorldValue → Reply → Type 0
Steps old worker e now new reply =
    (w : World) → Shows old w → IsPossible w worker e now → Shows new (step w worker e now).0 × (reply ≡ (step w worker e now).1)
