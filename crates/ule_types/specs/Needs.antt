-- What an event needs by itself: the locks that it takes, the CPUs and the thread that it names, the numbers that it
-- brings, and the worker's hand. Two tables, of which all else is read.
use Rattle.std.specs.Prelude.{◌≡◌, ℕ, ◌<◌, ◌^◌, Bool, true, not, nat_lt, ◌==◌, ◌&&◌, List, [], ◌∷◌, Option, Some, None}
use Rattle.ule_score.specs.TimesharePriority.{IsNice}
use Rattle.ule_types.specs.declared.event.Event.{Event}
use Rattle.ule_types.specs.declared.event.Event.TheVariants.{Tick, Switch, Drop, Bed, Wake, Look, Land, Move, Lend, Unlend, Renice, Hatch, Fork, Return, Exit, Bury, Inherit}

-- ---- the two tables

-- the locks that an event takes
pub data Locking : Type 0 where
  -- the queue of this CPU
  queue : ℕ → Locking
  -- the queues of these two CPUs
  queues : ℕ → ℕ → Locking
  -- the sleep chain of this channel
  chain : ℕ → Locking
  -- the lock of unborn and gone threads
  limbo : Locking
  -- the lock of this thread's place: the event seeks the thread
  place_of : ℕ → Locking

abbrev pub locking : Event → Locking
locking (Tick c) = queue c
locking (Switch c why) = queue c
locking (Drop c channel) = queue c
locking (Bed t channel) = chain channel
locking (Wake t) = place_of t
locking (Look c) = queue c
locking (Land t c) = queue c
locking (Move a b why) = queues a b
locking (Lend t p) = place_of t
locking (Unlend t) = place_of t
locking (Renice t n) = place_of t
locking (Hatch t) = limbo
locking (Fork c t) = queue c
locking (Return t) = limbo
locking (Exit c) = queue c
locking (Bury t) = limbo
locking (Inherit t run) = place_of t

-- what an event needs of the worker's hand
pub data Handling : Type 0 where
  -- nothing
  any : Handling
  -- that it is empty: the event fills it, or seeks a thread
  empty : Handling
  -- that it is empty and this thread unborn: the event fills it with the thread
  unborn : ℕ → Handling
  -- that this thread is in it
  has : ℕ → Handling

abbrev pub handling : Event → Handling
handling (Tick c) = any
handling (Switch c why) = any
handling (Drop c channel) = empty
handling (Bed t channel) = has t
handling (Wake t) = empty
handling (Look c) = any
handling (Land t c) = has t
handling (Move a b why) = empty
handling (Lend t p) = empty
handling (Unlend t) = empty
handling (Renice t n) = empty
handling (Hatch t) = unborn t
handling (Fork c t) = has t
handling (Return t) = has t
handling (Exit c) = empty
handling (Bury t) = has t
handling (Inherit t run) = empty

-- what an event needs of the hand, told who is in it
abbrev pub FitsHand : Option ℕ → Handling → Type 0
FitsHand hand any = Unit {0}
FitsHand hand empty = hand ≡ None
FitsHand hand (unborn t) = hand ≡ None
FitsHand hand (has t) = hand ≡ Some t

-- the thread that an event takes from among the unborn, if it needs one there
abbrev pub hatched_for : Handling → List ℕ
hatched_for any = []
hatched_for empty = []
hatched_for (unborn t) = t ∷ []
hatched_for (has t) = []

-- the thread that an event hatches, if it is a hatch
abbrev pub hatched_by : Event → List ℕ
hatched_by e = hatched_for (handling e)

-- ---- seeking

-- the thread that is sought under the lock of its place
abbrev pub sought_in : Locking → Option ℕ
sought_in (queue c) = None
sought_in (queues a b) = None
sought_in (chain channel) = None
sought_in limbo = None
sought_in (place_of t) = Some t

abbrev pub sought_by : Event → Option ℕ
sought_by e = sought_in (locking e)

-- ---- the CPUs that an event names

-- whether the CPUs named are among so many, and two are different ones
abbrev pub are_cpus : ℕ → Locking → Bool
are_cpus count (queue c) = nat_lt c count
are_cpus count (queues a b) = nat_lt a count && (nat_lt b count && not (a == b))
are_cpus count (chain channel) = true
are_cpus count limbo = true
are_cpus count (place_of t) = true

abbrev pub names_cpus : ℕ → Event → Bool
names_cpus count e = are_cpus count (locking e)

-- ---- the numbers that an event brings

-- they are in their ranges: a nice value, a priority, and run time
abbrev pub HasSoundNumbers : Event → Type 0
HasSoundNumbers (Tick c) = Unit {0}
HasSoundNumbers (Switch c why) = Unit {0}
HasSoundNumbers (Drop c channel) = Unit {0}
HasSoundNumbers (Bed t channel) = Unit {0}
HasSoundNumbers (Wake t) = Unit {0}
HasSoundNumbers (Look c) = Unit {0}
HasSoundNumbers (Land t c) = Unit {0}
HasSoundNumbers (Move a b why) = Unit {0}
HasSoundNumbers (Lend t p) = p < 256
HasSoundNumbers (Unlend t) = Unit {0}
HasSoundNumbers (Renice t n) = IsNice n
HasSoundNumbers (Hatch t) = Unit {0}
HasSoundNumbers (Fork c t) = Unit {0}
HasSoundNumbers (Return t) = Unit {0}
HasSoundNumbers (Exit c) = Unit {0}
HasSoundNumbers (Bury t) = Unit {0}
HasSoundNumbers (Inherit t run) = run < 2 ^ 62
