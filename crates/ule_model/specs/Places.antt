-- Where threads stand, and which lock each place lies under.
use Rattle.std.specs.Prelude.{ℕ, ◌+◌, ◌%◌, Bool, false, ◌==◌, ◌&&◌, ◌||◌, Option, Some, None}
use Rattle.ule_prio.specs.declared.kind.Kind.{Kind}
use Rattle.ule_prio.specs.declared.kind.Kind.TheVariants.{Real, Batch, Idle}
use Rattle.ule_score.specs.declared.place.Place.{Place}
use Rattle.ule_score.specs.declared.place.Place.TheVariants.{Running, Queued, Asleep, Unborn, Gone, Hand}

-- the order in which a CPU's queues are looked at
abbrev pub rank_of : Kind → ℕ
rank_of Real = 0
rank_of Batch = 1
rank_of Idle = 2

-- whether two kinds are one
abbrev pub is_kind : Kind → Kind → Bool
is_kind k j = rank_of k == rank_of j

-- whether it is the place of CPU c's current thread
abbrev pub runs_on : ℕ → Place → Bool
runs_on c (Running d) = c == d
runs_on c (Queued d k b) = false
runs_on c (Asleep channel) = false
runs_on c Unborn = false
runs_on c Gone = false
runs_on c (Hand w) = false

-- whether it is in one of CPU c's queues
abbrev pub waits_on : ℕ → Place → Bool
waits_on c (Running d) = false
waits_on c (Queued d k b) = c == d
waits_on c (Asleep channel) = false
waits_on c Unborn = false
waits_on c Gone = false
waits_on c (Hand w) = false

-- whether it is in bucket b of CPU c's queue of kind k
abbrev pub waits_in : ℕ → Kind → ℕ → Place → Bool
waits_in c k b (Running d) = false
waits_in c k b (Queued d j e) = (c == d) && (is_kind k j && (b == e))
waits_in c k b (Asleep channel) = false
waits_in c k b Unborn = false
waits_in c k b Gone = false
waits_in c k b (Hand w) = false

-- whether it is on CPU c, running or queued
abbrev pub is_on : ℕ → Place → Bool
is_on c place = runs_on c place || waits_on c place

-- the worker whose hand it is
abbrev pub hand_of : Place → Option ℕ
hand_of (Running c) = None
hand_of (Queued c k b) = None
hand_of (Asleep channel) = None
hand_of Unborn = None
hand_of Gone = None
hand_of (Hand w) = Some w

-- the lock that a place lies under: a CPU's queue, a sleep chain, or limbo; none for a hand
abbrev pub lock_of : Place → Option ℕ
lock_of (Running c) = Some c
lock_of (Queued c k b) = Some c
lock_of (Asleep channel) = Some (16 + channel % 8)
lock_of Unborn = Some 24
lock_of Gone = Some 24
lock_of (Hand w) = None

-- whether an optional number is this one
abbrev pub is_number : ℕ → Option ℕ → Bool
is_number n None = false
is_number n (Some m) = n == m

-- whether a place lies under lock l
abbrev pub is_under : ℕ → Place → Bool
is_under l place = is_number l (lock_of place)

-- whether a place is worker w's hand
abbrev pub is_hand_of : ℕ → Place → Bool
is_hand_of w place = is_number w (hand_of place)
