-- What each event needs of a world: the locks that it takes and what they guard, the thread that it seeks, and the
-- thread that it names from a hand or from among the unborn. Of the event alone `Needs` tells.
use Rattle.std.specs.Prelude.{ℕ, ◌+◌, ◌%◌, min, max, Bool, true, false, ◌==◌, ◌||◌, List, [], ◌∷◌, Option, Some, None, option_and_then}
use Rattle.std.specs.List.{list_any}
use Rattle.std.specs.Option.{option_to_list}
use Rattle.ule_score.specs.declared.place.Place.{Place}
use Rattle.ule_score.specs.declared.place.Place.TheVariants.{Running, Queued, Asleep, Unborn, Gone}
use Rattle.ule_score.specs.declared.place.Place.TheVariants as place
use Rattle.ule_types.specs.declared.event.Event.{Event}
pub use Rattle.ule_types.specs.Needs.{Locking, queue, queues, chain, limbo, place_of, locking, Handling, any, empty, unborn, has, handling, sought_in, sought_by, are_cpus, names_cpus}
use Rattle.ule_model.specs.Places.{hand_of, is_hand_of, is_under, lock_of}
use Rattle.ule_model.specs.World.{Member, World, thread_of}

-- ---- seeking

-- the worker in whose hand thread t is
abbrev pub holder_of : List Member → ℕ → Option ℕ
holder_of members t = option_and_then (λ m. hand_of m.place) (thread_of t members)

-- whether a thread is in no hand but this worker's
abbrev pub is_no_others : ℕ → Option ℕ → Bool
is_no_others worker None = true
is_no_others worker (Some holder) = holder == worker

-- ready: the thread that an event seeks is in no other worker's hand
abbrev pub is_ready : World → ℕ → Event → Bool
is_ready w worker e = is_no_others worker (option_and_then (holder_of w.members) (sought_by e))

-- ---- locks

-- the lock of a thread's place
abbrev pub lock_of_thread : List Member → ℕ → List ℕ
lock_of_thread members t = option_to_list (option_and_then (λ m. lock_of m.place) (thread_of t members))

-- the numbers of these locks, rising
abbrev pub lock_numbers : List Member → Locking → List ℕ
lock_numbers members (queue c) = c ∷ []
lock_numbers members (queues a b) = min a b ∷ max a b ∷ []
lock_numbers members (chain channel) = (16 + channel % 8) ∷ []
lock_numbers members limbo = 24 ∷ []
lock_numbers members (place_of t) = lock_of_thread members t

-- the locks of an event, in rising number
abbrev pub locks_of : World → Event → List ℕ
locks_of w e = lock_numbers w.members (locking e)

-- whether a place is within an event's reach: under one of its locks, or the worker's hand
abbrev pub is_reached : World → ℕ → Event → Place → Bool
is_reached w worker e place = list_any (λ l. is_under l place) (locks_of w e) || is_hand_of worker place

-- ---- the thread that an event names from a place

-- whether a thread is in this worker's hand
abbrev pub is_own : ℕ → Option ℕ → Bool
is_own worker None = false
is_own worker (Some holder) = holder == worker

-- whether a place is that of an unborn thread
abbrev pub is_unborn : Place → Bool
is_unborn Unborn = true
is_unborn (Running c) = false
is_unborn (Queued c k b) = false
is_unborn (Asleep channel) = false
is_unborn Gone = false
is_unborn (place.Hand w) = false

-- whether this thread is there and unborn
abbrev pub is_unborn_thread : Option Member → Bool
is_unborn_thread None = false
is_unborn_thread (Some m) = is_unborn m.place

-- whether a hand is as it is needed, but for its being empty, and an unborn thread is unborn
abbrev pub has_handled : List Member → ℕ → Handling → Bool
has_handled members worker any = true
has_handled members worker empty = true
has_handled members worker (unborn t) = is_unborn_thread (thread_of t members)
has_handled members worker (has t) = is_own worker (holder_of members t)

-- whether the thread that an event names from a hand, or from among the unborn, stands there
abbrev pub has_thread : World → ℕ → Event → Bool
has_thread w worker e = has_handled w.members worker (handling e)
