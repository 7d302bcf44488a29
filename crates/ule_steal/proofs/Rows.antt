-- Worked values of the steal rule, by computing.
use Rattle.std.proofs.Common.{◌≡◌, ◌==◌, ◌&&◌, ◌||◌, not, ℕ, Bool, false, Some, None, List, [], replicate, refl, ap}
use Rattle.std.proofs.Math.Path.{fun_ext}
use Rattle.ule_prio.specs.Kind.{kind_at}
use Rattle.ule_prio.specs.declared.kind.Kind.TheVariants.{Batch}
use Rattle.ule_model.specs.CalendarIndexes.{calendar_bucket}
use Rattle.ule_runq.specs.Runq.{times, line_from}
use Rattle.ule_calendar.specs.Calendar.{Dial, with_ordinary}
use Rattle.ule_steal.specs.Steal.{plain_pick, batch_pick}

-- ---- sets of movable threads, by what the calls of a set say of each thread

-- the set without threads
abbrev no_thread : ℕ → Bool
no_thread u = false

-- a set with thread t put in
abbrev and_thread : ℕ → (ℕ → Bool) → ℕ → Bool
and_thread t set u = u == t || set u

-- a set with thread t taken out
abbrev but_thread : ℕ → (ℕ → Bool) → ℕ → Bool
but_thread t set u = not (u == t) && set u

-- thread 0 alone is movable
abbrev only_0 : ℕ → Bool
only_0 = and_thread 0 no_thread

-- threads 0, 1 and 2 are movable
abbrev all_three : ℕ → Bool
all_three = and_thread 2 (and_thread 1 only_0)

-- thread 2 alone is movable, after threads 0 and 1 were taken out
abbrev only_2 : ℕ → Bool
only_2 = but_thread 1 (but_thread 0 all_three)

-- none of threads 0, 1 and 2 is movable, after thread 2 was taken out too
abbrev none_of_three : ℕ → Bool
none_of_three = but_thread 2 only_2

-- two sets that say the same of every thread make queues and calendars give the same, so the values of this file hold of each such set
members_decide : (movable other : ℕ → Bool) → ((u : ℕ) → movable u ≡ other u) → (q : List (List ℕ)) (d : Dial) →
    (plain_pick movable q ≡ plain_pick other q) × (batch_pick movable d ≡ batch_pick other d)
members_decide movable other same q d = (ap (λ set. plain_pick set q) (fun_ext same), ap (λ set. batch_pick set d) (fun_ext same))

-- ---- the calendar

-- a calendar without threads, at its start
abbrev at_start : Dial
at_start = record { lists = replicate 64 []; idx = 0; ridx = 0 }

-- a calendar with thread 0 of priority 172
abbrev one_filed : Dial
one_filed = with_ordinary at_start 0 172

-- a calendar with threads 0 and 1 of priority 172, in this order
abbrev two_filed : Dial
two_filed = with_ordinary one_filed 1 172

-- a calendar with threads 0, 1 and 2 of priority 172, in this order
abbrev three_filed : Dial
three_filed = with_ordinary two_filed 2 172

-- thread 0, which waits nowhere, can be filed by its batch priority 172 in a calendar without threads, in bucket 17
thread_0_comes : (kind_at 172 ≡ Batch) × (times at_start.lists 0 ≡ 0) × (calendar_bucket at_start.idx at_start.ridx 172 ≡ 17)
unfolding times
thread_0_comes = (refl, refl, refl)

-- thread 1, which waits nowhere, can be filed by its batch priority 172 behind thread 0, in bucket 17
thread_1_comes : (kind_at 172 ≡ Batch) × (times one_filed.lists 1 ≡ 0) × (calendar_bucket one_filed.idx one_filed.ridx 172 ≡ 17)
unfolding times
thread_1_comes = (refl, refl, refl)

-- thread 2, which waits nowhere, can be filed by its batch priority 172 behind threads 0 and 1, in bucket 17
thread_2_comes : (kind_at 172 ≡ Batch) × (times two_filed.lists 2 ≡ 0) × (calendar_bucket two_filed.idx two_filed.ridx 172 ≡ 17)
unfolding times
thread_2_comes = (refl, refl, refl)

-- ---- the first thread goes last

-- a calendar without threads gives none
none_from_empty : batch_pick only_0 at_start ≡ None
unfolding line_from
none_from_empty = refl

-- a calendar gives its first thread where that is alone and movable
given_alone : batch_pick only_0 one_filed ≡ Some 0
unfolding line_from
given_alone = refl

-- a calendar gives its first thread where that alone is movable of the threads in it
given_alone_movable : batch_pick only_0 three_filed ≡ Some 0
unfolding line_from
given_alone_movable = refl

-- a calendar whose threads are all movable gives the second, and spares the first
first_is_spared : batch_pick all_three three_filed ≡ Some 1
unfolding line_from
first_is_spared = refl

-- a real or an idle queue of the same lists, whose threads are all movable, gives the first
plain_gives_first : plain_pick all_three three_filed.lists ≡ Some 0
plain_gives_first = refl

-- a real or an idle queue whose first two threads are not movable gives the third
plain_gives_third : plain_pick only_2 three_filed.lists ≡ Some 2
plain_gives_third = refl

-- a real or an idle queue without a movable thread gives none
plain_gives_none : plain_pick none_of_three three_filed.lists ≡ None
plain_gives_none = refl

-- a calendar without a movable thread gives none
batch_gives_none : batch_pick none_of_three three_filed ≡ None
unfolding line_from
batch_gives_none = refl
