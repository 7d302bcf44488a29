-- Worked values of a batch calendar, by computing.
use Rattle.std.proofs.Common.{◌≡◌, ℕ, ◌+◌, ◌%◌, zero, suc, true, false, Option, Some, None, [], replicate, option_map, refl, ◌∙◌, ap, arith, eq-eqb}
use Rattle.ule_prio.specs.Kind.{kind_at}
use Rattle.ule_prio.specs.declared.kind.Kind.TheVariants.{Batch}
use Rattle.ule_model.specs.CalendarIndexes.{calendar_bucket, distance_of}
use Rattle.ule_runq.specs.Runq.{times, line_from, first_from, bucket_in, place_in}
use Rattle.ule_runq.proofs.RunqLaws.{list_at-empty}
use Rattle.ule_calendar.specs.Calendar.{Dial, with_ordinary, with_next, after_removal, turned}

-- a calendar without threads, at its start
abbrev at_start : Dial
at_start = record { lists = replicate 64 []; idx = 0; ridx = 0 }

-- the thread that is chosen next from a calendar
abbrev chosen : Dial → Option ℕ
chosen d = option_map (λ f. f.1) (first_from d.lists d.ridx)

-- ---- no thread joins the bucket that drains

-- thread 1 of priority 152 at the start
abbrev one_filed : Dial
one_filed = with_ordinary at_start 1 152

-- thread 1 of priority 152, after one turn
abbrev one_turned : Dial
one_turned = turned one_filed

-- thread 1 of priority 152 and, filed after one turn, thread 2 of priority 223
abbrev two_filed : Dial
two_filed = with_ordinary one_turned 2 223

-- thread 1 of priority 152 and, filed after one turn, threads 2 and 3 of priorities 223 and 152
abbrev three_filed : Dial
three_filed = with_ordinary two_filed 3 152

-- thread 1 filed before and threads 2 and 3 filed after a first turn, after a second turn
abbrev turned_again : Dial
turned_again = turned three_filed

-- threads 2 and 3 filed after a first turn, after a second turn and thread 1 taken out
abbrev first_left : Dial
first_left = after_removal turned_again 1

-- at the start thread 1 of priority 152 can be filed, in bucket 0
best_priority_at_start : (kind_at 152 ≡ Batch) × (times at_start.lists 1 ≡ 0) × (calendar_bucket at_start.idx at_start.ridx 152 ≡ 0)
unfolding times
best_priority_at_start = (refl, refl, refl)

-- while the bucket at the removal index has a thread, a turn brings the insertion index alone one ahead
insertion_index_goes_ahead : (one_turned.idx ≡ 1) × (one_turned.ridx ≡ 0)
insertion_index_goes_ahead = (refl, refl)

-- thread 2 of priority 223 would come round to the bucket at the removal index, which drains, and is filed in the one before
worst_priority_stops_short : (kind_at 223 ≡ Batch) × (times one_turned.lists 2 ≡ 0) × (calendar_bucket one_turned.idx one_turned.ridx 223 ≡ 63)
unfolding times
worst_priority_stops_short = (refl, refl, refl)

-- bucket 63 lies 63 buckets ahead of removal index 0
farthest_bucket : distance_of two_filed.ridx 63 ≡ 63
farthest_bucket = refl

-- thread 3 of priority 152 is filed at the insertion index, bucket 1, and not in the bucket that drains
best_priority_after_a_turn : (kind_at 152 ≡ Batch) × (times two_filed.lists 3 ≡ 0) × (calendar_bucket two_filed.idx two_filed.ridx 152 ≡ 1)
unfolding times
best_priority_after_a_turn = (refl, refl, refl)

-- the next turn changes neither index, as the bucket at the removal index isn't drained
not_drained_stays : (turned_again.idx ≡ 1) × (turned_again.ridx ≡ 0)
not_drained_stays = (refl, refl)

-- thread 1 stands in the calendar once, and is taken out of bucket 0
taken_out_of_drained : (times turned_again.lists 1 ≡ 1) × (bucket_in turned_again.lists 1 ≡ Some 0)
unfolding times bucket_in
taken_out_of_drained = (refl, refl)

-- the removal that drains the bucket brings the removal index to the insertion index
drained_goes_on : (first_left.idx ≡ 1) × (first_left.ridx ≡ 1)
drained_goes_on = (refl, refl)

-- bucket 63 lies 62 buckets ahead of removal index 1
comes_nearer : distance_of first_left.ridx 63 ≡ 62
comes_nearer = refl

-- ---- preempted threads go first

-- thread 2, which was preempted, filed at the removal index before thread 1 of priority 152
abbrev preempted_filed : Dial
preempted_filed = with_next one_filed 2 true

-- threads 2 and 1 and, behind them, thread 3, whose priority got better while it was queued
abbrev better_filed : Dial
better_filed = with_next preempted_filed 3 false

-- no thread is chosen from a calendar without threads
none_is_chosen : chosen at_start ≡ None
unfolding line_from
none_is_chosen = refl

-- thread 1, which waits nowhere, can be filed by its batch priority 152 before a preempted thread comes, in bucket 0
ordinary_thread_comes : (kind_at 152 ≡ Batch) × (times at_start.lists 1 ≡ 0) × (calendar_bucket at_start.idx at_start.ridx 152 ≡ 0)
unfolding times
ordinary_thread_comes = (refl, refl, refl)

-- preempted thread 2, which waits nowhere, can be filed at the removal index, bucket 0
preempted_thread_comes : (times one_filed.lists 2 ≡ 0) × (one_filed.ridx ≡ 0)
unfolding times
preempted_thread_comes = (refl, refl)

-- thread 3 of a better priority, which waits nowhere, can be filed at the removal index, bucket 0
better_thread_comes : (times preempted_filed.lists 3 ≡ 0) × (preempted_filed.ridx ≡ 0)
unfolding times
better_thread_comes = (refl, refl)

-- in bucket 0 the preempted thread 2 has place 0, thread 1 of an ordinary insertion place 1, and thread 3 of a better priority place 2
preempted_before_better : (place_in better_filed.lists 2 ≡ Some (0, 0)) × (place_in better_filed.lists 1 ≡ Some (0, 1)) × (place_in better_filed.lists 3 ≡ Some (0, 2))
unfolding bucket_in
preempted_before_better = (refl, refl, refl)

-- the preempted thread 2 is chosen next
preempted_is_chosen : chosen better_filed ≡ Some 2
unfolding line_from
preempted_is_chosen = refl

-- ---- an empty calendar turns at every tick

-- thread 5 of priority 152 at the start
abbrev last_filed : Dial
last_filed = with_ordinary at_start 5 152

-- the calendar that thread 5, its only thread, was taken out of
abbrev emptied : Dial
emptied = after_removal last_filed 5

-- that calendar after n turns
emptied_after : ℕ → Dial
emptied_after zero = emptied
emptied_after (suc n) = turned (emptied_after n)

-- at the start thread 5, which waits nowhere, can be filed by its batch priority 152, in bucket 0
only_thread_comes : (kind_at 152 ≡ Batch) × (times at_start.lists 5 ≡ 0) × (calendar_bucket at_start.idx at_start.ridx 152 ≡ 0)
unfolding times
only_thread_comes = (refl, refl, refl)

-- thread 5 stands in the calendar once, and is taken out of bucket 0
only_thread_goes : (times last_filed.lists 5 ≡ 1) × (bucket_in last_filed.lists 5 ≡ Some 0)
unfolding times bucket_in
only_thread_goes = (refl, refl)

-- a removal turns nothing: where the indexes are equal, they stay at 0 although the bucket is empty now
removal_turns_nothing : (emptied.idx ≡ 0) × (emptied.ridx ≡ 0)
removal_turns_nothing = (refl, refl)

-- an empty calendar whose indexes are both r turns to both at the next bucket
empty_turns : (r : ℕ) → turned (record { lists = replicate 64 []; idx = r; ridx = r }) ≡ record { lists = replicate 64 []; idx = (r + 1) % 64; ridx = (r + 1) % 64 }
empty_turns r = rw (eq-eqb r r refl, list_at-empty 64 r) refl

-- after n turns the emptied calendar is still empty, and both indexes have gone n buckets round
emptied_goes_round : (n : ℕ) → emptied_after n ≡ record { lists = replicate 64 []; idx = n % 64; ridx = n % 64 }
unfolding emptied_after
emptied_goes_round zero = refl
emptied_goes_round (suc n) =
    ap turned (emptied_goes_round n) ∙ empty_turns (n % 64)
    ∙ ap (λ r. record { lists = replicate 64 []; idx = r; ridx = r }) (omega arith)

-- an empty calendar turns at every tick: after any number of ticks, so after each of the first 130, both indexes are that number round 64
turns_at_every_tick : (tick : ℕ) → ((emptied_after tick).idx ≡ tick % 64) × ((emptied_after tick).ridx ≡ tick % 64)
turns_at_every_tick tick = (ap (λ d. d.idx) (emptied_goes_round tick), ap (λ d. d.ridx) (emptied_goes_round tick))
