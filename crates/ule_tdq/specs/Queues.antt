-- The three queues of a CPU as one value.
use Rattle.std.specs.Prelude.{ℕ, ◌+◌, ◌/◌, false, true, ◌==◌, List, Option, if◌then◌else◌}
use Rattle.ule_calendar.specs.Calendar.{Dial, with_ordinary, with_next, after_removal}
use Rattle.ule_model.specs.CalendarIndexes.{calendar_bucket}
use Rattle.ule_model.specs.CpuChange.{kind_if}
use Rattle.ule_model.specs.CpuValue.{first_found, with_inserted, in_kind, first_choice}
use Rattle.ule_model.specs.declared.insertion.Insertion.{Insertion}
use Rattle.ule_model.specs.declared.insertion.Insertion.TheVariants.{Ordinary, Borrowing, Preempted}
use Rattle.ule_prio.specs.Kind.{kind_at}
use Rattle.ule_prio.specs.declared.kind.Kind.{Kind}
use Rattle.ule_prio.specs.declared.kind.Kind.TheVariants.{Real, Batch, Idle}
use Rattle.ule_runq.specs.Runq.{first_from, place_in, times, without}

-- the queue of real priorities, the calendar, the queue of idle priorities
pub record QueuesValue : Type 0 where
  pub real : List (List ℕ)
  pub batch : Dial
  pub idle : List (List ℕ)

-- once for this thread, and not at all for another
abbrev pub once_for : ℕ → ℕ → ℕ
once_for t u = if u == t then 1 else 0

-- how often a thread is queued
abbrev pub times_queued : QueuesValue → ℕ → ℕ
times_queued q t = times q.real t + times q.batch.lists t + times q.idle t

-- how often it stands in the queue of one kind
abbrev pub times_in : Kind → QueuesValue → ℕ → ℕ
times_in Real q t = times q.real t
times_in Batch q t = times q.batch.lists t
times_in Idle q t = times q.idle t

-- the calendar with thread t of priority p filed
abbrev pub dial_with : Insertion → Dial → ℕ → ℕ → Dial
dial_with Ordinary d p t = with_ordinary d t p
dial_with Borrowing d p t = with_next d t false
dial_with Preempted d p t = with_next d t true

-- the calendar's bucket of an insertion of priority p
abbrev pub dial_bucket : Insertion → Dial → ℕ → ℕ
dial_bucket Ordinary d p = calendar_bucket d.idx d.ridx p
dial_bucket Borrowing d p = d.ridx
dial_bucket Preempted d p = d.ridx

-- the queues with thread t of priority p in the one of this kind
abbrev pub queues_with_in : Kind → Insertion → ℕ → ℕ → QueuesValue → QueuesValue
queues_with_in Real how p t q = record q { real = with_inserted how q.real (p / 4) t }
queues_with_in Batch how p t q = record q { batch = dial_with how q.batch p t }
queues_with_in Idle how p t q = record q { idle = with_inserted how q.idle (p / 4) t }

-- the queues with thread t of priority p
abbrev pub queues_with : Insertion → ℕ → ℕ → QueuesValue → QueuesValue
queues_with how p t q = queues_with_in (kind_at p) how p t q

-- the bucket of an insertion of priority p in the queue of this kind
abbrev pub bucket_with_in : Kind → Insertion → ℕ → QueuesValue → ℕ
bucket_with_in Real how p q = p / 4
bucket_with_in Batch how p q = dial_bucket how q.batch p
bucket_with_in Idle how p q = p / 4

-- the bucket of an insertion of priority p
abbrev pub bucket_with : Insertion → ℕ → QueuesValue → ℕ
bucket_with how p q = bucket_with_in (kind_at p) how p q

-- the queues without thread t, which stands in the one of this kind
abbrev pub queues_without : Kind → ℕ → QueuesValue → QueuesValue
queues_without Real t q = record q { real = without t q.real }
queues_without Batch t q = record q { batch = after_removal q.batch t }
queues_without Idle t q = record q { idle = without t q.idle }

-- the kind of the queue that has thread t, if one has it
abbrev pub kind_found : QueuesValue → ℕ → Option Kind
kind_found q t =
    first_found (kind_if Real (place_in q.real t)) (first_found (kind_if Batch (place_in q.batch.lists t)) (kind_if Idle (place_in q.idle t)))

-- the kind and the number of the thread whose turn comes first
abbrev pub first_queued : QueuesValue → Option (Kind × ℕ)
first_queued q = first_choice (in_kind Real (first_from q.real 0))
    (first_choice (in_kind Batch (first_from q.batch.lists q.batch.ridx)) (in_kind Idle (first_from q.idle 0)))
