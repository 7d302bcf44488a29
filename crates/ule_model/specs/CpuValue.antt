-- One CPU as a value: records by thread number, lists of numbers, and the CPU's own numbers. Each
-- step is a plain function of the value; StandsFor says of which side of a world it is the value.
use Rattle.std.specs.Prelude.{◌≡◌, ℕ, ◌+◌, ◌-◌, ◌<◌, ◌≤◌, Bool, false, ◌==◌, ◌&&◌, List, find, length, slice_index_or, slice_set, Option, Some, None, IfSome, option_and_then, if◌then◌else◌}
use Rattle.std.specs.Option.{option_map}
use Rattle.ule_prio.specs.Kind.{kind_at}
use Rattle.ule_prio.specs.Preemption.{takes_over}
use Rattle.ule_prio.specs.declared.kind.Kind.{Kind}
use Rattle.ule_prio.specs.declared.kind.Kind.TheVariants.{Real, Batch, Idle}
use Rattle.ule_runq.specs.Runq.{is_empty_at, place_in, with_tail, with_head, without, first_from}
use Rattle.ule_score.specs.Changes.{RecordChange, after_tick, placed_on, ran, record_after, runs, ticked}
use Rattle.ule_score.specs.declared.place.Place.{Place}
use Rattle.ule_score.specs.declared.place.Place.TheVariants.{Running, Queued}
use Rattle.ule_score.specs.declared.record.CpuLine.{CpuLine}
use Rattle.ule_score.specs.declared.record.Settings.{Settings}
use Rattle.ule_score.specs.declared.record.ThreadRecord.{ThreadRecord}
use Rattle.ule_score.specs.declared.record.Why.{Why}
use Rattle.ule_types.specs.declared.event.Reply.{Reply}
use Rattle.ule_types.specs.declared.event.Reply.TheVariants.{Unmarked, Switched, Ticked}
use Rattle.ule_types.specs.declared.outcome.ThreadLine.{ThreadLine}
use Rattle.ule_model.specs.CalendarIndexes.{ridx_after_removal}
use Rattle.ule_model.specs.Finals.{line_of}
use Rattle.ule_model.specs.Insertion.{Insertion, Ordinary, Borrowing, Preempted, bucket_of}
use Rattle.ule_model.specs.Landing.{current_priority, marked_if}
use Rattle.ule_model.specs.Places.{is_on}
use Rattle.ule_model.specs.Shows.{ShowsQueue}
use Rattle.ule_model.specs.Switch.{one_more, insertion_of, is_preemption, is_unasked, started_reply}
use Rattle.ule_model.specs.Tick.{is_due, line_after_tick, load_of, marked_at_end, word_after_tick}
use Rattle.ule_model.specs.World.{Member, Side, current_of, is_numbered}

-- a CPU: the record of each thread number on it, its current thread, its three queues, its numbers
pub record CpuValue : Type 0 where
  pub cpu : ℕ
  pub settings : Settings
  pub threads : List (Option ThreadRecord)
  pub current : Option ℕ
  pub load : ℕ
  pub real : List (List ℕ)
  pub batch : List (List ℕ)
  pub idle : List (List ℕ)
  pub line : CpuLine
  pub balance_word : ℕ

-- the record of thread t, if it is on the CPU
abbrev pub thread_in : CpuValue → ℕ → Option ThreadRecord
thread_in v t = slice_index_or v.threads t None

-- the CPU with thread t's record changed by an event at this time
abbrev pub with_thread_after : ℕ → ℕ → RecordChange → CpuValue → CpuValue
with_thread_after now t change v =
    record v { threads = slice_set v.threads t (option_map (record_after v.settings now change) (thread_in v t)) }

-- no record of a CPU has a later CPU-use update
abbrev pub IsNoEarlier : CpuValue → ℕ → Type 0
IsNoEarlier v now = (t : ℕ) → IfSome (thread_in v t) (λ r. r.usage.ltick ≤ now)

-- ---- the queues by kind

-- the queue of a kind
abbrev pub queue_of : Kind → CpuValue → List (List ℕ)
queue_of Real v = v.real
queue_of Batch v = v.batch
queue_of Idle v = v.idle

-- the CPU with another queue of a kind
abbrev pub with_queue : Kind → List (List ℕ) → CpuValue → CpuValue
with_queue Real q v = record v { real = q }
with_queue Batch q v = record v { batch = q }
with_queue Idle q v = record v { idle = q }

-- a queue with thread t in bucket b: a preempted one at the head, every other at the tail
abbrev pub with_inserted : Insertion → List (List ℕ) → ℕ → ℕ → List (List ℕ)
with_inserted Ordinary q b t = with_tail q b t
with_inserted Borrowing q b t = with_tail q b t
with_inserted Preempted q b t = with_head q b t

-- the CPU with thread t in bucket b of its queue of this kind
abbrev pub inserted_in : Kind → Insertion → ℕ → ℕ → CpuValue → CpuValue
inserted_in k how b t v = with_queue k (with_inserted how (queue_of k v) b t) v

-- the CPU with thread t of priority p queued
abbrev pub inserted : Insertion → ℕ → ℕ → CpuValue → CpuValue
inserted how p t v = inserted_in (kind_at p) how (bucket_of (kind_at p) how v.line p) t v

-- the CPU with thread t queued by the priority of its record
abbrev pub inserted_thread : Insertion → ℕ → Option ThreadRecord → CpuValue → CpuValue
inserted_thread how t None v = v
inserted_thread how t (Some r) v = inserted how r.priority t v

-- the CPU's numbers after a thread left its queue of a kind, by the index rule
abbrev pub with_index_after : Kind → CpuValue → CpuValue
with_index_after Real v = v
with_index_after Batch v = record v { line = record v.line { ridx = ridx_after_removal v.line.idx v.line.ridx (is_empty_at v.batch v.line.ridx) } }
with_index_after Idle v = v

-- the CPU without thread t in its queue of this kind
abbrev pub removed_from : Kind → ℕ → CpuValue → CpuValue
removed_from k t v = with_index_after k (with_queue k (without t (queue_of k v)) v)

-- the kind of the queue and the number of the thread whose turn comes first
abbrev pub in_kind : Kind → Option (ℕ × ℕ) → Option (Kind × ℕ)
in_kind k found = option_map (λ f. (k, f.1)) found

abbrev pub first_choice : Option (Kind × ℕ) → Option (Kind × ℕ) → Option (Kind × ℕ)
first_choice None other = other
first_choice (Some found) other = Some found

abbrev pub first_in : CpuValue → Option (Kind × ℕ)
first_in v = first_choice (in_kind Real (first_from v.real 0))
    (first_choice (in_kind Batch (first_from v.batch v.line.ridx)) (in_kind Idle (first_from v.idle 0)))

-- the CPU with this queued thread running
abbrev pub with_current : ℕ → Kind → ℕ → CpuValue → CpuValue
with_current now k t v = with_thread_after now t runs (record (removed_from k t v) { current = Some t })

-- what choosing comes to: the CPU, and the thread that runs now
abbrev pub current_chosen : ℕ → Option (Kind × ℕ) → CpuValue → CpuValue × Option ℕ
current_chosen now None v = (v, None)
current_chosen now (Some found) v = (with_current now found.0 found.1 v, Some found.1)

abbrev pub chosen_next : ℕ → CpuValue → CpuValue × Option ℕ
chosen_next now v = current_chosen now (first_in v) v

-- the CPU without marks
abbrev pub without_marks : CpuValue → CpuValue
without_marks v = record v { line = record v.line { resched = false; slice_end = false } }

-- the CPU whose current thread t gave way and is queued
abbrev pub with_given_way : Bool → ℕ → ℕ → CpuValue → CpuValue
with_given_way preempted now t v =
    let left = with_thread_after now t ran (record v { current = None; line = record v.line { switches = one_more v.line.switches } }) in
    inserted_thread (insertion_of preempted) t (thread_in left t) left

-- the switch from the current thread, if there is one
abbrev pub value_switched_from : Option ℕ → Bool → ℕ → CpuValue → CpuValue × Reply
value_switched_from None preempted now v =
    let next = chosen_next now v in (next.0, started_reply next.1)
value_switched_from (Some t) preempted now v =
    let next = chosen_next now (with_given_way preempted now t v) in
    (next.0, Switched (Some t) next.1 preempted)

-- the step of a switch
abbrev pub value_switched : Why → ℕ → CpuValue → CpuValue × Reply
value_switched why now v =
    if is_unasked why v.line.resched then (v, Unmarked)
    else value_switched_from v.current (is_preemption why v.line.slice_end) now (without_marks v)

-- ---- one thread more

-- the CPU with one thread more, queued
abbrev pub value_laid : ThreadRecord → CpuValue → CpuValue
value_laid r v = inserted Ordinary r.priority r.id (record v { threads = slice_set v.threads r.id (Some r); load = v.load + 1 })

-- the record of the current thread
abbrev pub current_in : CpuValue → Option ThreadRecord
current_in v = option_and_then (thread_in v) v.current

-- whether a thread of priority p takes over from the current thread
abbrev pub takes_over_in : ℕ → Bool → CpuValue → Bool
takes_over_in p remote v = takes_over p (current_priority (current_in v)) remote v.settings.preempt

-- the CPU with a thread that comes to it, marked where it takes over
abbrev pub value_added : ThreadRecord → Bool → CpuValue → CpuValue
value_added r remote v =
    let next = value_laid (placed_on v.cpu r) v in
    record next { line = marked_if (takes_over_in r.priority remote v) next.line }

-- ---- one thread less

-- the CPU without its current thread t
abbrev pub without_current : ℕ → CpuValue → CpuValue
without_current t v = record v {
  threads = slice_set v.threads t None;
  current = None;
  load = v.load - 1;
  line = record v.line { resched = false; slice_end = false; switches = one_more v.line.switches };
}

-- the record of a thread that left, and the thread that runs now
pub record Taken : Type 0 where
  pub thread : ThreadRecord
  pub into : Option ℕ

-- the CPU whose current thread t left with this record, and what came of it
abbrev pub value_taken_with : Option ThreadRecord → RecordChange → ℕ → ℕ → CpuValue → CpuValue × Option Taken
value_taken_with None change now t v = (v, None)
value_taken_with (Some r) change now t v =
    let next = chosen_next now (without_current t v) in
    (next.0, Some (record { thread = record_after v.settings now change r; into = next.1 }))

-- the current thread leaves its CPU, its record changed, and the next is chosen
abbrev pub value_taken_from : Option ℕ → RecordChange → ℕ → CpuValue → CpuValue × Option Taken
value_taken_from None change now v = (v, None)
value_taken_from (Some t) change now v = value_taken_with (thread_in v t) change now t v

abbrev pub value_taken : RecordChange → ℕ → CpuValue → CpuValue × Option Taken
value_taken change now v = value_taken_from v.current change now v

-- ---- a tick

-- the CPU's own numbers after a tick
abbrev pub value_clocked : CpuValue → CpuValue
value_clocked v = record v {
  line = line_after_tick v.cpu v.load (is_empty_at v.batch v.line.ridx) v.balance_word v.line;
  balance_word = word_after_tick v.cpu v.line.balance v.balance_word;
}

-- what a tick makes of the current thread
abbrev pub value_ticked_with : Option ThreadRecord → Bool → ℕ → CpuValue → CpuValue × Reply
value_ticked_with None due now v = (v, Ticked None due false)
value_ticked_with (Some r) due now v =
    let ended = (after_tick v.settings now v.load r).1 in (
      record (with_thread_after now r.id (ticked v.load) v) { line = marked_at_end ended v.line },
      Ticked (Some r.id) due ended,
    )

-- the step of a tick
abbrev pub value_ticked : ℕ → CpuValue → CpuValue × Reply
value_ticked now v = value_ticked_with (current_in v) (is_due v.cpu v.line.balance) now (value_clocked v)

-- ---- where a thread stands

-- the first of two that there is
abbrev pub first_found : {A : Type 0} → Option A → Option A → Option A
first_found None other = other
first_found (Some found) other = Some found

-- a thread's place in one queue of a CPU, with its position there
abbrev pub queued_place : ℕ → Kind → Option (ℕ × ℕ) → Option (Place × ℕ)
queued_place c k found = option_map (λ f. (Queued c k f.0, f.1)) found

-- the place of a CPU's current thread
abbrev pub current_place : ℕ → Option ℕ → ℕ → Option (Place × ℕ)
current_place c None t = None
current_place c (Some u) t = if u == t then Some (Running c, 0) else None

-- where a CPU has thread t, with its position
abbrev pub value_place : CpuValue → ℕ → Option (Place × ℕ)
value_place v t = first_found (current_place v.cpu v.current t)
    (first_found (queued_place v.cpu Real (place_in v.real t))
    (first_found (queued_place v.cpu Batch (place_in v.batch t)) (queued_place v.cpu Idle (place_in v.idle t))))

-- the line of thread t, if it is on the CPU
abbrev pub value_line : CpuValue → ℕ → Option ThreadLine
value_line v t = option_and_then (λ r. option_map (λ at. line_of r at.0 at.1) (value_place v t)) (thread_in v t)

-- ---- the world that a value stands for

-- thread t, if it runs or waits on CPU c
abbrev pub thread_on : ℕ → ℕ → List Member → Option Member
thread_on c t ms = find (λ m. is_numbered t m && is_on c m.place) ms

-- this value is CPU v.cpu's side of a world
pub record StandsFor (v : CpuValue) (s : Side) : Type 0 where
  pub settings : v.settings ≡ s.settings
  pub line : v.line ≡ s.line
  -- the balance word is CPU 0's
  pub balance_word : v.cpu ≡ 0 → v.balance_word ≡ s.balance_word
  pub current : v.current ≡ option_map (λ m. m.thread.id) (current_of v.cpu s.members)
  pub load : v.load ≡ load_of v.cpu s.members
  pub slots : length v.threads ≡ 256
  -- the records are those of the threads that run or wait on the CPU
  pub threads : (t : ℕ) → thread_in v t ≡ option_map (λ m. m.thread) (thread_on v.cpu t s.members)
  pub queues : (k : Kind) → ShowsQueue (queue_of k v) v.cpu k s.members
  pub index : v.line.ridx < 64
