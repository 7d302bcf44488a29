-- What a change that can move a priority, the removal of a queued thread, and a fork make of a CPU's value,
-- after sched_thread_priority, sched_rem and sched_fork.
use Rattle.std.specs.Prelude.{ℕ, ◌-◌, Bool, true, false, nat_lt, slice_set, Option, Some, None, if◌then◌else◌}
use Rattle.std.specs.Option.{option_map}
use Rattle.ule_prio.specs.declared.kind.Kind.{Kind}
use Rattle.ule_prio.specs.declared.kind.Kind.TheVariants.{Real, Batch, Idle}
use Rattle.ule_runq.specs.Runq.{place_in}
use Rattle.ule_score.specs.Changes.{after_change, forked, forks, record_after}
use Rattle.ule_score.specs.declared.record.Change.{Change}
use Rattle.ule_score.specs.declared.record.ThreadRecord.{ThreadRecord}
use Rattle.ule_types.specs.declared.event.Reply.{Reply}
use Rattle.ule_types.specs.declared.event.Reply.TheVariants.{Changed, Forked, Nothing}
use Rattle.ule_model.specs.CpuValue.{CpuValue, first_found, inserted, removed_from, takes_over_in, thread_in, with_thread_after}
use Rattle.ule_model.specs.Insertion.{Borrowing}
use Rattle.ule_model.specs.Landing.{marked_if}

-- ---- in which queue a thread is

-- a kind, where something was found in the queue of that kind
abbrev pub kind_if : Kind → Option (ℕ × ℕ) → Option Kind
kind_if k found = option_map (λ f. k) found

-- the kind of the queue that has thread t, if one has it
abbrev pub kind_queued : CpuValue → ℕ → Option Kind
kind_queued v t =
    first_found (kind_if Real (place_in v.real t)) (first_found (kind_if Batch (place_in v.batch t)) (kind_if Idle (place_in v.idle t)))

-- ---- a change that can move a priority

-- the CPU with this record kept for its thread
abbrev pub value_recorded : ThreadRecord → CpuValue → CpuValue
value_recorded r v = record v { threads = slice_set v.threads r.id (Some r) }

-- the CPU whose queued thread of this record is taken out first, by the index rule, and then inserted as
-- borrowing; it is marked where the thread takes over
abbrev pub value_requeued : Bool → Kind → ThreadRecord → CpuValue → CpuValue × Reply
value_requeued remote k r v =
    let takes = takes_over_in r.priority remote v in
    let next = inserted Borrowing r.priority r.id (removed_from k r.id v) in
    (record next { line = marked_if takes next.line }, Changed r.priority true takes)

-- what follows from a record that was changed: its thread is requeued where it is queued and its priority got better
abbrev pub value_followed : Option Kind → Bool → Bool → ThreadRecord → CpuValue → CpuValue × Reply
value_followed None better remote r v = (v, Changed r.priority false false)
value_followed (Some k) better remote r v =
    if better then value_requeued remote k r v else (v, Changed r.priority false false)

-- the CPU with the record of thread t changed, which was this
abbrev pub value_changed_from : Option ThreadRecord → ℕ → Change → Bool → CpuValue → CpuValue × Reply
value_changed_from None t change remote v = (v, Nothing)
value_changed_from (Some r) t change remote v =
    let new = after_change v.settings change r in
    value_followed (kind_queued v t) (nat_lt new.priority r.priority) remote new (value_recorded new v)

-- the CPU with a change of thread t's record
abbrev pub value_changed : ℕ → Change → Bool → CpuValue → CpuValue × Reply
value_changed t change remote v = value_changed_from (thread_in v t) t change remote v

-- ---- a queued thread less

-- the CPU without thread t, which is taken out of its queue of this kind by the index rule
abbrev pub value_removed : Kind → ℕ → CpuValue → CpuValue
value_removed k t v = let out = removed_from k t v in record out { threads = slice_set out.threads t None; load = out.load - 1 }

-- the CPU without thread t, if a queue has it
abbrev pub value_removed_from : Option Kind → ℕ → CpuValue → CpuValue
value_removed_from None t v = v
value_removed_from (Some k) t v = value_removed k t v

-- ---- a fork

-- what a fork comes to: the CPU, the child's record, and its parent, if a thread forked it
pub record ForkedFrom : Type 0 where
  pub value : CpuValue
  pub child : ThreadRecord
  pub parent : Option ℕ

-- what a fork by the current thread t comes to, which has this record
abbrev pub value_forked_with : Option ThreadRecord → ℕ → ℕ → ThreadRecord → CpuValue → ForkedFrom
value_forked_with None t now child v = record { value = v; child = child; parent = None }
value_forked_with (Some r) t now child v = record {
  value = with_thread_after now t forks v;
  child = record_after v.settings now (forked r v.cpu v.load) child;
  parent = Some t;
}

-- what a fork by the current thread comes to, if this says that there is one
abbrev pub value_forked_from : Option ℕ → ℕ → ThreadRecord → CpuValue → ForkedFrom
value_forked_from None now child v = record { value = v; child = child; parent = None }
value_forked_from (Some t) now child v = value_forked_with (thread_in v t) t now child v

-- what a fork by the current thread comes to, if there is one
abbrev pub value_forked : ℕ → ThreadRecord → CpuValue → ForkedFrom
value_forked now child v = value_forked_from v.current now child v

-- the reply to a fork, by the parent, if there is one, and the child's record
abbrev pub forked_reply : Option ℕ → ThreadRecord → Reply
forked_reply None child = Nothing
forked_reply (Some t) child = Forked t child.priority
