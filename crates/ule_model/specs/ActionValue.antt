-- What an action does to the value under a lock and to the worker's hand: the same parts as on the side of a world.
use Rattle.std.specs.Prelude.{ℕ, ◌+◌, ◌-◌, List, [], ◌∷◌, slice_set, Option, Some, None}
use Rattle.std.specs.Option.{option_map}
use Rattle.ule_score.specs.Changes.{RecordChange, record_after}
use Rattle.ule_score.specs.declared.place.Place.{Place}
use Rattle.ule_score.specs.declared.place.Place.TheVariants.{Running, Queued, Hand}
use Rattle.ule_score.specs.declared.record.Settings.{Settings}
use Rattle.ule_score.specs.declared.record.ThreadRecord.{ThreadRecord}
use Rattle.ule_sleep.specs.Chain.{standing_in, thread_standing, with_standing, without_standing}
use Rattle.ule_threads.specs.declared.standing.Standing.{Standing}
use Rattle.ule_types.specs.declared.event.Reply.{Reply}
use Rattle.ule_model.specs.Action.{Action, Part, choose, clear_marks, clock, count_switch, end_slice_if, insert, mark_if, move, note}
use Rattle.ule_model.specs.CpuValue.{CpuValue, chosen_next, inserted, inserted_thread, removed_from, thread_in, value_clocked, with_thread_after, without_marks}
use Rattle.ule_model.specs.Insertion.{Insertion}
use Rattle.ule_model.specs.Landing.{marked_if}
use Rattle.ule_model.specs.Switch.{one_more}
use Rattle.ule_model.specs.Tick.{marked_at_end}

-- ---- on a CPU

-- the worker's hand, and the CPU under the lock
pub record HandAndCpu : Type 0 where
  pub hand : Option ThreadRecord
  pub value : CpuValue

-- the CPU where thread t has left this place, by the index rule
abbrev pub value_leaving : Place → ℕ → CpuValue → CpuValue
value_leaving (Running c) t v = record v { current = None }
value_leaving (Queued c k b) t v = removed_from k t v
value_leaving place t v = v

-- the record of thread t changes in the hand, or else on the CPU
abbrev pub noted_on_cpu : Place → ℕ → ℕ → RecordChange → HandAndCpu → HandAndCpu
noted_on_cpu (Hand w) now t change h = record h { hand = option_map (record_after h.value.settings now change) h.hand }
noted_on_cpu place now t change h = record h { value = with_thread_after now t change h.value }

-- the CPU with one thread more, queued so
abbrev pub value_joined : Insertion → ThreadRecord → CpuValue → CpuValue
value_joined how r v = inserted how r.priority r.id (record v { threads = slice_set v.threads r.id (Some r); load = v.load + 1 })

-- the CPU without thread t, which has left its place
abbrev pub value_parted : ℕ → CpuValue → CpuValue
value_parted t v = record v { threads = slice_set v.threads t None; load = v.load - 1 }

-- this thread comes from the hand to the CPU, queued so
abbrev pub inserted_from_hand : Insertion → Option ThreadRecord → HandAndCpu → HandAndCpu
inserted_from_hand how None h = h
inserted_from_hand how (Some r) h = record { hand = None; value = value_joined how r h.value }

-- thread t leaves its place on the CPU, and is queued so
abbrev pub inserted_anew : Place → Insertion → ℕ → CpuValue → CpuValue
inserted_anew place how t v = let left = value_leaving place t v in inserted_thread how t (thread_in left t) left

-- thread t is queued, from the hand or from its place on the CPU
abbrev pub inserted_on_cpu : Place → Insertion → ℕ → HandAndCpu → HandAndCpu
inserted_on_cpu (Hand w) how t h = inserted_from_hand how h.hand h
inserted_on_cpu place how t h = record h { value = inserted_anew place how t h.value }

-- a part on the hand and a CPU, and the thread that was chosen so far; a thread that leaves the CPU goes to the hand
abbrev pub part_on_cpu : ℕ → Part → HandAndCpu × Option ℕ → HandAndCpu × Option ℕ
part_on_cpu now (note t place change) (h, into) = (noted_on_cpu place now t change h, into)
part_on_cpu now (move t from to) (h, into) =
    let left = value_leaving from t h.value in (record { hand = thread_in left t; value = value_parted t left }, into)
part_on_cpu now (insert t from how) (h, into) = (inserted_on_cpu from how t h, into)
part_on_cpu now choose (h, into) = let next = chosen_next now h.value in (record h { value = next.0 }, next.1)
part_on_cpu now clear_marks (h, into) = (record h { value = without_marks h.value }, into)
part_on_cpu now count_switch (h, into) =
    (record h { value = record h.value { line = record h.value.line { switches = one_more h.value.line.switches } } }, into)
part_on_cpu now (mark_if takes) (h, into) = (record h { value = record h.value { line = marked_if takes h.value.line } }, into)
part_on_cpu now (end_slice_if ended) (h, into) = (record h { value = record h.value { line = marked_at_end ended h.value.line } }, into)
part_on_cpu now clock (h, into) = (record h { value = value_clocked h.value }, into)

-- parts, one after another
abbrev pub parts_on_cpu : ℕ → List Part → HandAndCpu × Option ℕ → HandAndCpu × Option ℕ
parts_on_cpu now [] at = at
parts_on_cpu now (p ∷ ps) at = parts_on_cpu now ps (part_on_cpu now p at)

-- an action on the hand and a CPU
abbrev pub action_on_cpu : ℕ → Action → HandAndCpu → HandAndCpu × Reply
action_on_cpu now a h = let done = parts_on_cpu now a.parts (h, None) in (done.0, a.reply done.1)

-- ---- on a sleep chain and in limbo

-- the worker's hand, and the threads with places under the lock, by number
pub record HandAndSlots : Type 0 where
  pub hand : Option ThreadRecord
  pub slots : List (Option Standing)

-- a thread with its place, its record changed
abbrev pub standing_after : Settings → ℕ → RecordChange → Standing → Standing
standing_after settings now change s = record s { thread = record_after settings now change s.thread }

-- these with the record of thread t changed
abbrev pub with_noted : Settings → ℕ → ℕ → RecordChange → List (Option Standing) → List (Option Standing)
with_noted settings now t change slots = slice_set slots t (option_map (standing_after settings now change) (standing_in slots t))

-- the record of thread t changes in the hand, or else under the lock
abbrev pub noted_in_slots : Place → Settings → ℕ → ℕ → RecordChange → HandAndSlots → HandAndSlots
noted_in_slots (Hand w) settings now t change h = record h { hand = option_map (record_after settings now change) h.hand }
noted_in_slots place settings now t change h = record h { slots = with_noted settings now t change h.slots }

-- this thread comes from the hand to a place under the lock
abbrev pub put_down : Place → Option ThreadRecord → HandAndSlots → HandAndSlots
put_down to None h = h
put_down to (Some r) h = record { hand = None; slots = with_standing r to h.slots }

-- thread t goes from under the lock to the hand
abbrev pub picked_up : ℕ → HandAndSlots → HandAndSlots
picked_up t h = record { hand = thread_standing (standing_in h.slots t); slots = without_standing t h.slots }

-- thread t goes from the hand to a place under the lock, or else from under the lock to the hand
abbrev pub moved_in_slots : Place → Place → ℕ → HandAndSlots → HandAndSlots
moved_in_slots (Hand w) to t h = put_down to h.hand h
moved_in_slots place to t h = picked_up t h

-- a part on the hand and the threads under the lock: the parts of a CPU do nothing
abbrev pub part_in_slots : Settings → ℕ → Part → HandAndSlots → HandAndSlots
part_in_slots settings now (note t place change) h = noted_in_slots place settings now t change h
part_in_slots settings now (move t from to) h = moved_in_slots from to t h
part_in_slots settings now p h = h

-- parts, one after another
abbrev pub parts_in_slots : Settings → ℕ → List Part → HandAndSlots → HandAndSlots
parts_in_slots settings now [] h = h
parts_in_slots settings now (p ∷ ps) h = parts_in_slots settings now ps (part_in_slots settings now p h)

-- an action on the hand and the threads under the lock
abbrev pub action_in_slots : Settings → ℕ → Action → HandAndSlots → HandAndSlots × Reply
action_in_slots settings now a h = (parts_in_slots settings now a.parts h, a.reply None)
