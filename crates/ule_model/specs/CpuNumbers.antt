-- What a look at a CPU sees, after the fields of struct tdq that cpu_search reads: its load, how many of its queued
-- threads are not bound, and its low priority. It is told of a side of a world, and of a CPU's value.
use Rattle.std.specs.Prelude.{ℕ, Bool, true, false, is_none, ◌&&◌, List, count_by, min, slice_index_or, slice_set, Option, Some, None, option_and_then}
use Rattle.std.specs.Option.{option_map}
use Rattle.ule_score.specs.declared.record.ThreadRecord.{ThreadRecord}
use Rattle.ule_topo.specs.declared.look.Summary.{Summary}
use Rattle.ule_model.specs.Choice.{choice_of}
use Rattle.ule_model.specs.CpuValue.{CpuValue, current_in, first_in, thread_in}
use Rattle.ule_model.specs.Landing.{current_priority, current_record}
use Rattle.ule_model.specs.Places.{waits_on}
use Rattle.ule_model.specs.Tick.{load_of}
use Rattle.ule_model.specs.World.{Member, Side}

-- ---- of a side of a world

-- movable count: how many threads are queued on CPU c and not bound
abbrev pub movable_of : ℕ → List Member → ℕ
movable_of c members = count_by (λ m. waits_on c m.place && is_none m.thread.bound) members

-- low priority: the better of the current thread's and the choice's, each of them 255 where there is none
abbrev pub low_priority_of : ℕ → ℕ → List Member → ℕ
low_priority_of c ridx members =
    min (current_priority (current_record c members)) (current_priority (option_map (λ m. m.thread) (choice_of c ridx members)))

-- what a look at CPU c sees
abbrev pub summary_of : ℕ → Side → Summary
summary_of c s = record {
  load = load_of c s.members;
  movable = movable_of c s.members;
  lowpri = low_priority_of c s.line.ridx s.members;
}

-- the side with the mark set that asks for a switch
abbrev pub with_mark : Side → Side
with_mark s = record s { line = record s.line { resched = true } }

-- ---- of a CPU's value

-- whether there is a record here, of a thread that is not bound
abbrev pub is_unbound : Option ThreadRecord → Bool
is_unbound None = false
is_unbound (Some r) = is_none r.bound

-- the records of all threads but the current one
abbrev pub records_but : Option ℕ → List (Option ThreadRecord) → List (Option ThreadRecord)
records_but None threads = threads
records_but (Some t) threads = slice_set threads t None

-- the records of the queued threads
abbrev pub queued_records : CpuValue → List (Option ThreadRecord)
queued_records v = records_but v.current v.threads

-- whether thread t is queued and not bound
abbrev pub is_movable : CpuValue → ℕ → Bool
is_movable v t = is_unbound (slice_index_or (queued_records v) t None)

-- how many threads are queued and not bound
abbrev pub movable_in : CpuValue → ℕ
movable_in v = count_by is_unbound (queued_records v)

-- the record of the thread whose turn comes first
abbrev pub next_record : CpuValue → Option ThreadRecord
next_record v = option_and_then (λ first. thread_in v first.1) (first_in v)

-- the better of the priorities of the current thread and of the next, each of them 255 where there is none
abbrev pub low_priority_in : CpuValue → ℕ
low_priority_in v = min (current_priority (current_in v)) (current_priority (next_record v))

-- what a look at the CPU sees
abbrev pub value_summary : CpuValue → Summary
value_summary v = record { load = v.load; movable = movable_in v; lowpri = low_priority_in v }

-- the CPU with the mark set that asks for a switch
abbrev pub value_marked : CpuValue → CpuValue
value_marked v = record v { line = record v.line { resched = true } }
