-- The threads that run or wait on a CPU: their records by number, and which of them runs.
use Rattle.std.specs.Prelude.{◌≡◌, ℕ, List, count_by, length, slice_index_or, Option, None}
use Rattle.ule_model.specs.CpuNumbers.{is_unbound, records_but}
use Rattle.ule_runq.specs.Set.{has}
use Rattle.ule_score.specs.declared.record.ThreadRecord.{ThreadRecord}
use Rattle.ule_tdq.specs.declared.threads.CpuThreads.TheInside.{Inside}

-- the records by number, and the number of the current thread
pub record CpuThreadsValue : Type 0 where
  pub records : List (Option ThreadRecord)
  pub current : Option ℕ

-- the value that clauses see
abbrev pub threads_of : Inside → CpuThreadsValue
threads_of d = record { records = d.records; current = d.current }

-- this set has the threads of the records in a table that are not bound
abbrev pub HasUnbound : List ℕ → List (Option ThreadRecord) → Type 0
HasUnbound set slots = (t : ℕ) → has set t ≡ is_unbound (slice_index_or slots t None)

-- what the fields keep: the set has the queued threads that are not bound, and the count is of all that are not bound
pub record KeepsThreads (d : Inside) : Type 0 where
  pub slots : length d.records ≡ 256
  pub movable : HasUnbound d.movable (records_but d.current d.records)
  pub unbound : d.unbound ≡ count_by is_unbound d.records
