-- What a CPU keeps, and what its calls need.
use Rattle.std.specs.Prelude.{◌≡◌, ℕ, ◌+◌, Option, Some, None, IfSome, IsTrue, length, sum_by}
use Rattle.ule_model.specs.CpuValue.{CpuValue, thread_in}
use Rattle.ule_runq.specs.Runq.{times}
use Rattle.ule_tdq.specs.Queues.{once_for}
use Rattle.ule_score.specs.Bounds.{KeepsBounds}
use Rattle.ule_score.specs.declared.record.ThreadRecord.{ThreadRecord}
use Rattle.ule_score.specs.Settings.{are_settings}

-- once for the current thread, and not at all for another
abbrev pub times_current : Option ℕ → ℕ → ℕ
times_current None u = 0
times_current (Some t) u = once_for t u

-- in how many of its places a CPU has thread t
abbrev pub times_on : CpuValue → ℕ → ℕ
times_on v t = times_current v.current t + (times v.real t + times v.batch t + times v.idle t)

-- once where there is a record, and not at all where there is none
abbrev pub once_if : Option ThreadRecord → ℕ
once_if None = 0
once_if (Some r) = 1

-- a record of thread t
pub record IsRecordOf (t : ℕ) (r : ThreadRecord) : Type 0 where
  pub number : r.id ≡ t
  pub bounds : KeepsBounds r

-- what every CPU keeps: each thread that has a record stands in one place, and no other does,
-- and there are as many as the load says
pub record KeepsCpu (v : CpuValue) : Type 0 where
  pub settings : IsTrue (are_settings v.settings)
  pub slots : length v.threads ≡ 256
  pub places : (t : ℕ) → times_on v t ≡ once_if (thread_in v t)
  pub load : v.load ≡ sum_by once_if v.threads
  pub records : (t : ℕ) → IfSome (thread_in v t) (IsRecordOf t)
