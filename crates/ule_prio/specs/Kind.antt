-- Queue kinds, after tdq_runq_add.
use Rattle.std.specs.Prelude.{ℕ, nat_lt, if◌then◌else◌}
use Rattle.ule_prio.specs.declared.kind.Kind.{Kind}
use Rattle.ule_prio.specs.declared.kind.Kind.TheVariants.{Real, Batch, Idle}
use Rattle.ule_prio.specs.declared.ranges.TheConstants.{PRI_MIN_BATCH, PRI_MIN_IDLE}

-- the queue in which a thread of a priority waits
abbrev pub kind_at : ℕ → Kind
kind_at p = if nat_lt p PRI_MIN_BATCH then Real else (if nat_lt p PRI_MIN_IDLE then Batch else Idle)
