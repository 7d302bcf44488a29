use Rattle.std.specs.Prelude.{ℕ, ◌-◌, ◌/◌, ◌≤◌, min, max}
use Rattle.ule_slice.specs.declared.TheConstants.{SCHED_SLICE_MIN_DIVISOR}

-- the least slice: a sixth of the full one
unfoldable pub min_slice_of : ℕ → ℕ
min_slice_of full = full / SCHED_SLICE_MIN_DIVISOR

-- the full slice divided among the other threads, of which 1 to 6 count
unfoldable pub slice_of : ℕ → ℕ → ℕ
slice_of load full = full / min SCHED_SLICE_MIN_DIVISOR (max 1 (load - 1))

-- the law: a slice lies between the least one, which is not 0, and the full one
abbrev pub SliceIsBounded : Type 0
SliceIsBounded =
    (load full : ℕ) → 6 ≤ full →
    (1 ≤ min_slice_of full) × (min_slice_of full ≤ slice_of load full) × (slice_of load full ≤ full)
