-- The two indexes of a batch calendar, after tdq_runq_add, tdq_runq_rem and sched_clock.
use Rattle.std.specs.Prelude.{ℕ, ◌+◌, ◌-◌, ◌*◌, ◌/◌, ◌%◌, Bool, not, ◌==◌, ◌&&◌, if◌then◌else◌}

-- how many buckets ahead of the insertion index a batch priority is filed: 0 to 63 over 152 to 223
abbrev pub reach_of : ℕ → ℕ
reach_of p = 64 * (p - 152) / 72

-- a bucket, or the one before it where it is the removal index and the insertion index is another
abbrev pub short_of_removal : ℕ → ℕ → ℕ → ℕ
short_of_removal idx ridx b = if not (ridx == idx) && (b == ridx) then (b + 63) % 64 else b

-- calendar insertion: the bucket of an ordinary insertion
abbrev pub calendar_bucket : ℕ → ℕ → ℕ → ℕ
calendar_bucket idx ridx p = short_of_removal idx ridx ((reach_of p + idx) % 64)

-- the removal index after a removal, where this says whether its bucket is empty now
abbrev pub ridx_after_removal : ℕ → ℕ → Bool → ℕ
ridx_after_removal idx ridx is_empty = if not (idx == ridx) && is_empty then (ridx + 1) % 64 else ridx

-- the insertion index after a turn of the calendar
abbrev pub idx_after_turn : ℕ → ℕ → ℕ
idx_after_turn idx ridx = if idx == ridx then (idx + 1) % 64 else idx

-- the removal index after a turn, where this says whether its bucket is empty
abbrev pub ridx_after_turn : ℕ → ℕ → Bool → ℕ
ridx_after_turn idx ridx is_empty = if (idx == ridx) && is_empty then (idx + 1) % 64 else ridx

-- how far a bucket lies ahead of the removal index
abbrev pub distance_of : ℕ → ℕ → ℕ
distance_of ridx b = (b + 64 - ridx) % 64
