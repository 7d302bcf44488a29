-- Scheduling classes and their base priorities, after priority.h.
use Rattle.std.specs.Prelude.{ℕ, Bool, false, nat_le, ◌&&◌}
use Rattle.ule_prio.specs.declared.class.Class.{Class}
use Rattle.ule_prio.specs.declared.class.Class.TheVariants.{Ithd, Rt, Fifo, Ts, Idle}
use Rattle.ule_prio.specs.declared.ranges.TheConstants.{PRI_MIN_ITHD, PRI_MAX_ITHD, PRI_MIN_REALTIME, PRI_MAX_REALTIME, PRI_MIN_IDLE}

-- whether a number lies in a range, both ends included
abbrev pub is_within : ℕ → ℕ → ℕ → Bool
is_within low high n = nat_le low n && nat_le n high

-- whether a thread of a class may be declared with a base priority; that of a timeshare thread is computed
abbrev pub is_base_of : Class → ℕ → Bool
is_base_of Ithd p = is_within PRI_MIN_ITHD PRI_MAX_ITHD p
is_base_of Rt p = is_within PRI_MIN_REALTIME PRI_MAX_REALTIME p
is_base_of Fifo p = is_within PRI_MIN_REALTIME PRI_MAX_REALTIME p
is_base_of Ts p = false
is_base_of Idle p = nat_le PRI_MIN_IDLE p
