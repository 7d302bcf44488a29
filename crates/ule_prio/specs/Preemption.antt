-- The preemption test, after sched_shouldpreempt.
use Rattle.std.specs.Prelude.{ℕ, Bool, nat_lt, nat_le, not, ◌==◌, ◌&&◌, ◌||◌}
use Rattle.ule_prio.specs.declared.ranges.TheConstants.{PRI_MAX_INTERACT, PRI_MIN_IDLE}

-- an interactive priority against one that is not, asked from another CPU
abbrev pub crosses_interactive : ℕ → ℕ → Bool → Bool
crosses_interactive p q remote = remote && nat_le p PRI_MAX_INTERACT && nat_lt PRI_MAX_INTERACT q

-- whether priority p takes the processor from priority q: it is better, and q is idle or the threshold lets it
abbrev pub takes_over : ℕ → ℕ → Bool → ℕ → Bool
takes_over p q remote threshold =
    nat_lt p q && (nat_le PRI_MIN_IDLE q ||
    (not (threshold == 0) && (nat_le p threshold || crosses_interactive p q remote)))
