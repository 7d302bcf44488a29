use Rattle.std.specs.Prelude.{ℕ, ◌+◌, ◌*◌, ◌/◌, ◌<◌, nat_lt, if◌then◌else◌}
use Rattle.ule_history.specs.declared.History.{History}
use Rattle.ule_history.specs.declared.TheConstants.{SCHED_SLP_RUN_FORK}

-- both sides divided by a number
unfoldable pub divided_history : History → ℕ → History
divided_history h ratio = record { run = h.run / ratio; slept = h.slept / ratio }

-- a child's history: above half a second, both sides divided by the half seconds in their sum
unfoldable pub child_history : History → History
child_history h =
    if nat_lt SCHED_SLP_RUN_FORK (h.run + h.slept)
    then divided_history h ((h.run + h.slept) / SCHED_SLP_RUN_FORK)
    else h

-- the law: whatever its parent's history is, a child begins with less than one second
abbrev pub ForkDecayIsBounded : Type 0
ForkDecayIsBounded =
    (h : History) → (child_history h).run + (child_history h).slept < 2 * SCHED_SLP_RUN_FORK
