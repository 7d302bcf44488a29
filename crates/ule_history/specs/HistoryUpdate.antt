use Rattle.std.specs.Prelude.{ℕ, ◌+◌, ◌*◌, ◌/◌, ◌≤◌, nat_lt, if◌then◌else◌}
use Rattle.ule_history.specs.declared.History.{History}
use Rattle.ule_history.specs.declared.TheConstants.{SCHED_SLP_RUN_MAX}

-- more than twice the maximum: the longer side keeps the maximum, and the other side 1
unfoldable pub capped_history : History → History
capped_history h =
    if nat_lt h.slept h.run
    then record { run = SCHED_SLP_RUN_MAX; slept = 1 }
    else record { run = 1; slept = SCHED_SLP_RUN_MAX }

-- at least the maximum: capped, halved above six fifths of it, and four fifths of each side else
unfoldable pub updated_history : History → History
updated_history h =
    if nat_lt (h.run + h.slept) SCHED_SLP_RUN_MAX then h
    else if nat_lt (2 * SCHED_SLP_RUN_MAX) (h.run + h.slept) then capped_history h
    else if nat_lt (SCHED_SLP_RUN_MAX / 5 * 6) (h.run + h.slept)
    then record { run = h.run / 2; slept = h.slept / 2 }
    else record { run = h.run / 5 * 4; slept = h.slept / 5 * 4 }

-- the history after n more of running
abbrev pub charged_history : History → ℕ → History
charged_history h n = updated_history (record h { run = h.run + n })

-- the history after n more of sleeping
abbrev pub rested_history : History → ℕ → History
rested_history h n = updated_history (record h { slept = h.slept + n })

-- the bound that every history keeps: run and slept together are at most 5,120,001
abbrev pub IsBoundedHistory : History → Type 0
IsBoundedHistory h = h.run + h.slept ≤ SCHED_SLP_RUN_MAX + 1

-- the law: whatever the history was, it is bounded after an update
abbrev pub HistoryUpdateIsBounded : Type 0
HistoryUpdateIsBounded = (h : History) → IsBoundedHistory (updated_history h)
