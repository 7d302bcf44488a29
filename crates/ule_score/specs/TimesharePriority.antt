-- The priority of a timeshare thread, after sched_priority.
use Rattle.std.specs.Prelude.{ℕ, ℤ, pos, negsuc, ◌+ℤ◌, ◌≤ℤ◌, ◌+◌, ◌-◌, ◌*◌, ◌/◌, ◌<◌, ◌≤◌, nat_lt, min, max, if◌then◌else◌}
use Rattle.ule_history.specs.declared.History.{History}
use Rattle.ule_history.specs.declared.CpuUse.{CpuUse}
use Rattle.ule_score.specs.Score.{score_of}

-- a number, or 0 where it is negative
abbrev pub at_least_zero : ℤ → ℕ
at_least_zero (pos n) = n
at_least_zero (negsuc n) = 0

-- how many 32nds of its window a thread ran, where the window counts as a second at least
unfoldable pub use_steps : CpuUse → ℕ
use_steps u = u.ticks / 1024 / ((max (u.ltick - u.ftick) 1000 + 31) / 32)

-- the priority of a batch thread: 172, worse by its use, up to 31, and by its nice value
unfoldable pub batch_priority : CpuUse → ℤ → ℕ
batch_priority u nice = at_least_zero (pos (172 + min (use_steps u) 31) +ℤ nice)

-- the priority of a thread with this score, to which its nice value is added
unfoldable pub priority_at : ℕ → CpuUse → ℤ → ℕ → ℕ
priority_at score u nice threshold =
    if nat_lt score threshold then 120 + 32 / threshold * score else batch_priority u nice

-- the timeshare priority
unfoldable pub timeshare_priority : History → CpuUse → ℤ → ℕ → ℕ
timeshare_priority h u nice threshold =
    priority_at (at_least_zero (pos (score_of h threshold) +ℤ nice)) u nice threshold

-- the nice values
abbrev pub IsNice : ℤ → Type 0
IsNice nice = (negsuc 19 ≤ℤ nice) × (nice ≤ℤ pos 20)

-- the law: a timeshare priority lies in the timeshare range
abbrev pub TimesharePriorityIsBounded : Type 0
TimesharePriorityIsBounded =
    (h : History) (u : CpuUse) (nice : ℤ) (threshold : ℕ) → IsNice nice →
    (120 ≤ timeshare_priority h u nice threshold) × (timeshare_priority h u nice threshold ≤ 223)

-- the law: it is interactive where score and nice value come to less than the threshold, and batch else
abbrev pub TimesharePrioritySplits : Type 0
TimesharePrioritySplits =
    (h : History) (u : CpuUse) (nice : ℤ) (threshold : ℕ) → IsNice nice →
    let sum = at_least_zero (pos (score_of h threshold) +ℤ nice) in
    (sum < threshold → timeshare_priority h u nice threshold ≤ 151) ×
    (threshold ≤ sum → 152 ≤ timeshare_priority h u nice threshold)
