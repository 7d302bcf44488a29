-- Worked values of the score, the timeshare priority and the change rule, by computing.
use Rattle.std.proofs.Common.{◌≡◌, ℕ, pos, negsuc, Some, None, refl}
use Rattle.ule_history.specs.declared.CpuUse.{CpuUse}
use Rattle.ule_history.specs.declared.History.{History}
use Rattle.ule_score.specs.Bounds.{better_of}
use Rattle.ule_score.specs.Score.{score_of}
use Rattle.ule_score.specs.TimesharePriority.{batch_priority, priority_at, timeshare_priority, use_steps}

-- the history with these run and sleep times
abbrev history : ℕ → ℕ → History
history run slept = record { run = run; slept = slept }

-- the use with these ticks in the window from ftick to ltick
abbrev cpu_use : ℕ → ℕ → ℕ → CpuUse
cpu_use ticks ltick ftick = record { ticks = ticks; ltick = ltick; ftick = ftick }

-- ---- the interactivity score

-- a thread that runs as much as it sleeps scores 50, or 0 where it did neither
balanced_scores : (score_of (history 7 7) 60 ≡ 50) × (score_of (history 0 0) 60 ≡ 0)
unfolding score_of
balanced_scores = (refl, refl)

-- a threshold of 30 gives 50 at once to a new thread, and to one that runs more than it sleeps
scores_at_once : (score_of (history 0 0) 30 ≡ 50) × (score_of (history 500000 150000) 30 ≡ 50)
unfolding score_of
scores_at_once = (refl, refl)

-- a thread that sleeps more than it runs scores its run time in fiftieths of its sleep time
sleeper_scores : score_of (history 150000 500000) 30 ≡ 15
unfolding score_of
sleeper_scores = refl

-- a thread that runs more than it sleeps scores 100 less its sleep time in fiftieths of its run time
runner_scores : score_of (history 500000 150000) 60 ≡ 85
unfolding score_of
runner_scores = refl

-- ---- the timeshare priority by score and nice value

-- the use of a thread that had no CPU time
abbrev no_use : CpuUse
no_use = cpu_use 0 20000 20000

-- an interactive thread has 120, worse by its score, and no better than that at a nice value of -20
interactive_priorities :
    (timeshare_priority (history 0 512000) no_use (negsuc 19) 30 ≡ 120) ×
    (timeshare_priority (history 150000 500000) no_use (pos 0) 30 ≡ 135) ×
    (timeshare_priority (history 8062 1024000) no_use (pos 0) 30 ≡ 120)
unfolding timeshare_priority priority_at score_of
interactive_priorities = (refl, refl, refl)

-- a nice value of 20 makes a thread of score 15 a batch thread, and a batch priority worse by 20
niced_to_batch : timeshare_priority (history 150000 500000) no_use (pos 20) 30 ≡ 192
unfolding timeshare_priority priority_at score_of batch_priority use_steps
niced_to_batch = refl

-- a new thread is a batch thread of 172, and of 152 at a nice value of -20, which leaves its sum at the threshold of 30
new_threads :
    (timeshare_priority (history 0 0) no_use (pos 0) 30 ≡ 172) ×
    (timeshare_priority (history 0 0) no_use (negsuc 19) 30 ≡ 152)
unfolding timeshare_priority priority_at score_of batch_priority use_steps
new_threads = (refl, refl)

-- ---- the timeshare priority by CPU use

-- a batch thread that ran nearly half of its window has 15 more, and one that ran all of it has 31 more, the most there is
priorities_by_share :
    (timeshare_priority (history 1 0) (cpu_use 5250000 30500 20000) (pos 0) 30 ≡ 187) ×
    (timeshare_priority (history 1 0) (cpu_use 10240000 30000 20000) (pos 0) 30 ≡ 203)
unfolding timeshare_priority priority_at score_of batch_priority use_steps
priorities_by_share = (refl, refl)

-- a window of less than a second counts as a second, and ticks of less than one hz tick count as none
priorities_of_short_windows :
    (timeshare_priority (history 1 0) (cpu_use 65536 20100 20000) (pos 0) 30 ≡ 174) ×
    (timeshare_priority (history 1 0) (cpu_use 1023 20001 20000) (pos 0) 30 ≡ 172)
unfolding timeshare_priority priority_at score_of batch_priority use_steps
priorities_of_short_windows = (refl, refl)

-- ---- the change rule

-- without a lent priority, the base priority is the number
unlent : better_of 172 None ≡ 172
unlent = refl

-- a lent priority is the number where it is better, the base priority where that is better, and either where they are alike
lent_priorities : (better_of 172 (Some 40) ≡ 40) × (better_of 40 (Some 172) ≡ 40) × (better_of 255 (Some 255) ≡ 255)
lent_priorities = (refl, refl, refl)
