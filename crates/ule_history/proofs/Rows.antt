-- Worked values of the rules by which a history and a CPU use change, by computing.
use Rattle.std.proofs.Common.{◌≡◌, ℕ, true, false, refl}
use Rattle.ule_history.specs.CpuUseUpdate.{kept_ticks, ran_ticks, slid_use, updated_use, windowed_use}
use Rattle.ule_history.specs.ForkDecay.{child_history, divided_history}
use Rattle.ule_history.specs.HistoryUpdate.{capped_history, charged_history, rested_history, updated_history}
use Rattle.ule_history.specs.declared.CpuUse.{CpuUse}
use Rattle.ule_history.specs.declared.History.{History}

-- ---- the history update

-- the history with these run and sleep times
abbrev history : ℕ → ℕ → History
history run slept = record { run = run; slept = slept }

-- at a sum of just the maximum, both sides are scaled down to four fifths, after running as after sleeping
scaled_at_the_maximum :
    (charged_history (history 1000000 4120000) 0 ≡ history 800000 3296000) ×
    (rested_history (history 4120000 1000000) 0 ≡ history 3296000 800000)
unfolding updated_history
scaled_at_the_maximum = (refl, refl)

-- above twice the maximum, the longer side keeps the maximum and the other side 1, whichever it is
capped_above_twice_the_maximum :
    (charged_history (history 10240000 1) 0 ≡ history 5120000 1) ×
    (rested_history (history 1 10240000) 0 ≡ history 1 5120000)
unfolding updated_history capped_history
capped_above_twice_the_maximum = (refl, refl)

-- a time of 120000 more brings the sum to the maximum, and the side that grew to four fifths
scaled_where_it_reaches_the_maximum :
    (charged_history (history 5000000 0) 120000 ≡ history 4096000 0) ×
    (rested_history (history 0 5000000) 120000 ≡ history 0 4096000)
unfolding updated_history
scaled_where_it_reaches_the_maximum = (refl, refl)

-- a sum of one less than the maximum is not scaled
unscaled_below_the_maximum :
    (charged_history (history 5000000 0) 119999 ≡ history 5119999 0) ×
    (rested_history (history 0 5000000) 119999 ≡ history 0 5119999)
unfolding updated_history
unscaled_below_the_maximum = (refl, refl)

-- ---- the fork decay

-- three half seconds in the sum divide both sides by 3, rounded down
divided_by_half_seconds : child_history (history 1024000 512000) ≡ history 341333 170666
unfolding child_history divided_history
divided_by_half_seconds = refl

-- a sum of just half a second is kept, and so is one of just less than a second, which is divided by 1
kept_below_a_second :
    (child_history (history 512000 0) ≡ history 512000 0) ×
    (child_history (history 0 1023999) ≡ history 0 1023999)
unfolding child_history divided_history
kept_below_a_second = (refl, refl)

-- ---- the CPU-use update

-- the use with these ticks in the window from ftick to ltick
abbrev cpu_use : ℕ → ℕ → ℕ → CpuUse
cpu_use ticks ltick ftick = record { ticks = ticks; ltick = ltick; ftick = ftick }

-- after ten seconds without an update, a thread that ran has the ticks of all ten, and one that did not has none
emptied_after_ten_seconds :
    (updated_use (cpu_use 0 20000 20000) 30000 true ≡ cpu_use 10240000 30000 20000) ×
    (updated_use (cpu_use 0 20000 20000) 30000 false ≡ cpu_use 0 30000 20000)
unfolding updated_use slid_use windowed_use ran_ticks
emptied_after_ten_seconds = (refl, refl)

-- a window that began eleven seconds ago is slid by one of them, and keeps its mean ticks for the rest
slid_after_eleven_seconds : updated_use (cpu_use 5250000 30500 20000) 31000 true ≡ cpu_use 5262000 31000 21000
unfolding updated_use slid_use windowed_use kept_ticks ran_ticks
slid_after_eleven_seconds = refl
