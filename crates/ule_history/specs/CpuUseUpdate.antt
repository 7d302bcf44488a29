use Rattle.std.specs.Prelude.{◌≡◌, ℕ, ◌+◌, ◌-◌, ◌*◌, ◌/◌, ◌≤◌, Bool, nat_le, if◌then◌else◌}
use Rattle.ule_history.specs.declared.CpuUse.{CpuUse}
use Rattle.ule_history.specs.declared.TheConstants.{SCHED_TICK_TARG, SCHED_TICK_MAX}

-- the window begun anew ten seconds before now, with this many ticks
unfoldable pub windowed_use : CpuUse → ℕ → ℕ → CpuUse
windowed_use u now ticks = record u { ticks = ticks; ftick = now - SCHED_TICK_TARG }

-- the ticks of the old window that the new one keeps, at the old window's mean rate
unfoldable pub kept_ticks : CpuUse → ℕ → ℕ
kept_ticks u now = u.ticks / (u.ltick - u.ftick) * (u.ltick - (now - SCHED_TICK_TARG))

-- emptied after ten seconds without an update, slid where it spans eleven seconds, and left alone else
unfoldable pub slid_use : CpuUse → ℕ → CpuUse
slid_use u now =
    if nat_le SCHED_TICK_TARG (now - u.ltick) then windowed_use u now 0
    else if nat_le SCHED_TICK_MAX (now - u.ftick) then windowed_use u now (kept_ticks u now)
    else u

-- the ticks of the time since the last update, if the thread ran in it
unfoldable pub ran_ticks : CpuUse → ℕ → Bool → ℕ
ran_ticks u now running = if running then 1024 * (now - u.ltick) else 0

-- the use at now: the window slid, the ticks since the last update added, and now noted
unfoldable pub updated_use : CpuUse → ℕ → Bool → CpuUse
updated_use u now running = record {
  ticks = (slid_use u now).ticks + ran_ticks u now running;
  ltick = now;
  ftick = (slid_use u now).ftick;
}

-- the bounds that every use keeps: its window ends no earlier than it begins, and no more ticks
-- were counted than there was time
pub record IsBoundedUse (u : CpuUse) : Type 0 where
  pub ordered : u.ftick ≤ u.ltick
  pub within : u.ticks ≤ 1024 * u.ltick

-- the law: a bounded use is bounded after an update at a later time, and that time is noted
abbrev pub CpuUseUpdateIsBounded : Type 0
CpuUseUpdateIsBounded =
    (u : CpuUse) (now : ℕ) (running : Bool) → IsBoundedUse u → u.ltick ≤ now →
    IsBoundedUse (updated_use u now running) × ((updated_use u now running).ltick ≡ now)
