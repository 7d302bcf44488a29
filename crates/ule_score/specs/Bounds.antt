-- What every record keeps.
use Rattle.std.specs.Prelude.{◌≡◌, ℕ, ◌^◌, ◌<◌, ◌≤◌, Bool, Option, Some, None, min}
use Rattle.ule_history.specs.declared.CpuUse.{CpuUse}
use Rattle.ule_history.specs.declared.History.{History}
use Rattle.ule_history.specs.CpuUseUpdate.{IsBoundedUse, updated_use}
use Rattle.ule_history.specs.ForkDecay.{child_history}
use Rattle.ule_history.specs.HistoryUpdate.{IsBoundedHistory, charged_history, rested_history}
use Rattle.ule_prio.specs.declared.class.Class.TheVariants.{Ts}
use Rattle.ule_score.specs.TimesharePriority.{IsNice, timeshare_priority}
use Rattle.ule_score.specs.declared.record.ThreadRecord.{ThreadRecord}

-- the change rule's number: the base priority, or the lent one where that is better
abbrev pub better_of : ℕ → Option ℕ → ℕ
better_of base None = base
better_of base (Some lent) = min base lent

-- the bounds of one record
pub record KeepsBounds (r : ThreadRecord) : Type 0 where
  pub history : IsBoundedHistory r.hist
  pub usage : IsBoundedUse r.usage
  pub ltick : r.usage.ltick < 2 ^ 36
  pub slept_at : r.slept_at < 2 ^ 36
  pub last_run : r.last_run < 2 ^ 36
  pub slice_count : r.slice_count ≤ 1000
  pub priority : r.priority ≡ better_of r.base r.lent
  pub low : r.class ≡ Ts → 120 ≤ r.base
  pub high : r.class ≡ Ts → r.base ≤ 223

-- the record with another history
abbrev pub with_history : ThreadRecord → History → ThreadRecord
with_history r h = record r { hist = h }

-- the record with another CPU use
abbrev pub with_use : ThreadRecord → CpuUse → ThreadRecord
with_use r u = record r { usage = u }

-- the record with another base priority, by the change rule
abbrev pub with_base : ThreadRecord → ℕ → ThreadRecord
with_base r base = record r { base = base; priority = better_of base r.lent }

-- the record with this priority lent to it, or none, by the change rule
abbrev pub with_lent : ThreadRecord → Option ℕ → ThreadRecord
with_lent r lent = record r { lent = lent; priority = better_of r.base lent }

-- the law: the change rule's number is the lent priority where that is lower, and the base priority else
abbrev pub BetterOfIsLower : Type 0
BetterOfIsLower =
    (base lent : ℕ) →
    (lent < base → better_of base (Some lent) ≡ lent) × (base ≤ lent → better_of base (Some lent) ≡ base)

-- the law: the bounds last over a history update and over a fork decay
abbrev pub KeepsBoundsAtHistories : Type 0
KeepsBoundsAtHistories =
    (r : ThreadRecord) (n : ℕ) → KeepsBounds r →
    KeepsBounds (with_history r (charged_history r.hist n)) × KeepsBounds (with_history r (rested_history r.hist n)) ×
    KeepsBounds (with_history r (child_history r.hist))

-- the law: they last over a CPU-use update at a later time
abbrev pub KeepsBoundsAtUses : Type 0
KeepsBoundsAtUses =
    (r : ThreadRecord) (now : ℕ) (running : Bool) → KeepsBounds r → r.usage.ltick ≤ now → now < 2 ^ 36 →
    KeepsBounds (with_use r (updated_use r.usage now running))

-- the law: they last where the base priority is computed anew, at every nice value
abbrev pub KeepsBoundsAtBases : Type 0
KeepsBoundsAtBases =
    (r : ThreadRecord) (threshold : ℕ) → KeepsBounds r → IsNice r.nice →
    KeepsBounds (with_base r (timeshare_priority r.hist r.usage r.nice threshold))

-- the law: they last where a priority is lent or taken back
abbrev pub KeepsBoundsAtLoans : Type 0
KeepsBoundsAtLoans = (r : ThreadRecord) (lent : Option ℕ) → KeepsBounds r → KeepsBounds (with_lent r lent)

-- the law: they last where the slice count and the times of sleep and run are set within them
abbrev pub KeepsBoundsAtTimes : Type 0
KeepsBoundsAtTimes =
    (r : ThreadRecord) (count slept_at last_run : ℕ) → KeepsBounds r →
    count ≤ 1000 → slept_at < 2 ^ 36 → last_run < 2 ^ 36 →
    KeepsBounds (record r { slice_count = count; slept_at = slept_at; last_run = last_run })
