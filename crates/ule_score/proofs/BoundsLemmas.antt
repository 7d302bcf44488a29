-- What keeps the bounds of a record.
use Rattle.std.proofs.Common.{◌≡◌, ℕ, ◌^◌, ◌<◌, ◌≤◌, refl, subst, sym, arith}
use Rattle.ule_history.proofs.CpuUseUpdateLemmas.{IsBoundedUse-updated_use}
use Rattle.ule_history.proofs.ForkDecayLemmas.{child_history-lt}
use Rattle.ule_history.proofs.HistoryUpdateLemmas.{IsBoundedHistory-updated_history}
use Rattle.ule_history.specs.CpuUseUpdate.{IsBoundedUse, updated_use}
use Rattle.ule_history.specs.HistoryUpdate.{IsBoundedHistory}
use Rattle.ule_history.specs.declared.CpuUse.{CpuUse}
use Rattle.ule_history.specs.declared.History.{History}
use Rattle.ule_prio.specs.declared.class.Class.TheVariants.{Ts}
use Rattle.ule_score.proofs.TimesharePriorityLemmas.{timeshare_priority-bounds}
use Rattle.ule_score.specs.Bounds.{KeepsBounds, with_history, with_use, with_base, BetterOfIsLower, KeepsBoundsAtHistories, KeepsBoundsAtUses, KeepsBoundsAtBases, KeepsBoundsAtLoans, KeepsBoundsAtTimes}
use Rattle.ule_score.specs.declared.record.ThreadRecord.{ThreadRecord}

-- the change rule's number is the lower of the two
pub better_of-lower : BetterOfIsLower
better_of-lower base lent = (λ lower. omega arith, λ higher. omega arith)

-- a record keeps its bounds with another bounded history
pub KeepsBounds-with_history : (r : ThreadRecord) (h : History) → KeepsBounds r → IsBoundedHistory h → KeepsBounds (with_history r h)
KeepsBounds-with_history r h kept bounded = record {
  history = bounded;
  usage = kept.usage;
  ltick = kept.ltick;
  slept_at = kept.slept_at;
  last_run = kept.last_run;
  slice_count = kept.slice_count;
  priority = kept.priority;
  low = kept.low;
  high = kept.high;
}

-- a record keeps its bounds with another bounded use of an update in range
pub KeepsBounds-with_use : (r : ThreadRecord) (u : CpuUse) → KeepsBounds r → IsBoundedUse u → u.ltick < 2 ^ 36 → KeepsBounds (with_use r u)
KeepsBounds-with_use r u kept bounded in_time = record {
  history = kept.history;
  usage = bounded;
  ltick = in_time;
  slept_at = kept.slept_at;
  last_run = kept.last_run;
  slice_count = kept.slice_count;
  priority = kept.priority;
  low = kept.low;
  high = kept.high;
}

-- a record keeps its bounds with another base priority, of the timeshare range where the class is timeshare
pub KeepsBounds-with_base : (r : ThreadRecord) (base : ℕ) → KeepsBounds r →
    (r.class ≡ Ts → 120 ≤ base) → (r.class ≡ Ts → base ≤ 223) → KeepsBounds (with_base r base)
KeepsBounds-with_base r base kept low high = record {
  history = kept.history;
  usage = kept.usage;
  ltick = kept.ltick;
  slept_at = kept.slept_at;
  last_run = kept.last_run;
  slice_count = kept.slice_count;
  priority = refl;
  low = low;
  high = high;
}

-- a record keeps its bounds after a history update, by running or sleeping, and after a fork decay
pub KeepsBounds-histories : KeepsBoundsAtHistories
KeepsBounds-histories r n kept = (
  KeepsBounds-with_history r _ kept (IsBoundedHistory-updated_history _),
  KeepsBounds-with_history r _ kept (IsBoundedHistory-updated_history _),
  KeepsBounds-with_history r _ kept (let child = child_history-lt r.hist in omega arith),
)

-- a record keeps its bounds after a CPU-use update
pub KeepsBounds-uses : KeepsBoundsAtUses
KeepsBounds-uses r now running kept past in_time =
    let after = IsBoundedUse-updated_use r.usage now running kept.usage past in
    KeepsBounds-with_use r (updated_use r.usage now running) kept after.0 (subst (λ t. t < 2 ^ 36) (sym after.1) in_time)

-- a record keeps its bounds with a computed base priority
pub KeepsBounds-bases : KeepsBoundsAtBases
KeepsBounds-bases r threshold kept nice =
    let bounds = timeshare_priority-bounds r.hist r.usage r.nice threshold nice in
    KeepsBounds-with_base r _ kept (λ class. bounds.0) (λ class. bounds.1)

-- a record keeps its bounds with another lent priority
pub KeepsBounds-loans : KeepsBoundsAtLoans
KeepsBounds-loans r lent kept = record {
  history = kept.history;
  usage = kept.usage;
  ltick = kept.ltick;
  slept_at = kept.slept_at;
  last_run = kept.last_run;
  slice_count = kept.slice_count;
  priority = refl;
  low = kept.low;
  high = kept.high;
}

-- a record keeps its bounds with other times and another slice count
pub KeepsBounds-times : KeepsBoundsAtTimes
KeepsBounds-times r count slept_at last_run kept few asleep ran = record {
  history = kept.history;
  usage = kept.usage;
  ltick = kept.ltick;
  slept_at = asleep;
  last_run = ran;
  slice_count = few;
  priority = kept.priority;
  low = kept.low;
  high = kept.high;
}
