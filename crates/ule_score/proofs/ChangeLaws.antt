-- What each change of a record keeps: its thread's number, its bounds, its numbers in range, and that what
-- it notes is past.
use Rattle.std.proofs.Common.{◌≡◌, ℕ, ◌+◌, ◌-◌, ◌*◌, ◌^◌, ◌<◌, ◌≤◌, ◌==◌, nat_le, Bool, true, false, if◌then◌else◌, Option, Some, None, refl, subst, sym, arith}
use Rattle.std.proofs.Math.Nat.{min-le_left}
use Rattle.std.proofs.lemmas.Bool.Decides.{nat_tests}
use Rattle.ule_history.proofs.CpuUseUpdateLemmas.{IsBoundedUse-updated_use}
use Rattle.ule_history.proofs.ForkDecayLemmas.{child_history-lt}
use Rattle.ule_history.specs.CpuUseUpdate.{updated_use}
use Rattle.ule_history.specs.ForkDecay.{child_history}
use Rattle.ule_history.specs.HistoryUpdate.{charged_history, rested_history}
use Rattle.ule_history.specs.declared.CpuUse.{CpuUse}
use Rattle.ule_prio.specs.declared.class.Class.{Class}
use Rattle.ule_prio.specs.declared.class.Class.TheVariants.{Ithd, Rt, Fifo, Ts, Idle}
use Rattle.ule_score.proofs.BoundsLemmas.{KeepsBounds-bases, KeepsBounds-histories, KeepsBounds-loans, KeepsBounds-times, KeepsBounds-uses}
use Rattle.ule_score.proofs.TimesharePriorityLemmas.{timeshare_priority-bounds}
use Rattle.ule_score.specs.Bounds.{KeepsBounds, better_of, with_history, with_use}
use Rattle.ule_score.specs.Changes.{ran, runs, sleeps, woken, ticked, placed, changed, forks, forked}
use Rattle.ule_score.specs.Changes.{rebased_in, rebased, used, after_running, rested, after_sleep, tick_length, charged, sliced, charged_in, child_of}
use Rattle.ule_score.specs.Changes.{IsBy, HasSlice, HasNumbers, ChangesLeaveTheNumber, ChangesKeepBounds, ChangesKeepNumbers, ChangesAreByNow}
use Rattle.ule_score.specs.TimesharePriority.{IsNice, timeshare_priority}
use Rattle.ule_score.specs.declared.record.Change.TheVariants.{Lend, Unlend, Renice, Inherit}
use Rattle.ule_score.specs.declared.record.Settings.{Settings}
use Rattle.ule_score.specs.declared.record.ThreadRecord.{ThreadRecord}
use Rattle.ule_slice.proofs.SliceLemmas.{slice_of-bounds}
use Rattle.ule_slice.specs.Slice.{min_slice_of, slice_of}

-- the record with the time that its thread slept, told whether none passed
abbrev rested_if : Bool → ℕ → ThreadRecord → ThreadRecord
rested_if still now r =
    if still then r
    else with_use (with_history r (rested_history r.hist (1024 * (now - r.slept_at)))) (updated_use r.usage now false)

-- the record of a child before its base priority is computed anew
abbrev child_before : Settings → ℕ → ThreadRecord → ℕ → ℕ → ThreadRecord → ThreadRecord
child_before settings now parent c load r = record r {
  parent = Some parent.id;
  class = parent.class;
  nice = parent.nice;
  base = parent.base;
  lent = None;
  priority = parent.base;
  hist = child_history parent.hist;
  usage = updated_use parent.usage now true;
  slice_count = slice_of load settings.slice - min_slice_of settings.slice;
  slept_at = 0;
  last = c;
  last_run = now;
  bound = None;
}

-- ---- the number

-- a base priority computed anew for a class leaves the number
rebased_in_number : (class : Class) (settings : Settings) (r : ThreadRecord) → (rebased_in class settings r).id ≡ r.id
rebased_in_number Ts settings r = refl
rebased_in_number Ithd settings r = refl
rebased_in_number Rt settings r = refl
rebased_in_number Fifo settings r = refl
rebased_in_number Idle settings r = refl

-- a base priority computed anew leaves the number
pub rebased_number : (settings : Settings) (r : ThreadRecord) → (rebased settings r).id ≡ r.id
rebased_number settings r = rebased_in_number r.class settings r

-- what a tick charges to a class leaves the number
charged_in_number : (class : Class) (settings : Settings) (load : ℕ) (r : ThreadRecord) →
    (charged_in class settings load r).0.id ≡ r.id
charged_in_number Ts settings load r = rebased_number settings (with_history r (charged_history r.hist tick_length))
charged_in_number Ithd settings load r = refl
charged_in_number Rt settings load r = refl
charged_in_number Fifo settings load r = refl
charged_in_number Idle settings load r = refl

-- the time slept leaves the number
rested_number : (still : Bool) (now : ℕ) (r : ThreadRecord) → (rested_if still now r).id ≡ r.id
rested_number true now r = refl
rested_number false now r = refl

-- no change changes the number
pub change_number : ChangesLeaveTheNumber
change_number settings now ran r = refl
change_number settings now runs r = refl
change_number settings now sleeps r = refl
change_number settings now woken r =
    subst (λ t. (rebased settings (record (rested now r) { slice_count = 0; slept_at = 0 })).id ≡ t)
    (rested_number (now == r.slept_at) now r)
    (rebased_number settings (record (rested now r) { slice_count = 0; slept_at = 0 }))
change_number settings now (ticked load) r = charged_in_number r.class settings load (used true now r)
change_number settings now (placed c) r = refl
change_number settings now (changed (Lend p)) r = refl
change_number settings now (changed Unlend) r = refl
change_number settings now (changed (Renice n)) r = rebased_number settings (record r { nice = n })
change_number settings now (changed (Inherit run)) r = rebased_number settings (with_history r (charged_history r.hist run))
change_number settings now forks r =
    rebased_number settings (with_history (used true now r) (charged_history r.hist tick_length))
change_number settings now (forked parent c load) r = rebased_number settings (child_before settings now parent c load r)

-- ---- the bounds

-- a base priority computed anew for a class keeps the bounds
rebased_in_bounds : (class : Class) (settings : Settings) (r : ThreadRecord) → KeepsBounds r → IsNice r.nice →
    KeepsBounds (rebased_in class settings r)
rebased_in_bounds Ts settings r kept nice = KeepsBounds-bases r settings.interact kept nice
rebased_in_bounds Ithd settings r kept nice = kept
rebased_in_bounds Rt settings r kept nice = kept
rebased_in_bounds Fifo settings r kept nice = kept
rebased_in_bounds Idle settings r kept nice = kept

-- a base priority computed anew keeps the bounds
pub rebased_bounds : (settings : Settings) (r : ThreadRecord) → KeepsBounds r → IsNice r.nice → KeepsBounds (rebased settings r)
rebased_bounds settings r kept nice = rebased_in_bounds r.class settings r kept nice

-- a slice count after a tick is below the slice, or 0
slice_count_le : (slice count : ℕ) → slice ≤ 1000 → (if nat_le slice (count + 1) then 0 else count + 1) ≤ 1000
slice_count_le slice count high = grind (arith, nat_tests)

-- a tick of the slice keeps the bounds
sliced_bounds : (settings : Settings) (load : ℕ) (r : ThreadRecord) → HasSlice settings → KeepsBounds r →
    KeepsBounds (sliced settings load r).0
sliced_bounds settings load r slice kept =
    let bounds = slice_of-bounds load settings.slice slice.low in
    KeepsBounds-times r _ r.slept_at r.last_run kept
    (slice_count_le (slice_of load settings.slice) r.slice_count (omega (arith, bounds.2, slice.high)))
    kept.slept_at kept.last_run

-- a charge for run time keeps the bounds
charged_bounds : (settings : Settings) (r : ThreadRecord) → KeepsBounds r → IsNice r.nice → KeepsBounds (charged settings r)
charged_bounds settings r kept nice =
    rebased_bounds settings (with_history r (charged_history r.hist tick_length))
    (KeepsBounds-histories r tick_length kept).0 nice

-- what a tick charges to a class keeps the bounds
charged_in_bounds : (class : Class) (settings : Settings) (load : ℕ) (r : ThreadRecord) → HasSlice settings →
    KeepsBounds r → IsNice r.nice → KeepsBounds (charged_in class settings load r).0
charged_in_bounds Ts settings load r slice kept nice =
    sliced_bounds settings load (charged settings r) slice (charged_bounds settings r kept nice)
charged_in_bounds Ithd settings load r slice kept nice = sliced_bounds settings load r slice kept
charged_in_bounds Rt settings load r slice kept nice = sliced_bounds settings load r slice kept
charged_in_bounds Fifo settings load r slice kept nice = kept
charged_in_bounds Idle settings load r slice kept nice = sliced_bounds settings load r slice kept

-- the time slept keeps the bounds and the nice value
rested_bounds : (still : Bool) (now : ℕ) (r : ThreadRecord) → KeepsBounds r → IsNice r.nice → IsBy now r → now < 2 ^ 36 →
    KeepsBounds (rested_if still now r) × IsNice (rested_if still now r).nice
rested_bounds true now r kept nice past in_time = (kept, nice)
rested_bounds false now r kept nice past in_time =
    let slept = 1024 * (now - r.slept_at) in (
      KeepsBounds-uses (with_history r (rested_history r.hist slept)) now false
          (KeepsBounds-histories r slept kept).1 past.ltick in_time,
      nice,
    )

-- waking keeps the bounds
after_sleep_bounds : (settings : Settings) (now : ℕ) (r : ThreadRecord) → KeepsBounds r → IsNice r.nice → IsBy now r →
    now < 2 ^ 36 → KeepsBounds (after_sleep settings now r)
after_sleep_bounds settings now r kept nice past in_time =
    let slept = rested_bounds (now == r.slept_at) now r kept nice past in_time in
    rebased_bounds settings (record (rested now r) { slice_count = 0; slept_at = 0 })
    (KeepsBounds-times (rested now r) 0 0 (rested now r).last_run slept.0 (omega arith) (omega arith) slept.0.last_run) slept.1

-- CPU use brought up to a time no earlier keeps the bounds
used_bounds : (running : Bool) (now : ℕ) (r : ThreadRecord) → KeepsBounds r → IsBy now r → now < 2 ^ 36 → KeepsBounds (used running now r)
used_bounds running now r kept past in_time = KeepsBounds-uses r now running kept past.ltick in_time

-- leaving the processor keeps the bounds
after_running_bounds : (now : ℕ) (r : ThreadRecord) → KeepsBounds r → IsBy now r → now < 2 ^ 36 → KeepsBounds (after_running now r)
after_running_bounds now r kept past in_time =
    let before = used_bounds true now r kept past in_time in
    KeepsBounds-times (used true now r) r.slice_count r.slept_at now before kept.slice_count kept.slept_at in_time

-- a child's record keeps the bounds where its parent's does
child_bounds : (settings : Settings) (now : ℕ) (parent : ThreadRecord) (c load : ℕ) (r : ThreadRecord) → HasSlice settings →
    KeepsBounds parent → IsBy now parent → now < 2 ^ 36 → KeepsBounds (child_before settings now parent c load r)
child_bounds settings now parent c load r slice kept past in_time =
    let spent = IsBoundedUse-updated_use parent.usage now true kept.usage past.ltick in
    let bounds = slice_of-bounds load settings.slice slice.low in
    let young = child_history-lt parent.hist in
    record {
      history = omega arith;
      usage = spent.0;
      ltick = subst (λ t. t < 2 ^ 36) (sym spent.1) in_time;
      slept_at = omega arith;
      last_run = in_time;
      slice_count = omega (arith, bounds.2, slice.high);
      priority = refl;
      low = kept.low;
      high = kept.high;
    }

-- sound changes at a time no earlier than what is noted keep the bounds
pub change_bounds : ChangesKeepBounds
change_bounds settings now ran r slice sound nice past in_time kept = after_running_bounds now r kept past in_time
change_bounds settings now runs r slice sound nice past in_time kept = used_bounds false now r kept past in_time
change_bounds settings now sleeps r slice sound nice past in_time kept =
    let left = after_running_bounds now r kept past in_time in
    KeepsBounds-times (after_running now r) r.slice_count now now left left.slice_count in_time in_time
change_bounds settings now woken r slice sound nice past in_time kept = after_sleep_bounds settings now r kept nice past in_time
change_bounds settings now (ticked load) r slice sound nice past in_time kept =
    charged_in_bounds r.class settings load (used true now r) slice (used_bounds true now r kept past in_time) nice
change_bounds settings now (placed c) r slice sound nice past in_time kept = record {
  history = kept.history;
  usage = kept.usage;
  ltick = kept.ltick;
  slept_at = kept.slept_at;
  last_run = kept.last_run;
  slice_count = kept.slice_count;
  priority = kept.priority;
  low = kept.low;
  high = kept.high;
}
change_bounds settings now (changed (Lend p)) r slice sound nice past in_time kept = KeepsBounds-loans r (Some p) kept
change_bounds settings now (changed Unlend) r slice sound nice past in_time kept = KeepsBounds-loans r None kept
change_bounds settings now (changed (Renice n)) r slice sound nice past in_time kept =
    rebased_bounds settings (record r { nice = n }) (record {
      history = kept.history;
      usage = kept.usage;
      ltick = kept.ltick;
      slept_at = kept.slept_at;
      last_run = kept.last_run;
      slice_count = kept.slice_count;
      priority = kept.priority;
      low = kept.low;
      high = kept.high;
    }) sound
change_bounds settings now (changed (Inherit run)) r slice sound nice past in_time kept =
    rebased_bounds settings (with_history r (charged_history r.hist run)) (KeepsBounds-histories r run kept).0 nice
change_bounds settings now forks r slice sound nice past in_time kept =
    charged_bounds settings (used true now r) (used_bounds true now r kept past in_time) nice
change_bounds settings now (forked parent c load) r slice sound nice past in_time kept =
    rebased_bounds settings (child_before settings now parent c load r)
    (child_bounds settings now parent c load r slice sound.0 sound.1 in_time) sound.2

-- ---- the numbers in range

-- what is lent makes a priority no greater than the base
better_of_lt : (base : ℕ) (lent : Option ℕ) → base < 256 → better_of base lent < 256
better_of_lt base None small = small
better_of_lt base (Some lent) small = omega (arith, min-le_left base lent)

-- a base priority computed anew for a class keeps the numbers in range
rebased_in_numbers : (class : Class) (settings : Settings) (r : ThreadRecord) → HasNumbers r → HasNumbers (rebased_in class settings r)
rebased_in_numbers Ts settings r has =
    let bounds = timeshare_priority-bounds r.hist r.usage r.nice settings.interact has.nice in
    let base : timeshare_priority r.hist r.usage r.nice settings.interact < 256 = omega (arith, bounds.1) in
    record { id = has.id; base = base; priority = better_of_lt _ r.lent base; nice = has.nice }
rebased_in_numbers Ithd settings r has = has
rebased_in_numbers Rt settings r has = has
rebased_in_numbers Fifo settings r has = has
rebased_in_numbers Idle settings r has = has

-- a base priority computed anew keeps the numbers in range
pub rebased_numbers : (settings : Settings) (r : ThreadRecord) → HasNumbers r → HasNumbers (rebased settings r)
rebased_numbers settings r has = rebased_in_numbers r.class settings r has

-- a record with the numbers of another one, and a base priority computed anew, has them in range
numbers_like : (settings : Settings) (r n : ThreadRecord) → HasNumbers r → n.id ≡ r.id → n.base ≡ r.base → n.priority ≡ r.priority →
    n.nice ≡ r.nice → HasNumbers n
numbers_like settings r n has id base priority nice = record {
  id = subst (λ t. t < 256) (sym id) has.id;
  base = subst (λ t. t < 256) (sym base) has.base;
  priority = subst (λ t. t < 256) (sym priority) has.priority;
  nice = subst (λ t. IsNice t) (sym nice) has.nice;
}

-- what a tick charges to a class keeps the numbers in range
charged_in_numbers : (class : Class) (settings : Settings) (load : ℕ) (r : ThreadRecord) → HasNumbers r →
    HasNumbers (charged_in class settings load r).0
charged_in_numbers Ts settings load r has =
    let inner = rebased_numbers settings (with_history r (charged_history r.hist tick_length))
    (numbers_like settings r _ has refl refl refl refl) in
    numbers_like settings (charged settings r) _ inner refl refl refl refl
charged_in_numbers Ithd settings load r has = numbers_like settings r _ has refl refl refl refl
charged_in_numbers Rt settings load r has = numbers_like settings r _ has refl refl refl refl
charged_in_numbers Fifo settings load r has = has
charged_in_numbers Idle settings load r has = numbers_like settings r _ has refl refl refl refl

-- the time slept keeps the numbers in range
rested_numbers : (still : Bool) (settings : Settings) (now : ℕ) (r : ThreadRecord) → HasNumbers r → HasNumbers (rested_if still now r)
rested_numbers true settings now r has = has
rested_numbers false settings now r has = numbers_like settings r _ has refl refl refl refl

-- a child's numbers are in range where its own and its parent's are
pub child_numbers : (settings : Settings) (now : ℕ) (parent : ThreadRecord) (c load : ℕ) (r : ThreadRecord) → HasNumbers parent → HasNumbers r →
    HasNumbers (child_of settings now parent c load r)
child_numbers settings now parent c load r own has =
    rebased_numbers settings (child_before settings now parent c load r)
    (record { id = has.id; base = own.base; priority = own.base; nice = own.nice })

-- sound changes keep the numbers in range
pub change_numbers : ChangesKeepNumbers
change_numbers settings now ran r sound has = numbers_like settings r _ has refl refl refl refl
change_numbers settings now runs r sound has = numbers_like settings r _ has refl refl refl refl
change_numbers settings now sleeps r sound has = numbers_like settings r _ has refl refl refl refl
change_numbers settings now woken r sound has =
    rebased_numbers settings (record (rested now r) { slice_count = 0; slept_at = 0 })
    (numbers_like settings (rested now r) _ (rested_numbers (now == r.slept_at) settings now r has) refl refl refl refl)
change_numbers settings now (ticked load) r sound has =
    charged_in_numbers r.class settings load (used true now r) (numbers_like settings r _ has refl refl refl refl)
change_numbers settings now (placed c) r sound has = numbers_like settings r _ has refl refl refl refl
change_numbers settings now (changed (Lend p)) r sound has =
    record { id = has.id; base = has.base; priority = better_of_lt r.base (Some p) has.base; nice = has.nice }
change_numbers settings now (changed Unlend) r sound has =
    record { id = has.id; base = has.base; priority = has.base; nice = has.nice }
change_numbers settings now (changed (Renice n)) r sound has =
    rebased_numbers settings (record r { nice = n })
    (record { id = has.id; base = has.base; priority = has.priority; nice = sound })
change_numbers settings now (changed (Inherit run)) r sound has =
    rebased_numbers settings (with_history r (charged_history r.hist run)) (numbers_like settings r _ has refl refl refl refl)
change_numbers settings now forks r sound has =
    rebased_numbers settings (with_history (used true now r) (charged_history r.hist tick_length))
    (numbers_like settings r _ has refl refl refl refl)
change_numbers settings now (forked parent c load) r sound has =
    rebased_numbers settings (child_before settings now parent c load r)
    (record { id = has.id; base = sound.3; priority = sound.3; nice = sound.2 })

-- ---- what is noted

-- an update of the CPU use notes its time
used_ltick : (u : CpuUse) (now : ℕ) (running : Bool) → (updated_use u now running).ltick ≤ now
unfolding updated_use
used_ltick u now running = omega arith

-- a base priority computed anew for a class leaves what is noted
rebased_in_by : (class : Class) (settings : Settings) (now : ℕ) (r : ThreadRecord) → IsBy now r → IsBy now (rebased_in class settings r)
rebased_in_by Ts settings now r past = record { ltick = past.ltick; slept_at = past.slept_at; last_run = past.last_run }
rebased_in_by Ithd settings now r past = past
rebased_in_by Rt settings now r past = past
rebased_in_by Fifo settings now r past = past
rebased_in_by Idle settings now r past = past

-- a base priority computed anew leaves what is noted
pub rebased_by : (settings : Settings) (now : ℕ) (r : ThreadRecord) → IsBy now r → IsBy now (rebased settings r)
rebased_by settings now r past = rebased_in_by r.class settings now r past

-- what a tick charges to a class leaves what is noted
charged_in_by : (class : Class) (settings : Settings) (now load : ℕ) (r : ThreadRecord) → IsBy now r →
    IsBy now (charged_in class settings load r).0
charged_in_by Ts settings now load r past =
    let inner = rebased_by settings now (with_history r (charged_history r.hist tick_length))
    (record { ltick = past.ltick; slept_at = past.slept_at; last_run = past.last_run }) in
    record { ltick = inner.ltick; slept_at = inner.slept_at; last_run = inner.last_run }
charged_in_by Ithd settings now load r past = record { ltick = past.ltick; slept_at = past.slept_at; last_run = past.last_run }
charged_in_by Rt settings now load r past = record { ltick = past.ltick; slept_at = past.slept_at; last_run = past.last_run }
charged_in_by Fifo settings now load r past = past
charged_in_by Idle settings now load r past = record { ltick = past.ltick; slept_at = past.slept_at; last_run = past.last_run }

-- the time slept is noted by its end
rested_by : (still : Bool) (now : ℕ) (r : ThreadRecord) → IsBy now r → IsBy now (rested_if still now r)
rested_by true now r past = past
rested_by false now r past =
    record { ltick = used_ltick r.usage now false; slept_at = past.slept_at; last_run = past.last_run }

-- what changes note happened by their time
pub change_by_now : ChangesAreByNow
change_by_now settings now ran r past = record { ltick = used_ltick r.usage now true; slept_at = past.slept_at; last_run = omega arith }
change_by_now settings now runs r past = record { ltick = used_ltick r.usage now false; slept_at = past.slept_at; last_run = past.last_run }
change_by_now settings now sleeps r past = record { ltick = used_ltick r.usage now true; slept_at = omega arith; last_run = omega arith }
change_by_now settings now woken r past =
    let rest = rested_by (now == r.slept_at) now r past in
    rebased_by settings now (record (rested now r) { slice_count = 0; slept_at = 0 })
    (record { ltick = rest.ltick; slept_at = omega arith; last_run = rest.last_run })
change_by_now settings now (ticked load) r past =
    charged_in_by r.class settings now load (used true now r)
    (record { ltick = used_ltick r.usage now true; slept_at = past.slept_at; last_run = past.last_run })
change_by_now settings now (placed c) r past = record { ltick = past.ltick; slept_at = past.slept_at; last_run = past.last_run }
change_by_now settings now (changed (Lend p)) r past = record { ltick = past.ltick; slept_at = past.slept_at; last_run = past.last_run }
change_by_now settings now (changed Unlend) r past = record { ltick = past.ltick; slept_at = past.slept_at; last_run = past.last_run }
change_by_now settings now (changed (Renice n)) r past =
    rebased_by settings now (record r { nice = n })
    (record { ltick = past.ltick; slept_at = past.slept_at; last_run = past.last_run })
change_by_now settings now (changed (Inherit run)) r past =
    rebased_by settings now (with_history r (charged_history r.hist run))
    (record { ltick = past.ltick; slept_at = past.slept_at; last_run = past.last_run })
change_by_now settings now forks r past =
    rebased_by settings now (with_history (used true now r) (charged_history r.hist tick_length))
    (record { ltick = used_ltick r.usage now true; slept_at = past.slept_at; last_run = past.last_run })
change_by_now settings now (forked parent c load) r past =
    rebased_by settings now (child_before settings now parent c load r)
    (record { ltick = used_ltick parent.usage now true; slept_at = omega arith; last_run = omega arith })
