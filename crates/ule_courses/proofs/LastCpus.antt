-- The CPUs that threads were last queued on: no change brings a thread to a CPU that isn't there.
use Rattle.std.proofs.Common.{◌≡◌, ℕ, ◌-◌, ◌*◌, ◌<◌, ◌==◌, Bool, true, false, length, if◌then◌else◌, refl, sym, ◌∙◌, subst}
use Rattle.std.specs.List.{AllByRecursion}
use Rattle.ule_history.specs.CpuUseUpdate.{updated_use}
use Rattle.ule_history.specs.HistoryUpdate.{charged_history, rested_history}
use Rattle.ule_prio.specs.declared.class.Class.{Class}
use Rattle.ule_prio.specs.declared.class.Class.TheVariants.{Ithd, Rt, Fifo, Ts, Idle}
use Rattle.ule_score.specs.Bounds.{with_history, with_use}
use Rattle.ule_score.specs.Changes.{RecordChange, after_sleep, changed, charged_in, child_of, forked, forks, placed, ran, rebased, rebased_in, record_after, rested, runs, sleeps, tick_length, ticked, used, woken}
use Rattle.ule_score.specs.declared.record.Change.TheVariants.{Lend, Unlend, Renice, Inherit}
use Rattle.ule_score.specs.declared.record.Settings.{Settings}
use Rattle.ule_score.specs.declared.record.ThreadRecord.{ThreadRecord}
use Rattle.ule_types.specs.declared.event.Event.{Event}
use Rattle.ule_model.specs.Conditions.{IsPossible}
use Rattle.ule_model.specs.Frames.{IsSoundIn}
use Rattle.ule_model.specs.Step.{step}
use Rattle.ule_model.specs.WellMade.{IsWellMadeWorld}
use Rattle.ule_model.specs.World.{World}
use Rattle.ule_members.proofs.Numbered.{step_records}

-- ---- one record

-- a base priority computed anew for a class leaves the last CPU
rebased_in_last : (k : Class) (settings : Settings) (r : ThreadRecord) → (rebased_in k settings r).last ≡ r.last
rebased_in_last Ts settings r = refl
rebased_in_last Ithd settings r = refl
rebased_in_last Rt settings r = refl
rebased_in_last Fifo settings r = refl
rebased_in_last Idle settings r = refl

-- a base priority computed anew leaves the last CPU
rebased_last : (settings : Settings) (r : ThreadRecord) → (rebased settings r).last ≡ r.last
rebased_last settings r = rebased_in_last r.class settings r

-- the time slept leaves the last CPU
rested_last : (now : ℕ) (r : ThreadRecord) → (rested now r).last ≡ r.last
rested_last now r = at_test (now == r.slept_at)
  where
    at_test : (b : Bool) → (if b then r else with_use (with_history r (rested_history r.hist (1024 * (now - r.slept_at)))) (updated_use r.usage now false)).last ≡ r.last
    at_test true = refl
    at_test false = refl

-- waking leaves the last CPU
pub woken_last : (settings : Settings) (now : ℕ) (r : ThreadRecord) → (after_sleep settings now r).last ≡ r.last
woken_last settings now r = rebased_last settings (record (rested now r) { slice_count = 0; slept_at = 0 }) ∙ rested_last now r

-- what a tick charges leaves the last CPU
charged_in_last : (k : Class) (settings : Settings) (load : ℕ) (r : ThreadRecord) → (charged_in k settings load r).0.last ≡ r.last
charged_in_last Ts settings load r = rebased_last settings (with_history r (charged_history r.hist tick_length))
charged_in_last Ithd settings load r = refl
charged_in_last Rt settings load r = refl
charged_in_last Fifo settings load r = refl
charged_in_last Idle settings load r = refl

-- a child was last queued where it was forked
child_last : (settings : Settings) (now : ℕ) (parent : ThreadRecord) (c load : ℕ) (r : ThreadRecord) → (child_of settings now parent c load r).last ≡ c
child_last settings now parent c load r = rebased_in_last parent.class settings _

-- a change that a step of a world may make leaves a last CPU that is there
change_lasts : (w : World) (now : ℕ) (change : RecordChange) (r : ThreadRecord) → IsSoundIn w now change → r.last < length w.lines →
    (record_after w.settings now change r).last < length w.lines
change_lasts w now ran r sound there = there
change_lasts w now runs r sound there = there
change_lasts w now sleeps r sound there = there
change_lasts w now woken r sound there = subst (λ c. c < length w.lines) (sym (woken_last w.settings now r)) there
change_lasts w now (ticked load) r sound there = subst (λ c. c < length w.lines) (sym (charged_in_last r.class w.settings load (used true now r))) there
change_lasts w now (placed c) r sound there = sound
change_lasts w now (changed (Lend p)) r sound there = there
change_lasts w now (changed Unlend) r sound there = there
change_lasts w now (changed (Renice n)) r sound there = subst (λ c. c < length w.lines) (sym (rebased_last w.settings (record r { nice = n }))) there
change_lasts w now (changed (Inherit run)) r sound there =
    subst (λ c. c < length w.lines) (sym (rebased_last w.settings (with_history r (charged_history r.hist run)))) there
change_lasts w now forks r sound there =
    subst (λ c. c < length w.lines) (sym (rebased_last w.settings (with_history (used true now r) (charged_history r.hist tick_length)))) there
change_lasts w now (forked parent c load) r sound there = subst (λ d. d < length w.lines) (sym (child_last w.settings now parent c load r)) sound.1

-- ---- all records

-- a step leaves each thread a last CPU that is there
pub step_lasts : (w : World) (worker : ℕ) (e : Event) (now : ℕ) → IsWellMadeWorld w → IsPossible w worker e now →
    AllByRecursion (λ m. m.thread.last < length w.lines) w.members → AllByRecursion (λ m. m.thread.last < length w.lines) (step w worker e now).0.members
step_lasts w worker e now made can all =
    step_records w worker e now made can (λ r. r.last < length w.lines) (λ change r sound there. change_lasts w now change r sound there) all
