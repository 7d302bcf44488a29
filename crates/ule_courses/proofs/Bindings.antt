-- The CPUs that threads are bound to: no change binds a thread to another CPU.
use Rattle.std.proofs.Common.{◌≡◌, ℕ, ◌-◌, ◌*◌, ◌==◌, Bool, true, false, None, IfSome, if◌then◌else◌, refl, sym, ◌∙◌, subst}
use Rattle.std.specs.List.{AllByRecursion}
use Rattle.ule_history.specs.CpuUseUpdate.{updated_use}
use Rattle.ule_history.specs.HistoryUpdate.{charged_history, rested_history}
use Rattle.ule_prio.specs.declared.class.Class.{Class}
use Rattle.ule_prio.specs.declared.class.Class.TheVariants.{Ithd, Rt, Fifo, Ts, Idle}
use Rattle.ule_score.specs.Bounds.{with_history, with_use}
use Rattle.ule_score.specs.Changes.{RecordChange, after_sleep, changed, charged_in, child_of, forked, forks, placed, ran, rebased, rebased_in, record_after, rested, runs, sleeps, tick_length, ticked, used, woken}
use Rattle.ule_score.specs.declared.record.Change.TheVariants.{Lend, Unlend, Renice, Inherit}
use Rattle.ule_score.specs.declared.record.Settings.{Settings}
use Rattle.ule_score.specs.declared.record.ThreadRecord.{ThreadRecord}
use Rattle.ule_types.specs.declared.event.Event.{Event}
use Rattle.ule_model.specs.Conditions.{IsPossible}
use Rattle.ule_model.specs.Step.{step}
use Rattle.ule_model.specs.WellMade.{IsWellMadeWorld}
use Rattle.ule_model.specs.World.{World}
use Rattle.ule_members.proofs.Numbered.{step_records}

-- ---- one record

-- a base priority computed anew leaves the CPU that a thread is bound to
rebased_in_bound : (k : Class) (settings : Settings) (r : ThreadRecord) → (rebased_in k settings r).bound ≡ r.bound
rebased_in_bound Ts settings r = refl
rebased_in_bound Ithd settings r = refl
rebased_in_bound Rt settings r = refl
rebased_in_bound Fifo settings r = refl
rebased_in_bound Idle settings r = refl

-- the change rule leaves the CPU that a thread is bound to
rebased_bound : (settings : Settings) (r : ThreadRecord) → (rebased settings r).bound ≡ r.bound
rebased_bound settings r = rebased_in_bound r.class settings r

-- the time slept leaves the CPU that a thread is bound to
rested_bound : (now : ℕ) (r : ThreadRecord) → (rested now r).bound ≡ r.bound
rested_bound now r = if_same (now == r.slept_at)
  where
    if_same : (b : Bool) → (if b then r else with_use (with_history r (rested_history r.hist (1024 * (now - r.slept_at)))) (updated_use r.usage now false)).bound ≡ r.bound
    if_same true = refl
    if_same false = refl

-- waking leaves the CPU that a thread is bound to
pub woken_bound : (settings : Settings) (now : ℕ) (r : ThreadRecord) → (after_sleep settings now r).bound ≡ r.bound
woken_bound settings now r = rebased_bound settings (record (rested now r) { slice_count = 0; slept_at = 0 }) ∙ rested_bound now r

-- a tick leaves the CPU that a thread is bound to
charged_in_bound : (k : Class) (settings : Settings) (load : ℕ) (r : ThreadRecord) → (charged_in k settings load r).0.bound ≡ r.bound
charged_in_bound Ts settings load r = rebased_bound settings (with_history r (charged_history r.hist tick_length))
charged_in_bound Ithd settings load r = refl
charged_in_bound Rt settings load r = refl
charged_in_bound Fifo settings load r = refl
charged_in_bound Idle settings load r = refl

-- a change leaves a thread bound to a CPU with a property, or to none
pub change_binds : (P : ℕ → Type 0) (settings : Settings) (now : ℕ) (change : RecordChange) (r : ThreadRecord) → IfSome r.bound P →
    IfSome (record_after settings now change r).bound P
change_binds P settings now ran r binds = binds
change_binds P settings now runs r binds = binds
change_binds P settings now sleeps r binds = binds
change_binds P settings now woken r binds = subst (λ o. IfSome o P) (sym (woken_bound settings now r)) binds
change_binds P settings now (ticked load) r binds = subst (λ o. IfSome o P) (sym (charged_in_bound r.class settings load (used true now r))) binds
change_binds P settings now (placed c) r binds = binds
change_binds P settings now (changed (Lend p)) r binds = binds
change_binds P settings now (changed Unlend) r binds = binds
change_binds P settings now (changed (Renice n)) r binds = subst (λ o. IfSome o P) (sym (rebased_bound settings (record r { nice = n }))) binds
change_binds P settings now (changed (Inherit run)) r binds =
    subst (λ o. IfSome o P) (sym (rebased_bound settings (with_history r (charged_history r.hist run)))) binds
change_binds P settings now forks r binds =
    subst (λ o. IfSome o P) (sym (rebased_bound settings (with_history (used true now r) (charged_history r.hist tick_length)))) binds
change_binds P settings now (forked parent c load) r binds = subst (λ o. IfSome o P) (sym (free parent)) tt
  where
    free : (parent : ThreadRecord) → (child_of settings now parent c load r).bound ≡ None
    free parent = rebased_in_bound parent.class settings _

-- ---- all records

-- no step binds a thread to another CPU
pub step_binds : (P : ℕ → Type 0) (w : World) (worker : ℕ) (e : Event) (now : ℕ) → IsWellMadeWorld w → IsPossible w worker e now →
    AllByRecursion (λ m. IfSome m.thread.bound P) w.members → AllByRecursion (λ m. IfSome m.thread.bound P) (step w worker e now).0.members
step_binds P w worker e now made can all =
    step_records w worker e now made can (λ r. IfSome r.bound P) (λ change r sound binds. change_binds P w.settings now change r binds) all
