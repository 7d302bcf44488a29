-- The parents of threads: a step leaves each as it was, or makes a thread of the world the parent of the one that it forked.
use Rattle.std.proofs.Common.{◌≡◌, ℕ, ◌-◌, ◌*◌, ◌==◌, Bool, true, false, Some, IfSome, if◌then◌else◌, refl, sym, ◌∙◌, subst}
use Rattle.std.specs.List.{AllByRecursion}
use Rattle.ule_history.specs.CpuUseUpdate.{updated_use}
use Rattle.ule_history.specs.HistoryUpdate.{charged_history, rested_history}
use Rattle.ule_prio.specs.declared.class.Class.{Class}
use Rattle.ule_prio.specs.declared.class.Class.TheVariants.{Ithd, Rt, Fifo, Ts, Idle}
use Rattle.ule_score.specs.Bounds.{with_history, with_use}
use Rattle.ule_score.specs.Changes.{RecordChange, after_sleep, changed, charged_in, child_of, forked, forks, placed, ran, rebased, rebased_in, record_after, rested, runs, sleeps, tick_length, ticked, used, woken}
use Rattle.ule_score.specs.declared.record.Change.TheVariants.{Lend, Unlend, Renice, Inherit}
use Rattle.ule_score.specs.declared.record.Settings.{Settings}
use Rattle.ule_score.specs.declared.record.ThreadRecord.{ThreadRecord}
use Rattle.ule_types.specs.declared.event.Event.{Event}
use Rattle.ule_model.specs.Conditions.{IsPossible}
use Rattle.ule_model.specs.Frames.{IsSoundIn}
use Rattle.ule_model.specs.Step.{step}
use Rattle.ule_model.specs.WellMade.{IsWellMadeWorld}
use Rattle.ule_model.specs.World.{World}
use Rattle.ule_members.proofs.Numbered.{parent_keeps, step_records}

-- ---- one record

-- a base priority computed anew for a class leaves the parent
rebased_in_parent : (k : Class) (settings : Settings) (r : ThreadRecord) → (rebased_in k settings r).parent ≡ r.parent
rebased_in_parent Ts settings r = refl
rebased_in_parent Ithd settings r = refl
rebased_in_parent Rt settings r = refl
rebased_in_parent Fifo settings r = refl
rebased_in_parent Idle settings r = refl

-- a base priority computed anew leaves the parent
rebased_parent : (settings : Settings) (r : ThreadRecord) → (rebased settings r).parent ≡ r.parent
rebased_parent settings r = rebased_in_parent r.class settings r

-- the time slept leaves the parent
rested_parent : (now : ℕ) (r : ThreadRecord) → (rested now r).parent ≡ r.parent
rested_parent now r = if_still (now == r.slept_at)
  where
    if_still : (b : Bool) → (if b then r else with_use (with_history r (rested_history r.hist (1024 * (now - r.slept_at)))) (updated_use r.usage now false)).parent ≡ r.parent
    if_still true = refl
    if_still false = refl

-- waking leaves the parent
woken_parent : (settings : Settings) (now : ℕ) (r : ThreadRecord) → (after_sleep settings now r).parent ≡ r.parent
woken_parent settings now r = rebased_parent settings (record (rested now r) { slice_count = 0; slept_at = 0 }) ∙ rested_parent now r

-- what a tick charges leaves the parent
charged_in_parent : (k : Class) (settings : Settings) (load : ℕ) (r : ThreadRecord) → (charged_in k settings load r).0.parent ≡ r.parent
charged_in_parent Ts settings load r = rebased_parent settings (with_history r (charged_history r.hist tick_length))
charged_in_parent Ithd settings load r = refl
charged_in_parent Rt settings load r = refl
charged_in_parent Fifo settings load r = refl
charged_in_parent Idle settings load r = refl

-- a child's parent is the thread that forked it
child_parent : (settings : Settings) (now : ℕ) (parent : ThreadRecord) (c load : ℕ) (r : ThreadRecord) →
    (child_of settings now parent c load r).parent ≡ Some parent.id
child_parent settings now parent c load r = rebased_in_parent parent.class settings _

-- a change that a step of a world may make leaves a parent of a property, or none, where the threads of the world have it
change_parents : (P : ℕ → Type 0) (w : World) (now : ℕ) → AllByRecursion (λ m. P m.thread.id) w.members → (change : RecordChange) (r : ThreadRecord) →
    IsSoundIn w now change → IfSome r.parent P → IfSome (record_after w.settings now change r).parent P
change_parents P w now all ran r sound has = has
change_parents P w now all runs r sound has = has
change_parents P w now all sleeps r sound has = has
change_parents P w now all woken r sound has = subst (λ o. IfSome o P) (sym (woken_parent w.settings now r)) has
change_parents P w now all (ticked load) r sound has =
    subst (λ o. IfSome o P) (sym (charged_in_parent r.class w.settings load (used true now r))) has
change_parents P w now all (placed c) r sound has = has
change_parents P w now all (changed (Lend p)) r sound has = has
change_parents P w now all (changed Unlend) r sound has = has
change_parents P w now all (changed (Renice n)) r sound has = subst (λ o. IfSome o P) (sym (rebased_parent w.settings (record r { nice = n }))) has
change_parents P w now all (changed (Inherit run)) r sound has =
    subst (λ o. IfSome o P) (sym (rebased_parent w.settings (with_history r (charged_history r.hist run)))) has
change_parents P w now all forks r sound has =
    subst (λ o. IfSome o P) (sym (rebased_parent w.settings (with_history (used true now r) (charged_history r.hist tick_length)))) has
change_parents P w now all (forked parent c load) r sound has =
    subst (λ o. IfSome o P) (sym (child_parent w.settings now parent c load r)) (parent_keeps w now (λ x. P x.id) parent all sound.0)

-- ---- all records

-- where the threads of a world have numbers of a property, and their parents have it too, the parents have it after a step
pub step_parents : (P : ℕ → Type 0) (w : World) (worker : ℕ) (e : Event) (now : ℕ) → IsWellMadeWorld w → IsPossible w worker e now →
    AllByRecursion (λ m. P m.thread.id) w.members → AllByRecursion (λ m. IfSome m.thread.parent P) w.members →
    AllByRecursion (λ m. IfSome m.thread.parent P) (step w worker e now).0.members
step_parents P w worker e now made possible numbers parents =
    step_records w worker e now made possible (λ r. IfSome r.parent P) (λ change r sound has. change_parents P w now numbers change r sound has) parents
