-- What the code that performs an event needs follows from that the event may be performed.
use Rattle.std.proofs.Common.{◌≡◌, ℕ, ◌<◌, [], ◌∷◌, slice_get, ⊎_elim, subst, ap, sym, ◌∙◌, arith, Option}
use Rattle.std.specs.Prelude.{max, min}
use Rattle.std.proofs.lemmas.Option.{same_Some}
use Rattle.ule_score.specs.declared.record.ThreadRecord.{ThreadRecord}
use Rattle.ule_types.specs.declared.event.Event.{Event}
use Rattle.ule_types.specs.declared.event.Event.TheVariants.{Move}
use Rattle.ule_types.specs.declared.event.MoveWhy.{MoveWhy}
use Rattle.ule_types.specs.declared.setup.Setup.{Setup}
use Rattle.ule_model.specs.Events.{lock_numbers}
use Rattle.ule_model.specs.LockConditions.{CanStepAt, CanStepPair}
use Rattle.ule_model.specs.LockValue.{LockValue, queue}
use Rattle.ule_model.specs.WorldValue.{held_by}
use Rattle.ule_laws.proofs.StepConditions.{CanStepBoth, CanStepUnder, can_step_both, can_step_under}
use Rattle.ule_laws.proofs.StepLaws.{HasLock, IsPair, event_lock}
use Rattle.ule_parts.specs.Acts.{AreAt}
use Rattle.ule_parts.specs.Scheduler.{MayAct}

-- what it needs under one lock
pub may_can : (s : Setup) (w : ℕ) (e : Event) (now : ℕ) (hand : Option ThreadRecord) (u : LockValue) → MayAct s w e now hand (u ∷ []) → CanStepAt u hand e now
may_can s w e now hand u may = ⊎_elim two one (event_lock may.value may.world w e now (record { shows = may.shows; possible = may.possible }))
  where
    two : IsPair e → CanStepAt u hand e now
    two pair =
        let under : AreAt may.value.values (min pair.from pair.to ∷ max pair.from pair.to ∷ []) (u ∷ []) =
        subst (λ ls. AreAt may.value.values ls (u ∷ [])) (ap (lock_numbers may.world.members) pair.locks) may.guarded_are in
        absurd under.1

    one : HasLock may.value may.world e → CanStepAt u hand e now
    one found =
        let under : AreAt may.value.values (found.lock ∷ []) (u ∷ []) = subst (λ ls. AreAt may.value.values ls (u ∷ [])) found.locks may.guarded_are in
        let can : CanStepUnder may.value w e now found.lock = can_step_under may.value w e now found.lock (may.world, may.shows, may.possible) found.lock_is in
        subst (λ h. CanStepAt u h e now) may.hand_is (subst (λ v. CanStepAt v (held_by may.value w) e now) (same_Some can.value u (sym can.found ∙ under.0)) can.can)

-- so does what it needs under two locks, of which the event names the lower first
pub may_can_rising : (s : Setup) (w a b : ℕ) (why : MoveWhy) (now : ℕ) (hand : Option ThreadRecord) (low high : LockValue) → a < b → MayAct s w (Move a b why) now hand (low ∷ high ∷ [])
    → CanStepPair low high hand
may_can_rising s w a b why now hand low high order may =
    let both : CanStepBoth may.value w a b = can_step_both may.value w a b why now (may.world, may.shows, may.possible) in
    let first : a ≡ min a b = omega arith in let second : b ≡ max a b = omega arith in
    let from : queue both.from ≡ low = same_Some (queue both.from) low (sym both.found_from ∙ (ap (slice_get may.value.values) first ∙ may.guarded_are.0)) in
    let to : queue both.to ≡ high = same_Some (queue both.to) high (sym both.found_to ∙ (ap (slice_get may.value.values) second ∙ may.guarded_are.1.0)) in
    subst (CanStepPair low high) may.hand_is
    (subst (λ v. CanStepPair v high (held_by may.value w)) from (subst (λ u. CanStepPair (queue both.from) u (held_by may.value w)) to both.can))

-- or the greater first
pub may_can_falling : (s : Setup) (w a b : ℕ) (why : MoveWhy) (now : ℕ) (hand : Option ThreadRecord) (low high : LockValue) → b < a → MayAct s w (Move a b why) now hand (low ∷ high ∷ [])
    → CanStepPair high low hand
may_can_falling s w a b why now hand low high order may =
    let both : CanStepBoth may.value w a b = can_step_both may.value w a b why now (may.world, may.shows, may.possible) in
    let first : a ≡ max a b = omega arith in let second : b ≡ min a b = omega arith in
    let from : queue both.from ≡ high = same_Some (queue both.from) high (sym both.found_from ∙ (ap (slice_get may.value.values) first ∙ may.guarded_are.1.0)) in
    let to : queue both.to ≡ low = same_Some (queue both.to) low (sym both.found_to ∙ (ap (slice_get may.value.values) second ∙ may.guarded_are.0)) in
    subst (CanStepPair high low) may.hand_is
    (subst (λ v. CanStepPair v low (held_by may.value w)) from (subst (λ u. CanStepPair (queue both.from) u (held_by may.value w)) to both.can))
