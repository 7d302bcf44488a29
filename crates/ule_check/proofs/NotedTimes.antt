-- What is noted of each thread is by the last time under the lock of its place, or by that of the worker that has it in hand.
use Rattle.std.proofs.Common.{◌≡◌, ◌⊎◌, ℕ, ◌^◌, ◌<◌, ◌≤◌, ◌==◌, Bool, true, false, Some, refl, sym, ◌∙◌, subst, ⊎_elim, inl, inr, if◌then◌else◌, arith}
use Rattle.std.specs.List.{AllByRecursion, list_any}
use Rattle.std.proofs.lemmas.Bool.{cond-true, eqb-true, or_cases}
use Rattle.std.proofs.lemmas.Option.{none-some, same_Some}
use Rattle.ule_score.proofs.ChangeLaws.{change_by_now}
use Rattle.ule_score.specs.Changes.{IsBy}
use Rattle.ule_score.specs.declared.place.Place.{Place}
use Rattle.ule_types.specs.Commands.{is_among}
use Rattle.ule_types.specs.declared.event.Event.{Event}
use Rattle.ule_model.specs.Conditions.{IsByIfReached, IsPossible}
use Rattle.ule_model.specs.Events.{is_reached, locks_of}
use Rattle.ule_model.specs.Frames.{ComesTo}
use Rattle.ule_model.specs.Places.{hand_of, is_hand_of, is_under, lock_of}
use Rattle.ule_model.specs.Start.{starting_time}
use Rattle.ule_model.specs.Step.{step}
use Rattle.ule_model.specs.WellMade.{IsWellMadeWorld}
use Rattle.ule_model.specs.World.{Member, World}
use Rattle.ule_members.proofs.Numbered.{comes_keeps}
use Rattle.ule_members.proofs.Reach.{among_where_under, no_hand_under, number_from_test}
use Rattle.ule_members.proofs.Steps.{step_touches}
use Rattle.ule_members.proofs.Within.{all_along}
use Rattle.ule_parts.proofs.Noted.{by_later, touched_both}
use Rattle.ule_check.specs.Judge.{with_time, with_times}
use Rattle.ule_check.proofs.Faults.{time_at_own}

-- what is noted of a thread is by the last time under the lock of its place, or by that of the worker that has it in hand
pub record IsNotedBy (own latest : ℕ → ℕ) (m : Member) : Type 0 where
  pub under : (l : ℕ) → lock_of m.place ≡ Some l → IsBy (latest l) m.thread
  pub held : (h : ℕ) → hand_of m.place ≡ Some h → IsBy (own h) m.thread

-- a time within bounds that is no earlier than the last under the locks of an event, and than that of its worker
pub record IsOnTime (own latest : ℕ → ℕ) (w : World) (worker : ℕ) (e : Event) (now : ℕ) : Type 0 where
  pub begun : starting_time ≤ now
  pub bounded : now < 2 ^ 36
  pub under : (l : ℕ) → is_among (locks_of w e) l ≡ true → latest l ≤ now
  pub own_is : own worker ≤ now

-- a place that an event reaches lies under a lock of the event, or is its worker's hand
reached_place : (w : World) (worker : ℕ) (e : Event) (p : Place) → is_reached w worker e p ≡ true →
    ((l : ℕ) × ((lock_of p ≡ Some l) × (is_among (locks_of w e) l ≡ true))) ⊎ (hand_of p ≡ Some worker)
reached_place w worker e p here =
    ⊎_elim (λ (under : list_any (λ k. is_under k p) (locks_of w e) ≡ true). inl (among_where_under p (locks_of w e) under))
    (λ (held : is_hand_of worker p ≡ true). inr (number_from_test worker (hand_of p) held))
    (or_cases (list_any (λ k. is_under k p) (locks_of w e)) (is_hand_of worker p) here)

module _ (own latest : ℕ → ℕ) (w : World) (worker : ℕ) (e : Event) (now : ℕ) (on : IsOnTime own latest w worker e now) where
  -- what is noted of a thread that the event reaches is by now
  reached_by : (m : Member) → is_reached w worker e m.place ≡ true → IsNotedBy own latest m → IsBy now m.thread
  reached_by m here noted =
      ⊎_elim
      (λ (lock : (l : ℕ) × ((lock_of m.place ≡ Some l) × (is_among (locks_of w e) l ≡ true))).
      by_later (latest lock.0) now m.thread (on.under lock.0 lock.1.1) (noted.under lock.0 lock.1.0))
      (λ (hand : hand_of m.place ≡ Some worker). by_later (own worker) now m.thread on.own_is (noted.held worker hand))
      (reached_place w worker e m.place here)

  -- so it is of each
  pub noted_in_time : AllByRecursion (IsNotedBy own latest) w.members → AllByRecursion (IsByIfReached w worker e now) w.members
  noted_in_time noted = all_along (IsNotedBy own latest) (IsByIfReached w worker e now) w.members (λ m is here. reached_by m here is) noted

  -- the last times behind the event
  abbrev new_own : ℕ → ℕ
  new_own = with_time worker now own

  abbrev new_latest : ℕ → ℕ
  new_latest = with_times (locks_of w e) now latest

  -- they are no earlier than those before it
  latest_on : (l : ℕ) → latest l ≤ new_latest l
  latest_on l = at_test (is_among (locks_of w e) l) refl
    where
      at_test : (b : Bool) → is_among (locks_of w e) l ≡ b → latest l ≤ (if b then now else latest l)
      at_test true among = on.under l among
      at_test false other = omega arith

  -- nor are those of the workers
  own_on : (h : ℕ) → own h ≤ new_own h
  own_on h = at_test (h == worker) refl
    where
      at_test : (b : Bool) → (h == worker) ≡ b → own h ≤ (if b then now else own h)
      at_test true same = subst (λ v. own v ≤ now) (sym (eqb-true h worker same)) on.own_is
      at_test false other = omega arith

  -- what was noted by the last times before is noted by those behind it
  noted_stays : (m : Member) → IsNotedBy own latest m → IsNotedBy new_own new_latest m
  noted_stays m noted = record {
    under = λ l lock. by_later (latest l) (new_latest l) m.thread (latest_on l) (noted.under l lock);
    held = λ h hand. by_later (own h) (new_own h) m.thread (own_on h) (noted.held h hand);
  }

  -- and so is what is noted by now of a thread that the event reaches
  noted_reached : (n : Member) → is_reached w worker e n.place ≡ true → IsBy now n.thread → IsNotedBy new_own new_latest n
  noted_reached n here by = at_place (reached_place w worker e n.place here)
    where
      at_place : ((l : ℕ) × ((lock_of n.place ≡ Some l) × (is_among (locks_of w e) l ≡ true))) ⊎ (hand_of n.place ≡ Some worker) → IsNotedBy new_own new_latest n
      at_place (inl (l, (at, among))) = record {
        under = λ k lock.
            let same : l ≡ k = same_Some l k (sym at ∙ lock) in
            subst (λ t. IsBy t n.thread) (sym (cond-true (is_among (locks_of w e) k) now (latest k) (subst (λ m. is_among (locks_of w e) m ≡ true) same among))) by;
        held = λ h hand. absurd (none-some h (sym (no_hand_under l n.place at) ∙ hand));
      }
      at_place (inr hand_is) = record {
        under = λ k lock. absurd (none-some worker (sym (no_hand_under k n.place lock) ∙ hand_is));
        held = λ h hand.
            let same : worker ≡ h = same_Some worker h (sym hand_is ∙ hand) in
            subst (λ v. IsBy (new_own v) n.thread) same (subst (λ t. IsBy t n.thread) (sym (time_at_own worker now own)) by);
      }

  -- behind the event all is noted by the last times
  pub noted_after : IsWellMadeWorld w → IsPossible w worker e now → AllByRecursion (IsNotedBy own latest) w.members →
      AllByRecursion (IsNotedBy new_own new_latest) (step w worker e now).0.members
  noted_after made can noted =
      touched_both w worker e now (IsNotedBy own latest) (IsNotedBy new_own new_latest) noted_stays passes w.members (step w worker e now).0.members (step_touches w worker e now made can) noted
    where
      passes : (m n : Member) → is_reached w worker e m.place ≡ true → is_reached w worker e n.place ≡ true → ComesTo w now m.thread n.thread →
          IsNotedBy own latest m → IsNotedBy new_own new_latest n
      passes m n from to through was =
          noted_reached n to (comes_keeps w now (IsBy now) (λ change r fine by. change_by_now w.settings now change r by) m.thread n.thread through (reached_by m from was))
