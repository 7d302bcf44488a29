-- What is noted of each thread is by the latest entry under the lock of its place, or of the worker that has it in hand.
use Rattle.std.proofs.Common.{◌≡◌, ◌⊎◌, ℕ, suc, ◌≤◌, true, false, ◌==◌, ◌||◌, List, [], ◌∷◌, refl, sym, ap, ◌∙◌, subst, inl, inr, ⊎_elim, arith, slice_get, Some}
use Rattle.std.specs.List.{AllByRecursion, list_any}
use Rattle.std.proofs.lemmas.Bool.{false≢true, or_cases, or_left, or_right}
use Rattle.std.proofs.lemmas.Option.{none-some, same_Some}
use Rattle.ule_score.specs.Changes.{IsBy}
use Rattle.ule_score.specs.declared.place.Place.{Place}
use Rattle.ule_score.proofs.ChangeLaws.{change_by_now}
use Rattle.ule_types.specs.Commands.{is_among}
use Rattle.ule_types.specs.declared.event.Event.{Event}
use Rattle.ule_types.specs.declared.event.Reply.{Reply}
use Rattle.ule_model.specs.Conditions.{IsByIfReached, IsPossible}
use Rattle.ule_model.specs.Events.{is_reached, locks_of}
use Rattle.ule_model.specs.Frames.{AreTouched, ComesTo, IsTouched, left, reached}
use Rattle.ule_model.specs.Places.{hand_of, is_hand_of, is_under, lock_of}
use Rattle.ule_model.specs.Start.{starting_time}
use Rattle.ule_model.specs.Step.{step}
use Rattle.ule_model.specs.WellMade.{IsWellMadeWorld}
use Rattle.ule_model.specs.World.{Member, World}
use Rattle.ule_members.proofs.Numbered.{comes_keeps}
use Rattle.ule_members.proofs.Reach.{among_where_under, no_hand_under, number_from_test}
use Rattle.ule_members.proofs.Steps.{step_touches}
use Rattle.ule_members.proofs.Within.{all_along}
use Rattle.ule_micro.specs.declared.entry.Entry.{Entry}
use Rattle.ule_micro.specs.declared.entry.HeldLocks.{HeldLocks}
use Rattle.ule_micro.specs.declared.entry.HeldLocks.TheVariants.{One, Two}
use Rattle.ule_micro.specs.Histories.{IsNoEarlierThanShared, Shares, is_lock_among}
use Rattle.ule_parts.specs.Acts.{lock_list}
use Rattle.ule_score.specs.declared.record.ThreadRecord.{ThreadRecord}

-- is over: an entry was performed under the lock of a place, or by the worker whose hand the place is
abbrev pub IsOver : Entry Event Reply → Place → Type 0
IsOver x p = ((l : ℕ) × (is_lock_among x.locks l ≡ true) × (lock_of p ≡ Some l)) ⊎ (hand_of p ≡ Some x.worker)

-- is behind: a time is no earlier than the start and than each entry over a place
pub record IsBehind (h : List (Entry Event Reply)) (p : Place) (now : ℕ) : Type 0 where
  pub begun : starting_time ≤ now
  pub after : (i : ℕ) (x : Entry Event Reply) → slice_get h i ≡ Some x → IsOver x p → x.now ≤ now

-- is noted: what is noted of a thread is by each time behind the entries over its place
abbrev pub IsNoted : List (Entry Event Reply) → Member → Type 0
IsNoted h m = (now : ℕ) → IsBehind h m.place now → IsBy now m.thread

pub by_later : (now later : ℕ) (r : ThreadRecord) → now ≤ later → IsBy now r → IsBy later r
by_later now later r past is = record { ltick = omega (arith, is.ltick); slept_at = omega (arith, is.slept_at); last_run = omega (arith, is.last_run) }

-- at the start
pub noted_at_start : (ms : List Member) → AllByRecursion (λ m. IsBy starting_time m.thread) ms → AllByRecursion (IsNoted []) ms
noted_at_start ms by = all_along (λ (m : Member). IsBy starting_time m.thread) (IsNoted []) ms (λ m is now behind. by_later starting_time now m.thread behind.begun is) by

-- under one of: a place lies under one of these locks
abbrev pub IsUnderOneOf : HeldLocks → Place → Type 0
IsUnderOneOf held p = (l : ℕ) × (is_lock_among held l ≡ true) × (lock_of p ≡ Some l)

-- a lock of the list of those that are held is one of them
pub listed : (held : HeldLocks) (l : ℕ) → is_among (lock_list held) l ≡ true → is_lock_among held l ≡ true
listed (One a) l among = ⊎_elim (λ (here : (a == l) ≡ true). here) (λ (rest : false ≡ true). absurd (false≢true rest)) (or_cases (a == l) false among)
listed (Two a b) l among =
    ⊎_elim (λ (here : (a == l) ≡ true). or_left (a == l) (b == l) here)
    (λ (rest : ((b == l) || false) ≡ true).
    ⊎_elim (λ (here : (b == l) ≡ true). or_right (a == l) (b == l) here) (λ (none : false ≡ true). absurd (false≢true none)) (or_cases (b == l) false rest))
    (or_cases (a == l) ((b == l) || false) among)

-- a place that an event reaches lies under one of its locks, or is the worker's hand
pub reached_place : (w : World) (worker : ℕ) (e : Event) (held : HeldLocks) (p : Place) → locks_of w e ≡ lock_list held → is_reached w worker e p ≡ true
    → IsUnderOneOf held p ⊎ (hand_of p ≡ Some worker)
reached_place w worker e held p locks here = ⊎_elim
    (λ (under : list_any (λ k. is_under k p) (lock_list held) ≡ true). let z = among_where_under p (lock_list held) under in inl (z.0, listed held z.0 z.1.1, z.1.0))
    (λ (own : is_hand_of worker p ≡ true). inr (number_from_test worker (hand_of p) own))
    (or_cases (list_any (λ k. is_under k p) (lock_list held)) (is_hand_of worker p) (ap (λ (ls : List ℕ). list_any (λ k. is_under k p) ls || is_hand_of worker p) (sym locks) ∙ here))

-- a time that the rules of time allow for the event is behind the entries over each place that the event reaches
behind_shared : (h : List (Entry Event Reply)) (w : World) (worker : ℕ) (e : Event) (held : HeldLocks) (now : ℕ) (p : Place) → locks_of w e ≡ lock_list held → is_reached w worker e p ≡ true
    → IsNoEarlierThanShared h worker held now → IsBehind h p now
behind_shared h w worker e held now p locks here rules = record { begun = rules.begun; after = λ i x at over. rules.after i x at (shares x over (reached_place w worker e held p locks here)) }
  where
    shares : (x : Entry Event Reply) → IsOver x p → IsUnderOneOf held p ⊎ (hand_of p ≡ Some worker) → Shares worker held x
    shares x (inl (k, among, under)) (inl (l, mine, lock)) = inr (l, mine, subst (λ i. is_lock_among x.locks i ≡ true) (same_Some k l (sym under ∙ lock)) among)
    shares x (inl (k, among, under)) (inr own) = absurd (none-some worker (sym (no_hand_under k p under) ∙ own))
    shares x (inr own) (inl (l, mine, lock)) = absurd (none-some x.worker (sym (no_hand_under l p lock) ∙ own))
    shares x (inr own) (inr this) = inl (same_Some x.worker worker (sym own ∙ this))

-- what follows for each thread that is left, or reached before and after, follows for each of the list
pub touched_both : (w : World) (worker : ℕ) (e : Event) (now : ℕ) (P Q : Member → Type 0) → ((m : Member) → P m → Q m)
    → ((m n : Member) → is_reached w worker e m.place ≡ true → is_reached w worker e n.place ≡ true → ComesTo w now m.thread n.thread → P m → Q n)
    → (ms ns : List Member) → AreTouched w worker e now ms ns → AllByRecursion P ms → AllByRecursion Q ns
touched_both w worker e now P Q stay pass [] [] touched all = tt
touched_both w worker e now P Q stay pass [] (n ∷ ns) touched all = absurd touched
touched_both w worker e now P Q stay pass (m ∷ ms) [] touched all = absurd touched
touched_both w worker e now P Q stay pass (m ∷ ms) (n ∷ ns) touched all = (one touched.0, touched_both w worker e now P Q stay pass ms ns touched.1 all.1)
  where
    one : IsTouched w worker e now m n → Q n
    one (left same) = subst Q same (stay m all.0)
    one (reached from to through) = pass m n from to through all.0

-- each thread is noted by the latest entry over its place, after one more entry
pub noted_after : (h : List (Entry Event Reply)) (w : World) (x : Entry Event Reply) → IsWellMadeWorld w → IsPossible w x.worker x.event x.now → locks_of w x.event ≡ lock_list x.locks
    → IsNoEarlierThanShared h x.worker x.locks x.now → AllByRecursion (IsNoted h) w.members → AllByRecursion (IsNoted (x ∷ h)) (step w x.worker x.event x.now).0.members
noted_after h w x made can locks rules noted =
    touched_both w x.worker x.event x.now (IsNoted h) (IsNoted (x ∷ h)) stays passes w.members (step w x.worker x.event x.now).0.members (step_touches w x.worker x.event x.now made can) noted
  where
    stays : (m : Member) → IsNoted h m → IsNoted (x ∷ h) m
    stays m was now behind = was now (record { begun = behind.begun; after = λ i y at over. behind.after (suc i) y at over })

    passes : (m n : Member) → is_reached w x.worker x.event m.place ≡ true → is_reached w x.worker x.event n.place ≡ true → ComesTo w x.now m.thread n.thread → IsNoted h m → IsNoted (x ∷ h) n
    passes m n from to through was now behind =
        let then : IsBy x.now m.thread = was x.now (behind_shared h w x.worker x.event x.locks x.now m.place locks from rules) in
        by_later x.now now n.thread (behind.after 0 x refl (reached_place w x.worker x.event x.locks n.place locks to))
        (comes_keeps w x.now (IsBy x.now) (λ change r fine by. change_by_now w.settings x.now change r by) m.thread n.thread through then)

-- what is noted of each thread within the event's reach is by now
pub noted_in_time : (h : List (Entry Event Reply)) (w : World) (worker : ℕ) (e : Event) (held : HeldLocks) (now : ℕ) → locks_of w e ≡ lock_list held → IsNoEarlierThanShared h worker held now
    → AllByRecursion (IsNoted h) w.members → AllByRecursion (IsByIfReached w worker e now) w.members
noted_in_time h w worker e held now locks rules noted =
    all_along (IsNoted h) (IsByIfReached w worker e now) w.members (λ m was here. was now (behind_shared h w worker e held now m.place locks here rules)) noted
