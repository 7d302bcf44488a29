-- The effect of an event, by its act on the values under its locks.
use Rattle.std.proofs.Common.{◌≡◌, ℕ, ◌<◌, Bool, true, false, List, [], ◌∷◌, length, set, take, drop, refl, sym, ap, ◌∙◌, subst, arith, true≢false, length-set}
use Rattle.std.specs.Prelude.{Option, Some, None, slice_get, slice_index_or}
use Rattle.std.proofs.lemmas.Option.{none-some, same_Some}
use Rattle.ule_micro.specs.declared.entry.HeldLocks.{HeldLocks}
use Rattle.ule_micro.specs.declared.entry.HeldLocks.TheVariants.{One, Two}
use Rattle.ule_micro.specs.declared.locks.TheConstants.{LOCKS}
use Rattle.ule_micro.specs.Means.{Means, Needs, one, both, lock_of, stands_under}
use Rattle.ule_micro.specs.Standings.{Acted}
use Rattle.ule_micro.specs.Histories.{AreLocksFor, effect_on, effect_of, effect_under, is_lock_among, laid_under, values_under, alone, with_first}
use Rattle.ule_micro.specs.Laws.{AreInRisingOrder, AreItsLocks, AreRising, has_true, lock_count, places}
use Rattle.ule_micro.specs.Performing.{HasEffect}
use Rattle.ule_micro.proofs.Lists.{take_get, drop_get, get_else, index_get, one_there, something}
use Rattle.ule_micro.proofs.Among.{among_first, among_second, among_this}

module _ {G : Type 0} where
  -- the value under one lock
  alone_some : (o : Option G) (guarded : List G) → alone o ≡ Some guarded → (v : G) × (o ≡ Some v) × (guarded ≡ v ∷ [])
  alone_some None guarded e = absurd (none-some guarded e)
  alone_some (Some v) guarded e = (v, refl, sym (same_Some (v ∷ []) guarded e))

  -- the value under one lock is the only one of the list
  pub under_one : (a : ℕ) (values guarded : List G) → values_under (One a) values ≡ Some guarded → (v : G) × (slice_get values a ≡ Some v) × (guarded ≡ v ∷ [])
  under_one a values guarded e = alone_some (slice_get values a) guarded e

  -- the values under two locks
  both_some : (o p : Option G) (guarded : List G) → with_first o p ≡ Some guarded → (v : G) × (u : G) × (o ≡ Some v) × (p ≡ Some u) × (guarded ≡ v ∷ u ∷ [])
  both_some None p guarded e = absurd (none-some guarded e)
  both_some (Some v) None guarded e = absurd (none-some guarded e)
  both_some (Some v) (Some u) guarded e = (v, u, refl, refl, sym (same_Some (v ∷ u ∷ []) guarded e))

  -- the values under two locks are the two of the list
  pub under_two : (a b : ℕ) (values guarded : List G) → values_under (Two a b) values ≡ Some guarded
      → (v : G) × (u : G) × (slice_get values a ≡ Some v) × (slice_get values b ≡ Some u) × (guarded ≡ v ∷ u ∷ [])
  under_two a b values guarded e = both_some (slice_get values a) (slice_get values b) guarded e

  -- the values that are read on each side of a cut
  pub two_read : (l low high : List G) (a b : ℕ) (v u x y : G) → a < b → slice_get l a ≡ Some v → slice_get l b ≡ Some u → low ≡ take b l → high ≡ drop b l
      → x ≡ slice_index_or low a x → y ≡ slice_index_or high 0 y → (x ≡ v) × (y ≡ u)
  two_read l low high a b v u x y lt at_a at_b is_low is_high is_x is_y = (
    is_x ∙ (ap (λ z. slice_index_or z a x) is_low ∙ index_get (take b l) a x v (take_get l a b v lt at_a)),
    is_y ∙ ap (λ z. slice_index_or z 0 y) (is_high ∙ drop_get l b u at_b),
  )

  -- there is a value for each lock
  pub guarded_many : (held : HeldLocks) (values guarded : List G) → values_under held values ≡ Some guarded → length guarded ≡ lock_count held
  guarded_many (One a) values guarded is = let v = under_one a values guarded is in ap length v.2
  guarded_many (Two a b) values guarded is = let v = under_two a b values guarded is in ap length v.4

  -- the values under other locks stay
  pub laid_else : (values : List G) (held : HeldLocks) (guarded : List G) (l : ℕ) → is_lock_among held l ≡ false → slice_get (laid_under held values guarded) l ≡ slice_get values l
  laid_else values (One a) [] l out = refl
  laid_else values (One a) (v ∷ vs) l out = get_else values a l v (λ z. true≢false (sym (ap (is_lock_among (One a)) z ∙ among_this a) ∙ out))
  laid_else values (Two a b) [] l out = refl
  laid_else values (Two a b) (v ∷ []) l out = refl
  laid_else values (Two a b) (v ∷ u ∷ us) l out = get_else (set values a v) b l u (λ z. true≢false (sym (ap (is_lock_among (Two a b)) z ∙ among_second a b) ∙ out))
      ∙ get_else values a l v (λ z. true≢false (sym (ap (is_lock_among (Two a b)) z ∙ among_first a b) ∙ out))

  -- there are as many values as before
  pub laid_many : (values : List G) (held : HeldLocks) (guarded : List G) → length (laid_under held values guarded) ≡ length values
  laid_many values (One a) [] = refl
  laid_many values (One a) (v ∷ vs) = length-set values a v
  laid_many values (Two a b) [] = refl
  laid_many values (Two a b) (v ∷ []) = refl
  laid_many values (Two a b) (v ∷ u ∷ us) = length-set (set values a v) b u ∙ length-set values a v

module _ {H O G E R C : Type 0} (m : Means H O G E R C) where
  -- whether a thread stands in a value, if there is one
  abbrev pub in_value : Option G → ℕ → Bool
  in_value o t = elim o as (λ _. Bool) [ None ↦ false | Some v ↦ m.stands_in v t ]

  -- a thread stands under a lock as it stands in the value there
  pub stands_here : (values : List G) (l t : ℕ) (v : G) → slice_get values l ≡ Some v → stands_under m values l t ≡ m.stands_in v t
  stands_here values l t v at = ap (λ o. in_value o t) at

  -- where a thread stands there is a value
  pub stands_value : (values : List G) (l t : ℕ) → stands_under m values l t ≡ true → (v : G) × (slice_get values l ≡ Some v) × (m.stands_in v t ≡ true)
  stands_value values l t e = by (slice_get values l) refl where
    by : (o : Option G) → slice_get values l ≡ o → (v : G) × (slice_get values l ≡ Some v) × (m.stands_in v t ≡ true)
    by None at = absurd (true≢false (sym e ∙ ap (λ p. in_value p t) at))
    by (Some v) at = (v, at, sym (ap (λ p. in_value p t) at) ∙ e)

  -- the values under the locks that an event needs are there
  pub guarded_there : (values : List G) (held : HeldLocks) (n : Needs) → length values ≡ LOCKS → AreRising n → AreLocksFor m values held n
      → (guarded : List G) × (values_under held values ≡ Some guarded)
  guarded_there values held (one a) many low is = let v = something values a (let l = low in omega arith) in (
    v.0 ∷ [],
    ap (λ i. values_under i values) is ∙ ap alone v.1,
  )
  guarded_there values held (both a b) many low is = let v = something values a (let l = low.0 in let r = low.1 in omega arith) in let u = something values b (let r = low.1 in omega arith) in (
    v.0 ∷ u.0 ∷ [],
    ap (λ i. values_under i values) is ∙ (λ i. with_first (v.1 i) (u.1 i)),
  )
  guarded_there values held (lock_of t) many low (l, is, st) = let v = stands_value values l t st in (
    v.0 ∷ [],
    ap (λ i. values_under i values) is ∙ ap alone v.1,
  )

  -- the locks that an event needs rise
  pub apart_for : (values : List G) (held : HeldLocks) (n : Needs) → AreRising n → AreLocksFor m values held n → AreInRisingOrder held
  apart_for values held (one a) low is = subst AreInRisingOrder (sym is) tt
  apart_for values held (both a b) low is = subst AreInRisingOrder (sym is) low.0
  apart_for values held (lock_of t) low (l, is, st) = subst AreInRisingOrder (sym is) tt

  -- the locks that an event needs, by the values under them
  pub its_locks : (values guarded : List G) (held : HeldLocks) (n : Needs) → values_under held values ≡ Some guarded → AreLocksFor m values held n → AreItsLocks m held guarded n
  its_locks values guarded held (one a) under is = is
  its_locks values guarded held (both a b) under is = is
  its_locks values guarded held (lock_of t) under (l, is, st) = let v = stands_value values l t st in let u = under_one l values guarded (ap (λ i. values_under i values) (sym is) ∙ under) in
      let same : v.0 ≡ u.0 = one_there values l v.0 u.0 v.1 u.1 in
      (l, is, subst (λ g. has_true (places m g t) ≡ true) (sym u.2) (ap (λ x. m.stands_in x t) (sym same) ∙ v.2))

  module _ (w : ℕ) (e : E) (now : ℕ) (h : H) (held : HeldLocks) (values guarded : List G) (under : values_under held values ≡ Some guarded) where
    -- an event under locks that have values has the effect of its act on these
    pub effect_is : effect_under m w e now h held values ≡ Some (effect_on held values (m.act w e now h guarded))
    effect_is = ap (effect_of m w e now h held values) under

    -- what an event left is the effect of its act
    pub effect_so : (after : Acted H G R) → effect_under m w e now h held values ≡ Some after → after ≡ effect_on held values (m.act w e now h guarded)
    effect_so after effect = same_Some after _ (sym effect ∙ effect_is)

  -- what the code does under its locks is the effect of the event
  pub performs_so : (own own' : O) (values guarded : List G) (e : E) (now : ℕ) (held : HeldLocks) (guarded' values' : List G) (reply : R) → values_under held values ≡ Some guarded
      → own' ≡ m.with_hand own (m.act (m.number own) e now (m.hand own) guarded).hand → (m.act (m.number own) e now (m.hand own) guarded).values ≡ guarded'
      → reply ≡ (m.act (m.number own) e now (m.hand own) guarded).reply → values' ≡ laid_under held values guarded' → HasEffect m own values e now held own' values' reply
  performs_so own own' values guarded e now held guarded' values' reply under is_own is_values is_reply laid_so =
      (effect_on held values (m.act (m.number own) e now (m.hand own) guarded), effect_is (m.number own) e now (m.hand own) held values guarded under, is_own, laid_so ∙ ap (laid_under held values) (sym is_values), is_reply)
