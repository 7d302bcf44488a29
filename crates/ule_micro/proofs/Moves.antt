-- What an event does to the places of threads, under its locks.
use Rattle.std.proofs.Common.{◌≡◌, ◌≢◌, ◌⊎◌, ℕ, Bool, true, false, eq-eqb, ne_eqb, List, [], ◌∷◌, length, set, sym, refl, ap, ◌∙◌, inl, inr, ⊎_elim, arith, true≢false}
use Rattle.std.specs.Prelude.{Option, Some, None, slice_get, ◌==◌, if◌then◌else◌}
use Rattle.std.proofs.lemmas.Bool.{eqb-true, or_cases, or_parts}
use Rattle.std.proofs.lemmas.Option.{none-some, same_Some}
use mathlib.Core.Logic.{dite}
use native.Mathlib.Decide.{ℕ_discrete}
use Rattle.ule_micro.specs.declared.entry.HeldLocks.{HeldLocks}
use Rattle.ule_micro.specs.declared.entry.HeldLocks.TheVariants.{One, Two}
use Rattle.ule_micro.specs.declared.word.WordChange.{WordChange}
use Rattle.ule_micro.specs.declared.word.WordChange.TheVariants.{Block, Point}
use Rattle.ule_micro.specs.Means.{Means, thread_of_change, stands_under}
use Rattle.ule_micro.specs.Histories.{is_lock_among, laid_under, values_under}
use Rattle.ule_micro.specs.Laws.{AreInRisingOrder, Leaves, Moves, at_lock, has_true, lock_count, places}
use Rattle.ule_micro.proofs.Lists.{get_here, get_else, length_map, there}
use Rattle.ule_micro.proofs.Among.{among_first, among_one, among_second, among_this, among_two, bool_case}
use Rattle.ule_micro.proofs.Effects.{in_value, laid_else, stands_here, under_one, under_two}

module _ {H O G E R C : Type 0} (m : Means H O G E R C) where
  -- what became of a thread's place by an event with this word change, which had these locks, this hand and these values, and left those
  pub data Moved (held : HeldLocks) (h h' : H) (values values' : List G) (t : ℕ) (change : Option WordChange) : Type 0 where
    stays : Leaves change t → ((l : ℕ) → stands_under m values' l t ≡ stands_under m values l t) → m.carried_in h' t ≡ m.carried_in h t
        → Moved held h h' values values' t change
    left : (a : ℕ) → change ≡ Some (Block t) → is_lock_among held a ≡ true → stands_under m values a t ≡ true
        → ((l : ℕ) → stands_under m values' l t ≡ true → (stands_under m values l t ≡ true) × (is_lock_among held l ≡ false)) → m.carried_in h' t ≡ true
        → Moved held h h' values values' t change
    came : (k : ℕ) → change ≡ Some (Point t k) → ((m.carried_in h t ≡ true) ⊎ ((a : ℕ) × (is_lock_among held a ≡ true) × (stands_under m values a t ≡ true)))
        → is_lock_among held k ≡ true → stands_under m values' k t ≡ true
        → ((l : ℕ) → stands_under m values' l t ≡ true → (l ≡ k) ⊎ ((stands_under m values l t ≡ true) × (is_lock_among held l ≡ false)))
        → m.carried_in h' t ≡ false → Moved held h h' values values' t change

  -- the thread that a change is about
  pub data About (change : Option WordChange) (t : ℕ) : Type 0 where
    none : Leaves change t → About change t
    blocks : change ≡ Some (Block t) → About change t
    points : (k : ℕ) → change ≡ Some (Point t k) → About change t

  -- a change is about a thread, or is not
  pub about : (change : Option WordChange) (t : ℕ) → About change t
  about None t = none (λ c e _. none-some c e)
  about (Some (Block u)) t = dite (ℕ_discrete u t) (λ z. blocks (ap (λ v. Some (Block v)) z)) (λ n. none (λ c e same. n (ap thread_of_change (same_Some (Block u) c e) ∙ same)))
  about (Some (Point u k)) t = dite (ℕ_discrete u t) (λ z. points k (ap (λ v. Some (Point v k)) z)) (λ n. none (λ c e same. n (ap thread_of_change (same_Some (Point u k) c e) ∙ same)))

-- pick: of what is told of each of these locks, what is told of the one
abbrev pick : HeldLocks → List Bool → ℕ → Bool
pick (One a) [] l = false
pick (One a) (x ∷ xs) l = x
pick (Two a b) [] l = false
pick (Two a b) (x ∷ []) l = false
pick (Two a b) (x ∷ y ∷ ys) l = (if a == l then x else y)

-- where none is true, the first isn't, and none of the others is
none_true : (x : Bool) (xs : List Bool) → has_true (x ∷ xs) ≡ false → (x ≡ false) × (has_true xs ≡ false)
none_true x [] e = (e, refl)
none_true x (y ∷ ys) e = or_parts x (has_true (y ∷ ys)) e

either : (c x y : Bool) → x ≡ false → y ≡ false → (if c then x else y) ≡ false
either true x y p q = p
either false x y p q = q

-- where none is true, none is told of a lock
pick_none : (held : HeldLocks) (xs : List Bool) (l : ℕ) → has_true xs ≡ false → pick held xs l ≡ false
pick_none (One a) [] l e = refl
pick_none (One a) (x ∷ xs) l e = (none_true x xs e).0
pick_none (Two a b) [] l e = refl
pick_none (Two a b) (x ∷ []) l e = refl
pick_none (Two a b) (x ∷ y ∷ ys) l e = let z = none_true x (y ∷ ys) e in either (a == l) x y z.0 (none_true y ys z.1).0

-- where one is true, it is told of one of the locks
pick_some : (held : HeldLocks) (xs : List Bool) → AreInRisingOrder held → length xs ≡ lock_count held → has_true xs ≡ true → (l : ℕ) × (is_lock_among held l ≡ true) × (pick held xs l ≡ true)
pick_some held [] low many e = absurd (true≢false (sym e))
pick_some (One a) (x ∷ []) low many e = (a, among_this a, e)
pick_some (One a) (x ∷ y ∷ ys) low many e = absurd (omega arith)
pick_some (Two a b) (x ∷ []) low many e = absurd (omega arith)
pick_some (Two a b) (x ∷ y ∷ []) low many e = ⊎_elim
    (λ (p : x ≡ true). (a, among_first a b, ap (λ c. if c then x else y) (eq-eqb a a refl) ∙ p))
    (λ (q : y ≡ true). (b, among_second a b, ap (λ c. if c then x else y) (ne_eqb a b (λ z. omega arith)) ∙ q))
    (or_cases x y e)
pick_some (Two a b) (x ∷ y ∷ z ∷ zs) low many e = absurd (omega arith)

-- of the locks held the one is told of the one alone
pick_lock : (held : HeldLocks) (k l : ℕ) → AreInRisingOrder held → is_lock_among held l ≡ true → pick held (at_lock held k) l ≡ (l == k)
pick_lock (One a) k l low at = ap (λ i. i == k) (sym (among_one a l at))
pick_lock (Two a b) k l low at = ⊎_elim
    (λ (z : l ≡ a). ap (λ c. if c then (a == k) else (b == k)) (eq-eqb a l (sym z)) ∙ ap (λ i. i == k) (sym z))
    (λ (z : l ≡ b). ap (λ c. if c then (a == k) else (b == k)) (ne_eqb a l (λ e. omega arith)) ∙ ap (λ i. i == k) (sym z))
    (among_two a b l at)

module _ {H O G E R C : Type 0} (m : Means H O G E R C) (values guarded : List G) (t : ℕ) where
  -- a thread stands under a lock that is held as it stands in the value there
  stood_at : (held : HeldLocks) → AreInRisingOrder held → values_under held values ≡ Some guarded → (l : ℕ) → is_lock_among held l ≡ true
      → stands_under m values l t ≡ pick held (places m guarded t) l
  stood_at (One a) low is l at = let v = under_one a values guarded is in
      ap (λ i. stands_under m values i t) (among_one a l at) ∙ (stands_here m values a t v.0 v.1 ∙ ap (λ g. pick (One a) (places m g t) l) (sym v.2))
  stood_at (Two a b) low is l at = let v = under_two a b values guarded is in ⊎_elim
      (λ (z : l ≡ a). ap (λ i. stands_under m values i t) z ∙ (stands_here m values a t v.0 v.2 ∙ (ap (λ c. if c then m.stands_in v.0 t else m.stands_in v.1 t) (sym (eq-eqb a l (sym z))) ∙ ap (λ g. pick (Two a b) (places m g t) l) (sym v.4))))
      (λ (z : l ≡ b). ap (λ i. stands_under m values i t) z ∙ (stands_here m values b t v.1 v.3 ∙ (ap (λ c. if c then m.stands_in v.0 t else m.stands_in v.1 t) (sym (ne_eqb a l (λ e. omega arith))) ∙ ap (λ g. pick (Two a b) (places m g t) l) (sym v.4))))
      (among_two a b l at)

  module _ (guarded' : List G) where
    -- after the event it stands there as in the value that the event left
    stands_at : (held : HeldLocks) → AreInRisingOrder held → values_under held values ≡ Some guarded → length guarded' ≡ lock_count held → (l : ℕ) → is_lock_among held l ≡ true
        → stands_under m (laid_under held values guarded') l t ≡ pick held (places m guarded' t) l
    stands_at held low is many l at = by held guarded' low is many at where
      by : (hs : HeldLocks) (after : List G) → AreInRisingOrder hs → values_under hs values ≡ Some guarded → length after ≡ lock_count hs → is_lock_among hs l ≡ true
          → stands_under m (laid_under hs values after) l t ≡ pick hs (places m after t) l
      by (One a) [] low is many at = absurd (omega arith)
      by (One a) (v' ∷ []) low is many at = let v = under_one a values guarded is in
          ap (λ i. stands_under m (set values a v') i t) (among_one a l at) ∙ stands_here m (set values a v') a t v' (get_here values a v' (there values a v.0 v.1))
      by (One a) (v' ∷ u' ∷ us) low is many at = absurd (omega arith)
      by (Two a b) [] low is many at = absurd (omega arith)
      by (Two a b) (v' ∷ []) low is many at = absurd (omega arith)
      by (Two a b) (v' ∷ u' ∷ []) low is many at = let v = under_two a b values guarded is in let far : b ≢ a = λ e. omega arith in
          let at_b : slice_get (set values a v') b ≡ Some v.1 = get_else values a b v' far ∙ v.3 in ⊎_elim
          (λ (z : l ≡ a). ap (λ i. stands_under m (set (set values a v') b u') i t) z
          ∙ (stands_here m (set (set values a v') b u') a t v' (get_else (set values a v') b a u' (λ e. far (sym e)) ∙ get_here values a v' (there values a v.0 v.2))
          ∙ ap (λ c. if c then m.stands_in v' t else m.stands_in u' t) (sym (eq-eqb a l (sym z)))))
          (λ (z : l ≡ b). ap (λ i. stands_under m (set (set values a v') b u') i t) z
          ∙ (stands_here m (set (set values a v') b u') b t u' (get_here (set values a v') b u' (there (set values a v') b v.1 at_b))
          ∙ ap (λ c. if c then m.stands_in v' t else m.stands_in u' t) (sym (ne_eqb a l (λ e. far (sym z ∙ sym e))))))
          (among_two a b l at)
      by (Two a b) (v' ∷ u' ∷ w ∷ us) low is many at = absurd (omega arith)

    -- each declared thread stays, leaves a lock for the hand, or comes to a lock
    pub moved : (held : HeldLocks) (h h' : H) (change : Option WordChange) → AreInRisingOrder held → values_under held values ≡ Some guarded → length guarded ≡ lock_count held
        → Moves m held h guarded change h' guarded' → m.declared t ≡ true → Moved m held h h' values (laid_under held values guarded') t change
    moved held h h' change low is many law dec = by (about m change t) where
      many' : length guarded' ≡ lock_count held
      many' = law.count ∙ many

      else_same : (l : ℕ) → is_lock_among held l ≡ false → stands_under m (laid_under held values guarded') l t ≡ stands_under m values l t
      else_same l out = ap (λ o. in_value m o t) (laid_else values held guarded' l out)

      either_way : {X : Type 0} (l : ℕ) → (is_lock_among held l ≡ true → X) → (is_lock_among held l ≡ false → X) → X
      either_way l among out = ⊎_elim among out (bool_case (is_lock_among held l))

      by : About m change t → Moved m held h h' values (laid_under held values guarded') t change
      by (none far) = let k = law.others t dec far in stays far
          (λ l. either_way l (λ at. stands_at held low is many' l at ∙ (ap (λ xs. pick held xs l) k.0 ∙ sym (stood_at held low is l at))) (else_same l)) k.1
      by (blocks of) = let k = law.blocks t of in let some = pick_some held (places m guarded t) low (length_map (λ v. m.stands_in v t) guarded ∙ many) k.0 in
          left some.0 of some.1 (stood_at held low is some.0 some.1 ∙ some.2)
          (λ l st. either_way l (λ at. absurd (true≢false (sym st ∙ (stands_at held low is many' l at ∙ pick_none held (places m guarded' t) l k.1)))) (λ out. (sym (else_same l out) ∙ st, out))) k.2
      by (points j of) = let k = law.points t j of in
          let at_lock_is : (l : ℕ) → is_lock_among held l ≡ true → stands_under m (laid_under held values guarded') l t ≡ (l == j) = λ l at. stands_at held low is many' l at ∙ (ap (λ xs. pick held xs l) k.2 ∙ pick_lock held j l low at) in
          came j of
          (⊎_elim (λ e. inl e) (λ e. let some = pick_some held (places m guarded t) low (length_map (λ v. m.stands_in v t) guarded ∙ many) e in inr (some.0, some.1, stood_at held low is some.0 some.1 ∙ some.2)) k.0)
          k.1 (at_lock_is j k.1 ∙ eq-eqb j j refl)
          (λ l st. either_way l (λ at. inl (eqb-true l j (sym (at_lock_is l at) ∙ st))) (λ out. inr (sym (else_same l out) ∙ st, out))) k.3
