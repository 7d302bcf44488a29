-- What is found under a lock, in lists of locks with their values.
use Rattle.std.proofs.Common.{◌≡◌, ◌≢◌, ◌⊎◌, ℕ, true, false, List, [], ◌∷◌, refl, sym, ap, ◌∙◌, subst, inl, inr, ⊎_elim, true≢false, eq-eqb, ne_eqb}
use Rattle.std.specs.Prelude.{Option, Some, None, is_some, nat_lt, if◌then◌else◌}
use Rattle.std.proofs.lemmas.Option.{none-some, same_Some}
use mathlib.Core.Logic.{dite}
use native.Mathlib.Decide.{ℕ_discrete}
use Rattle.ule_micro.specs.declared.entry.HeldLocks.{HeldLocks}
use Rattle.ule_micro.specs.declared.entry.HeldLocks.TheVariants.{One, Two}
use Rattle.ule_micro.specs.Histories.{is_lock_among}
use Rattle.ule_micro.proofs.Among.{among_one, among_two, bool_case}
use Rattle.ule_words.specs.Held.{value_held, is_held, held_but, in_rising_order, locks_of}

module _ {G : Type 0} where
  -- the first lock has its value
  pub found_here : (x : ℕ × G) (held : List (ℕ × G)) (l : ℕ) → x.0 ≡ l → value_held (x ∷ held) l ≡ Some x.1
  found_here x held l e = ap (λ b. if b then Some x.1 else value_held held l) (eq-eqb x.0 l e)

  -- another lock has what it has among the others
  pub found_else : (x : ℕ × G) (held : List (ℕ × G)) (l : ℕ) → x.0 ≢ l → value_held (x ∷ held) l ≡ value_held held l
  found_else x held l n = ap (λ b. if b then Some x.1 else value_held held l) (ne_eqb x.0 l n)

  some_value : (o : Option G) → is_some o ≡ true → (v : G) × (o ≡ Some v)
  some_value None e = absurd (true≢false (sym e))
  some_value (Some v) e = (v, refl)

  no_value : (o : Option G) → is_some o ≡ false → o ≡ None
  no_value None e = refl
  no_value (Some v) e = absurd (true≢false e)

  -- a lock that is held has a value
  pub held_value : (held : List (ℕ × G)) (l : ℕ) → is_held held l ≡ true → (v : G) × (value_held held l ≡ Some v)
  held_value held l e = some_value (value_held held l) e

  -- a lock that is not held has none
  pub unheld_value : (held : List (ℕ × G)) (l : ℕ) → is_held held l ≡ false → value_held held l ≡ None
  unheld_value held l e = no_value (value_held held l) e

  -- the first lock is held
  pub held_first : (x : ℕ × G) (held : List (ℕ × G)) (l : ℕ) → x.0 ≡ l → is_held (x ∷ held) l ≡ true
  held_first x held l e = ap is_some (found_here x held l e)

  -- a lock that is held among the others is held
  pub held_later : (x : ℕ × G) (held : List (ℕ × G)) (l : ℕ) → is_held held l ≡ true → is_held (x ∷ held) l ≡ true
  held_later x held l h = dite (ℕ_discrete x.0 l) (λ e. held_first x held l e) (λ n. ap is_some (found_else x held l n) ∙ h)

  -- what is held beside a lock has no value for it
  pub but_here : (held : List (ℕ × G)) (l : ℕ) → value_held (held_but l held) l ≡ None
  but_here [] l = refl
  but_here (x ∷ held) l = dite (ℕ_discrete x.0 l)
      (λ e. ap (λ b. value_held (if b then held_but l held else x ∷ held_but l held) l) (eq-eqb x.0 l e) ∙ but_here held l)
      (λ n. ap (λ b. value_held (if b then held_but l held else x ∷ held_but l held) l) (ne_eqb x.0 l n) ∙ (found_else x (held_but l held) l n ∙ but_here held l))

  -- and has what it had for every other lock
  pub but_else : (held : List (ℕ × G)) (l k : ℕ) → k ≢ l → value_held (held_but l held) k ≡ value_held held k
  but_else [] l k n = refl
  but_else (x ∷ held) l k n = dite (ℕ_discrete x.0 l)
      (λ e. ap (λ b. value_held (if b then held_but l held else x ∷ held_but l held) k) (eq-eqb x.0 l e) ∙ (but_else held l k n ∙ sym (found_else x held k (λ f. n (sym f ∙ e)))))
      (λ d. ap (λ b. value_held (if b then held_but l held else x ∷ held_but l held) k) (ne_eqb x.0 l d) ∙ dite (ℕ_discrete x.0 k)
      (λ f. found_here x (held_but l held) k f ∙ sym (found_here x held k f))
      (λ f. found_else x (held_but l held) k f ∙ (but_else held l k n ∙ sym (found_else x held k f))))

rising_among : (a b l : ℕ) → is_lock_among (in_rising_order a b) l ≡ true → (l ≡ a) ⊎ (l ≡ b)
rising_among a b l e = ⊎_elim
    (λ t. among_two a b l (ap (λ c. is_lock_among (if c then Two a b else Two b a) l) (sym t) ∙ e))
    (λ f. ⊎_elim (λ z. inr z) (λ z. inl z) (among_two b a l (ap (λ c. is_lock_among (if c then Two a b else Two b a) l) (sym f) ∙ e)))
    (bool_case (nat_lt a b))

module _ {G : Type 0} where
  -- the locks of what is held are held
  pub locks_held : (held : List (ℕ × G)) (locks : HeldLocks) (l : ℕ) → locks_of held ≡ Some locks → is_lock_among locks l ≡ true → is_held held l ≡ true
  locks_held [] locks l e a = absurd (none-some locks e)
  locks_held (x ∷ []) locks l e a = held_first x [] l (sym (among_one x.0 l (subst (λ z. is_lock_among z l ≡ true) (sym (same_Some (One x.0) locks e)) a)))
  locks_held (x ∷ y ∷ held) locks l e a = ⊎_elim (λ z. held_first x (y ∷ held) l (sym z)) (λ z. held_later x (y ∷ held) l (held_first y held l (sym z)))
      (rising_among x.0 y.0 l (subst (λ z. is_lock_among z l ≡ true) (sym (same_Some (in_rising_order x.0 y.0) locks e)) a))

  -- a worker that holds a lock holds no locks of none
  pub no_locks : (held : List (ℕ × G)) (l : ℕ) → locks_of held ≡ None → is_held held l ≡ false
  no_locks [] l e = refl
  no_locks (x ∷ []) l e = absurd (none-some (One x.0) (sym e))
  no_locks (x ∷ y ∷ held) l e = absurd (none-some (in_rising_order x.0 y.0) (sym e))
