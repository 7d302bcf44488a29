-- Which locks are among those that an event holds.
use Rattle.std.proofs.Common.{◌≡◌, ◌≢◌, ◌⊎◌, ℕ, Bool, true, false, eq-eqb, ne_eqb, sym, refl, ap, ◌∙◌, inl, inr, true≢false}
use Rattle.std.specs.Prelude.{◌||◌, ◌==◌}
use mathlib.Core.Logic.{dite}
use native.Mathlib.Decide.{ℕ_discrete}
use Rattle.ule_micro.specs.declared.entry.HeldLocks.{HeldLocks}
use Rattle.ule_micro.specs.declared.entry.HeldLocks.TheVariants.{One, Two}
use Rattle.ule_micro.specs.Histories.{is_lock_among}

-- one of two locks
pub among_one : (a l : ℕ) → is_lock_among (One a) l ≡ true → l ≡ a
among_one a l e = dite (ℕ_discrete a l) (λ z. sym z) (λ n. absurd (true≢false (sym e ∙ ne_eqb a l n)))

-- a lock is among itself
pub among_this : (a : ℕ) → is_lock_among (One a) a ≡ true
among_this a = eq-eqb a a refl

or_right : (x : Bool) → (x || true) ≡ true
or_right true = refl
or_right false = refl

-- the first of two locks is among them
pub among_first : (a b : ℕ) → is_lock_among (Two a b) a ≡ true
among_first a b = ap (λ x. x || (b == a)) (eq-eqb a a refl)

-- the second of two locks is among them
pub among_second : (a b : ℕ) → is_lock_among (Two a b) b ≡ true
among_second a b = ap (λ x. (a == b) || x) (eq-eqb b b refl) ∙ or_right (a == b)

-- some lock is among those that are held
pub first_among : (held : HeldLocks) → (l : ℕ) × (is_lock_among held l ≡ true)
first_among (One a) = (a, among_this a)
first_among (Two a b) = (a, among_first a b)

-- a lock among two is one of them
pub among_two : (a b l : ℕ) → is_lock_among (Two a b) l ≡ true → (l ≡ a) ⊎ (l ≡ b)
among_two a b l e = dite (ℕ_discrete a l) (λ z. inl (sym z)) (λ n. inr (among_one b l (sym (ap (λ x. x || (b == l)) (ne_eqb a l n)) ∙ e)))

-- another lock is not the one
pub not_among_one : (a l : ℕ) → l ≢ a → is_lock_among (One a) l ≡ false
not_among_one a l n = ne_eqb a l (λ e. n (sym e))

-- a third lock is not among two
pub not_among_two : (a b l : ℕ) → l ≢ a → l ≢ b → is_lock_among (Two a b) l ≡ false
not_among_two a b l n k = ap (λ x. x || (b == l)) (ne_eqb a l (λ e. n (sym e))) ∙ ne_eqb b l (λ e. k (sym e))

-- a test is true or false
pub bool_case : (b : Bool) → (b ≡ true) ⊎ (b ≡ false)
bool_case true = inl refl
bool_case false = inr refl
