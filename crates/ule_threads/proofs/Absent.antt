-- Tables in which nothing stands.
use Rattle.std.proofs.Common.{◌≡◌, ℕ, zero, suc, List, [], ◌∷◌, length, replicate, slice_index_or, Option, None, refl, arith}

-- a list whose items are all absent is made of so many absent items
pub absent_throughout : {X : Type 0} (n : ℕ) (items : List (Option X)) → length items ≡ n →
    ((t : ℕ) → slice_index_or items t None ≡ None) → items ≡ replicate n None
absent_throughout zero [] len none = refl
absent_throughout (suc n) [] len none = absurd (omega arith)
absent_throughout zero (r ∷ items) len none = absurd (omega arith)
absent_throughout (suc n) (r ∷ items) len none = rw (none 0, absent_throughout n items (omega arith) (λ t. none (suc t))) refl
