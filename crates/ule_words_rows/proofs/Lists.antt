-- Passes that are taken off the end of a list.
use Rattle.std.proofs.Common.{◌≡◌, List, [], ◌∷◌, ◌++◌, length, ap, ◌∙◌, arith, length-append}
use Rattle.std.specs.Prelude.{Some, slice_get}
use Rattle.atomic_table.specs.Seated.{TableId}
use Rattle.ule_micro.specs.Means.{Means}
use Rattle.ule_words.specs.Passes.{PassState}
use Rattle.ule_words.specs.Starts.{AreFirstPasses}
use Rattle.ule_words_rows.specs.Firsts.{IsFirstPass}

-- two items that were taken off the end of a list of two
two_of : {X : Type 0} (items l1 l0 : List X) (a b : X) → items ≡ l1 ++ b ∷ [] → l1 ≡ l0 ++ a ∷ [] → length items ≡ 2 → (slice_get items 0 ≡ Some a) × (slice_get items 1 ≡ Some b)
two_of items l1 [] a b e f len = let p : items ≡ a ∷ b ∷ [] = e ∙ ap (λ z. z ++ b ∷ []) f in (ap (λ l. slice_get l 0) p, ap (λ l. slice_get l 1) p)
two_of items l1 (x ∷ l0) a b e f len = absurd (let p = ap length (e ∙ ap (λ z. z ++ b ∷ []) f) in let q = length-append ((x ∷ l0) ++ a ∷ []) (b ∷ []) in let r = length-append (x ∷ l0) (a ∷ []) in omega arith)

module _ {H O G E R C : Type 0} (m : Means H O G E R C) (z : TableId) (items l1 l0 : List (PassState O H G E R)) (a b : PassState O H G E R) (are : AreFirstPasses m 2 z items) (e : items ≡ l1 ++ b ∷ []) (f : l1 ≡ l0 ++ a ∷ []) where
  -- the first of two passes
  pub first_of_two : IsFirstPass m 0 z a
  first_of_two = let k = are.each 0 a (two_of items l1 l0 a b e f are.count).0 in record { table = k.0; own = k.1; worker = k.2 }

  -- the second of two passes
  pub second_of_two : IsFirstPass m 1 z b
  second_of_two = let k = are.each 1 b (two_of items l1 l0 a b e f are.count).1 in record { table = k.0; own = k.1; worker = k.2 }
