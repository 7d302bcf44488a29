-- The order of integers as a test, and the laws of threads by rising order.
use Rattle.std.proofs.Common.{◌≡◌, ℕ, Bool, true, false, cond, List, [], ◌∷◌, Option, Some, None, slice_get, option_map, ◌⊎◌, inl, inr, ⊎_elim, refl, sym, ◌∙◌, subst, arith, ℤ}
use Rattle.std.specs.Prelude.{int_lt}
use Rattle.std.specs.List.{AllByRecursion}
use Rattle.std.proofs.lemmas.Bool.{true_from_ne_false}
use Rattle.std.proofs.lemmas.Int.{ints}
use Rattle.std.proofs.lemmas.Option.{slice_get-map, same_Some, none-some}
use Rattle.ule_model.specs.Shows.{with_ordered, by_order, numbers_of}
use Rattle.ule_model.specs.World.{Member}
use Rattle.ule_laws.proofs.Orders.{lt_not_back}
use Rattle.ule_members.proofs.Membership.{Has, all_has, all_from_has}

-- two integers of which none is the smaller are equal
pub int_same : (x y : ℤ) → int_lt x y ≡ false → int_lt y x ≡ false → x ≡ y
int_same x y h g = grind (arith, ints)

-- what isn't smaller than a second isn't smaller than a third that the second exceeds
pub int_ge_from_lt : (x y z : ℤ) → int_lt z y ≡ true → int_lt x y ≡ false → int_lt x z ≡ false
int_ge_from_lt x y z h g = grind (arith, ints)

-- of two integers that differ, where one isn't the smaller the other is
pub int_lt_other : (x y : ℤ) → int_lt x y ≡ false → (y ≡ x → ⊥) → int_lt y x ≡ true
int_lt_other x y h apart = true_from_ne_false (int_lt y x) (λ g. apart (int_same y x g h))

-- no integer is smaller than itself
pub int_lt_same : (x : ℤ) → int_lt x x ≡ false
int_lt_same x = grind (arith, ints)

-- each thread's order is no smaller than those before it
abbrev pub IsRising : List Member → Type 0
IsRising [] = Unit {0}
IsRising (m ∷ ms) = AllByRecursion (λ n. int_lt n.order m.order ≡ false) ms × IsRising ms

-- what stands in an ordered list with one more is that one or stood there
pub has_with_ordered : (z m : Member) (ms : List Member) → Has z (with_ordered m ms) → (m ≡ z) ⊎ Has z ms
unfolding with_ordered
has_with_ordered z m [] has = has
has_with_ordered z m (n ∷ ns) has = step z m n ns (int_lt m.order n.order) (has_with_ordered z m ns) has
  where
    step : (z m n : Member) (ns : List Member) (b : Bool) → (Has z (with_ordered m ns) → (m ≡ z) ⊎ Has z ns) → Has z (cond b (m ∷ n ∷ ns) (n ∷ with_ordered m ns)) → (m ≡ z) ⊎ Has z (n ∷ ns)
    step z m n ns true rest has = has
    step z m n ns false rest has =
        ⊎_elim (λ (same : n ≡ z). inr (inl same))
        (λ (behind : Has z (with_ordered m ns)). ⊎_elim (λ (one : m ≡ z). inl one) (λ (other : Has z ns). inr (inr other)) (rest behind))
        has

-- what is one more, or stood in an ordered list, stands in it with one more
pub with_ordered_has : (z m : Member) (ms : List Member) → (m ≡ z) ⊎ Has z ms → Has z (with_ordered m ms)
unfolding with_ordered
with_ordered_has z m [] has = has
with_ordered_has z m (n ∷ ns) has = step z m n ns (int_lt m.order n.order) (with_ordered_has z m ns) has
  where
    step : (z m n : Member) (ns : List Member) (b : Bool) → ((m ≡ z) ⊎ Has z ns → Has z (with_ordered m ns)) → (m ≡ z) ⊎ Has z (n ∷ ns) → Has z (cond b (m ∷ n ∷ ns) (n ∷ with_ordered m ns))
    step z m n ns true rest has = has
    step z m n ns false rest has =
        ⊎_elim (λ (one : m ≡ z). inr (rest (inl one)))
        (λ (other : (n ≡ z) ⊎ Has z ns). ⊎_elim (λ (same : n ≡ z). inl same) (λ (behind : Has z ns). inr (rest (inr behind))) other)
        has

-- ordering keeps which threads stand in the list
pub has_by_order : (z : Member) (ms : List Member) → Has z (by_order ms) → Has z ms
unfolding by_order
has_by_order z [] has = has
has_by_order z (m ∷ ms) has =
    ⊎_elim (λ (same : m ≡ z). inl same) (λ (rest : Has z (by_order ms)). inr (has_by_order z ms rest)) (has_with_ordered z m (by_order ms) has)

-- a thread of a list stands in it in order
pub by_order_has : (z : Member) (ms : List Member) → Has z ms → Has z (by_order ms)
unfolding by_order
by_order_has z [] has = has
by_order_has z (m ∷ ms) has =
    with_ordered_has z m (by_order ms) (⊎_elim (λ (same : m ≡ z). inl same) (λ (rest : Has z ms). inr (by_order_has z ms rest)) has)

-- one more thread keeps the orders rising
pub rising-with_ordered : (m : Member) (ms : List Member) → IsRising ms → IsRising (with_ordered m ms)
unfolding with_ordered
rising-with_ordered m [] rising = (tt, tt)
rising-with_ordered m (n ∷ ns) rising = step m n ns (int_lt m.order n.order) refl rising (rising-with_ordered m ns rising.1)
  where
    step : (m n : Member) (ns : List Member) (b : Bool) → int_lt m.order n.order ≡ b → IsRising (n ∷ ns) → IsRising (with_ordered m ns) → IsRising (cond b (m ∷ n ∷ ns) (n ∷ with_ordered m ns))
    step m n ns true is rising rest = (
      (
        lt_not_back m.order n.order is,
        all_from_has (λ z. int_lt z.order m.order ≡ false) ns (λ z has.
            int_ge_from_lt z.order n.order m.order is (all_has (λ y. int_lt y.order n.order ≡ false) z ns rising.0 has)),
      ),
      rising,
    )
    step m n ns false is rising rest = (
      all_from_has (λ z. int_lt z.order n.order ≡ false) (with_ordered m ns) (λ z has.
          ⊎_elim (λ (same : m ≡ z). subst (λ (y : Member). int_lt y.order n.order ≡ false) same is)
          (λ (other : Has z ns). all_has (λ y. int_lt y.order n.order ≡ false) z ns rising.0 other)
          (has_with_ordered z m ns has)),
      rest,
    )

-- threads in order have rising orders
pub rising-by_order : (ms : List Member) → IsRising (by_order ms)
unfolding by_order
rising-by_order [] = tt
rising-by_order (m ∷ ms) = rising-with_ordered m (by_order ms) (rising-by_order ms)

-- no thread of these has a smaller order
pub record IsLeastOf (m : Member) (ms : List Member) : Type 0 where
  pub here : Has m ms
  pub least : (n : Member) → Has n ms → int_lt n.order m.order ≡ false

-- the head of a rising list is the least
pub rising_head : (m : Member) (ms : List Member) → IsRising ms → slice_get ms 0 ≡ Some m → IsLeastOf m ms
rising_head m [] rising head = absurd (none-some m head)
rising_head m (x ∷ xs) rising head = subst (λ (z : Member). IsLeastOf z (x ∷ xs)) (same_Some x m head) (record {
  here = inl refl;
  least = λ n has. ⊎_elim (λ (same : x ≡ n). subst (λ (z : Member). int_lt z.order x.order ≡ false) same (int_lt_same x.order))
      (λ (rest : Has n xs). all_has (λ z. int_lt z.order x.order ≡ false) n xs rising.0 rest) has;
})

-- the head of the numbers of ordered threads is the number of the least of them
pub head_by_order : (t : ℕ) (ms : List Member) → slice_get (numbers_of (by_order ms)) 0 ≡ Some t → (m : Member) × (m.thread.id ≡ t) × IsLeastOf m ms
head_by_order t ms head = step (slice_get (by_order ms) 0) refl (sym (slice_get-map (λ (m : Member). m.thread.id) (by_order ms) 0) ∙ head)
  where
    step : (o : Option Member) → slice_get (by_order ms) 0 ≡ o → option_map (λ (m : Member). m.thread.id) o ≡ Some t → (m : Member) × (m.thread.id ≡ t) × IsLeastOf m ms
    step None is found = absurd (none-some t found)
    step (Some m) is found =
        let first : IsLeastOf m (by_order ms) = rising_head m (by_order ms) (rising-by_order ms) is in (
          m,
          same_Some m.thread.id t found,
          record {
            here = has_by_order m ms first.here;
            least = λ n has. first.least n (by_order_has n ms has);
          },
        )
