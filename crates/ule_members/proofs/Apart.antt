-- Which threads are apart after one of them got another place.
use Rattle.std.proofs.Common.{◌≡◌, ◌≢◌, ℕ, ◌==◌, ℤ, pos, ◌+ℤ◌, ◌-ℤ◌, ◌≤ℤ◌, Bool, true, false, ◌&&◌, List, [], ◌∷◌, map, filter, fold, if◌then◌else◌, refl, sym, ◌∙◌, ap, arith, int_lt}
use Rattle.std.specs.Int.{int_max, int_min}
use Rattle.std.specs.List.{AllByRecursion}
use Rattle.std.proofs.lemmas.Bool.{and_parts, both_ways, eqb-true, or_parts}
use Rattle.std.proofs.lemmas.Int.{ints, fold-int_max_bounds, fold-int_min_bounds}
use Rattle.std.proofs.lemmas.List.Elements.{recursion_from_All}
use Rattle.ule_prio.specs.declared.kind.Kind.{Kind}
use Rattle.ule_score.specs.declared.place.Place.{Place}
use Rattle.ule_score.specs.declared.place.Place.TheVariants.{Running, Queued, Asleep, Unborn, Gone, Hand}
use Rattle.ule_model.specs.declared.insertion.Insertion.{Insertion}
use Rattle.ule_model.specs.declared.insertion.Insertion.TheVariants.{Ordinary, Borrowing, Preempted}
use Rattle.ule_model.specs.Insertion.{head_order, members_in, order_of, tail_order}
use Rattle.ule_model.specs.Places.{is_kind, is_on, rank_of, runs_on, waits_in, waits_on}
use Rattle.ule_model.specs.WellMade.{AreApart}
use Rattle.ule_model.specs.World.{Member}
use Rattle.ule_members.proofs.Within.{all_along}

-- ---- two threads

-- a thread in a bucket of a CPU is queued on it
pub waits_on_where : (c : ℕ) (k : Kind) (b : ℕ) (place : Place) → waits_in c k b place ≡ true → waits_on c place ≡ true
waits_on_where c k b (Running d) here = here
waits_on_where c k b (Queued d j e) here = (and_parts (c == d) (is_kind k j && (b == e)) here).0
waits_on_where c k b (Asleep channel) here = here
waits_on_where c k b Unborn here = here
waits_on_where c k b Gone here = here
waits_on_where c k b (Hand w) here = here

-- a thread that keeps its number, place and order is apart from each that it was apart from
pub apart_kept : (m n k : Member) → n.thread.id ≡ m.thread.id → n.place ≡ m.place → n.order ≡ m.order → AreApart m k → AreApart n k
apart_kept m n k id place order h = record {
  numbers = λ same. h.numbers (sym id ∙ same);
  orders = λ c j b here there same. h.orders c j b (ap (waits_in c j b) (sym place) ∙ here) there (sym order ∙ same);
  running = λ c here there. h.running c (ap (runs_on c) (sym place) ∙ here) there;
}

-- a thread on no CPU is apart from each of another number
pub apart_off : (m n : Member) → m.thread.id ≢ n.thread.id → ((c : ℕ) → is_on c m.place ≡ false) → AreApart m n
apart_off m n numbers off = record {
  numbers = numbers;
  orders = λ c k b here there same.
      both_ways (waits_on c m.place) (or_parts (runs_on c m.place) (waits_on c m.place) (off c)).1 (waits_on_where c k b m.place here);
  running = λ c here there. both_ways (runs_on c m.place) (or_parts (runs_on c m.place) (waits_on c m.place) (off c)).0 here;
}

-- a thread that runs is apart from each of another number that doesn't run on its CPU
pub apart_running : (c : ℕ) (m n : Member) → m.thread.id ≢ n.thread.id → m.place ≡ Running c → runs_on c n.place ≡ false → AreApart m n
apart_running c m n numbers place idle = record {
  numbers = numbers;
  orders = λ d k b here there same. both_ways false refl (ap (waits_in d k b) (sym place) ∙ here);
  running = λ d here there.
      both_ways (runs_on d n.place) (ap (λ i. runs_on i n.place) (eqb-true d c (ap (runs_on d) (sym place) ∙ here)) ∙ idle) there;
}

-- of two places in one bucket, what the first is in the second is in
same_bucket : (c d : ℕ) (k j : Kind) (b e : ℕ) (place : Place) → waits_in d j e (Queued c k b) ≡ true → waits_in d j e place ≡ true → waits_in c k b place ≡ true
same_bucket c d k j b e (Queued f l g) here there =
    let parts = and_parts (d == c) (is_kind j k && (e == b)) here in
    let inner = and_parts (is_kind j k) (e == b) parts.1 in
    ap (λ i. (i == f) && (is_kind k l && (b == g))) (sym (eqb-true d c parts.0)) ∙
    ap (λ r. (d == f) && ((r == rank_of l) && (b == g))) (sym (eqb-true (rank_of j) (rank_of k) inner.0)) ∙
    ap (λ i. (d == f) && (is_kind j l && (i == g))) (sym (eqb-true e b inner.1)) ∙ there
same_bucket c d k j b e (Running f) here there = there
same_bucket c d k j b e (Asleep channel) here there = there
same_bucket c d k j b e Unborn here there = there
same_bucket c d k j b e Gone here there = there
same_bucket c d k j b e (Hand w) here there = there

-- a queued thread is apart from each of another number that has another order in its bucket
pub apart_queued : (c : ℕ) (k : Kind) (b : ℕ) (m n : Member) → m.thread.id ≢ n.thread.id → m.place ≡ Queued c k b →
    (waits_in c k b n.place ≡ true → m.order ≢ n.order) → AreApart m n
apart_queued c k b m n numbers place orders = record {
  numbers = numbers;
  orders = λ d j e here there. orders (same_bucket c d k j b e n.place (ap (waits_in d j e) (sym place) ∙ here) there);
  running = λ d here there. both_ways false refl (ap (runs_on d) (sym place) ∙ here);
}

-- ---- the orders of a bucket

-- the orders of the threads in a bucket
abbrev pub orders_in : ℕ → Kind → ℕ → List Member → List ℤ
orders_in c k b ms = map (λ m. m.order) (members_in c k b ms)

-- what holds of each image holds of each by its image
pub all_from_map : {X Y : Type 0} (g : X → Y) (P : Y → Type 0) (xs : List X) → AllByRecursion P (map g xs) → AllByRecursion (λ x. P (g x)) xs
all_from_map g P [] all = tt
all_from_map g P (x ∷ xs) all = (all.0, all_from_map g P xs all.1)

-- what holds of each that a filter keeps holds of each that passes
pub all_from_filter : {X : Type 0} (p : X → Bool) (P : X → Type 0) (xs : List X) → AllByRecursion P (filter p xs) → AllByRecursion (λ x. p x ≡ true → P x) xs
all_from_filter p P [] all = tt
all_from_filter p P (x ∷ xs) all = step (p x) refl all (all_from_filter p P xs)
  where
    step : (b : Bool) → p x ≡ b → AllByRecursion P (if b then x ∷ filter p xs else filter p xs) →
        (AllByRecursion P (filter p xs) → AllByRecursion (λ y. p y ≡ true → P y) xs) → AllByRecursion (λ y. p y ≡ true → P y) (x ∷ xs)
    step true is kept rest = (λ passes. kept.0, rest kept.1)
    step false is kept rest = (λ passes. absurd (both_ways (p x) is passes), rest kept)

-- two orders of which one is less differ
pub lt_apart : (a b : ℤ) → int_lt a b ≡ true → a ≢ b
lt_apart a b low = grind (arith, ints)

-- the order of the tail is above each
pub tail_order_above : (os : List ℤ) → AllByRecursion (λ o. int_lt o (tail_order os) ≡ true) os
tail_order_above [] = tt
tail_order_above (o ∷ os) =
    let bounds = fold-int_max_bounds o os (fold int_max o os) refl in (
      raised o (fold int_max o os) bounds.0,
      all_along (λ x. x ≤ℤ fold int_max o os) (λ x. int_lt x (fold int_max o os +ℤ pos 1) ≡ true) os (λ x le. raised x (fold int_max o os) le)
          (recursion_from_All (λ x. x ≤ℤ fold int_max o os) os bounds.1),
    )
  where
    raised : (x r : ℤ) → x ≤ℤ r → int_lt x (r +ℤ pos 1) ≡ true
    raised x r le = grind (arith, ints)

-- the order of the head is below each
pub head_order_below : (os : List ℤ) → AllByRecursion (λ o. int_lt (head_order os) o ≡ true) os
head_order_below [] = tt
head_order_below (o ∷ os) =
    let bounds = fold-int_min_bounds o os (fold int_min o os) refl in (
      lowered o (fold int_min o os) bounds.0,
      all_along (λ x. fold int_min o os ≤ℤ x) (λ x. int_lt (fold int_min o os -ℤ pos 1) x ≡ true) os (λ x le. lowered x (fold int_min o os) le)
          (recursion_from_All (λ x. fold int_min o os ≤ℤ x) os bounds.1),
    )
  where
    lowered : (x r : ℤ) → r ≤ℤ x → int_lt (r -ℤ pos 1) x ≡ true
    lowered x r le = grind (arith, ints)

-- the order of an insertion is none of those that are there
pub order_of_apart : (how : Insertion) (os : List ℤ) → AllByRecursion (λ o. order_of how os ≢ o) os
order_of_apart Ordinary os = all_along (λ o. int_lt o (tail_order os) ≡ true) (λ o. tail_order os ≢ o) os (λ o low same. lt_apart o (tail_order os) low (sym same)) (tail_order_above os)
order_of_apart Borrowing os = all_along (λ o. int_lt o (tail_order os) ≡ true) (λ o. tail_order os ≢ o) os (λ o low same. lt_apart o (tail_order os) low (sym same)) (tail_order_above os)
order_of_apart Preempted os = all_along (λ o. int_lt (head_order os) o ≡ true) (λ o. head_order os ≢ o) os (λ o low. lt_apart (head_order os) o low) (head_order_below os)
