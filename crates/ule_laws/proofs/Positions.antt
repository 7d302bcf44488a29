-- A queued thread's position by count is its index in the bucket's list.
use Rattle.std.proofs.Common.{◌≡◌, ℕ, ◌+◌, ◌<◌, Bool, true, false, cond, not, ◌&&◌, ◌==◌, List, [], ◌∷◌, filter, count_by, Some, None, ◌⊎◌, inl, inr, ⊎_elim, refl, sym, ◌∙◌, ap, subst, arith}
use Rattle.std.specs.Prelude.{int_lt}
use Rattle.std.specs.List.{AllByRecursion, position, position_or_len, list_any}
use Rattle.std.proofs.lemmas.Bool.{cases_eq, eq-eqb, ne_eqb, or_from, or_left, or_right}
use Rattle.std.proofs.lemmas.List.Elements.{All-from_get_or}
use Rattle.std.proofs.lemmas.List.Folds.{list_any_none}
use Rattle.std.proofs.lemmas.List.Sums.{sum_by-cons}
use Rattle.ule_prio.specs.declared.kind.Kind.{Kind}
use Rattle.ule_runq.specs.Runq.{list_at, bucket_in, place_in}
use Rattle.ule_runq.proofs.Counts.{position-at, position-none}
use Rattle.ule_score.specs.declared.place.Place.{Place}
use Rattle.ule_score.specs.declared.place.Place.TheVariants.{Queued}
use Rattle.ule_model.specs.Finals.{position_of}
use Rattle.ule_model.specs.Insertion.{members_in}
use Rattle.ule_model.specs.Places.{waits_in}
use Rattle.ule_model.specs.Shows.{ShowsQueue, with_ordered, by_order, numbers_of, bucket_ids}
use Rattle.ule_model.specs.WellMade.{IsWellMade}
use Rattle.ule_model.specs.World.{Member}
use Rattle.ule_laws.proofs.ChoiceLaws.{bucket_within}
use Rattle.ule_members.proofs.Membership.{Has, all_has, all_from_has, has-filter, has_filtered, same_from_number, same_from_order}
use Rattle.ule_laws.proofs.PlaceLaws.{place_from_waits_in, waits_in_place}
use Rattle.ule_laws.proofs.Rising.{IsRising, rising-by_order, has_by_order, by_order_has, int_lt_other, int_lt_same}

-- ---- counts

-- the threads that pass two tests are those of the filtered list that pass the second
count-filter : {X : Type 0} (p q : X → Bool) (xs : List X) → count_by (λ x. p x && q x) xs ≡ count_by q (filter p xs)
count-filter p q [] = refl
count-filter p q (x ∷ xs) = sum_by-cons (λ y. cond (p y && q y) 1 0) x xs ∙ step p q x xs (p x) (count-filter p q xs)
  where
    step : {X : Type 0} (p q : X → Bool) (x : X) (xs : List X) (b : Bool) → count_by (λ y. p y && q y) xs ≡ count_by q (filter p xs) →
        cond (b && q x) 1 0 + count_by (λ y. p y && q y) xs ≡ count_by q (cond b (x ∷ filter p xs) (filter p xs))
    step p q x xs true same = ap (λ n. cond (q x) 1 0 + n) same ∙ sym (sum_by-cons (λ y. cond (q y) 1 0) x (filter p xs))
    step p q x xs false same = omega arith

-- ordering keeps a count
count-with_ordered : (q : Member → Bool) (m : Member) (ms : List Member) → count_by q (with_ordered m ms) ≡ cond (q m) 1 0 + count_by q ms
unfolding with_ordered
count-with_ordered q m [] = sum_by-cons (λ y. cond (q y) 1 0) m []
count-with_ordered q m (n ∷ ns) = step q m n ns (int_lt m.order n.order) (count-with_ordered q m ns)
  where
    step : (q : Member → Bool) (m n : Member) (ns : List Member) (b : Bool) → count_by q (with_ordered m ns) ≡ cond (q m) 1 0 + count_by q ns →
        count_by q (cond b (m ∷ n ∷ ns) (n ∷ with_ordered m ns)) ≡ cond (q m) 1 0 + count_by q (n ∷ ns)
    step q m n ns true rest = sum_by-cons (λ y. cond (q y) 1 0) m (n ∷ ns)
    step q m n ns false rest =
        let whole : count_by q (n ∷ with_ordered m ns) ≡ cond (q n) 1 0 + count_by q (with_ordered m ns) = sum_by-cons (λ y. cond (q y) 1 0) n (with_ordered m ns) in
        let parts : count_by q (n ∷ ns) ≡ cond (q n) 1 0 + count_by q ns = sum_by-cons (λ y. cond (q y) 1 0) n ns in
        omega arith

-- threads in order are counted as before
count-by_order : (q : Member → Bool) (ms : List Member) → count_by q (by_order ms) ≡ count_by q ms
unfolding by_order
count-by_order q [] = refl
count-by_order q (m ∷ ms) =
    count-with_ordered q m (by_order ms) ∙ ap (λ n. cond (q m) 1 0 + n) (count-by_order q ms) ∙ sym (sum_by-cons (λ y. cond (q y) 1 0) m ms)

-- nothing is counted where nothing passes
count_none : {X : Type 0} (q : X → Bool) (xs : List X) → AllByRecursion (λ x. q x ≡ false) xs → count_by q xs ≡ 0
count_none q [] all = refl
count_none q (x ∷ xs) all =
    let rest : count_by q xs ≡ 0 = count_none q xs all.1 in
    let here : cond {A = ℕ} (q x) 1 0 ≡ 0 = ap (λ b. cond {A = ℕ} b 1 0) all.0 in
    let parts : count_by q (x ∷ xs) ≡ cond (q x) 1 0 + count_by q xs = sum_by-cons (λ y. cond (q y) 1 0) x xs in
    omega arith

-- ---- the index in a bucket

-- n is m, or has another number and another order
abbrev IsOrDiffers : Member → Member → Type 0
IsOrDiffers m n = (n ≡ m) ⊎ ((n.thread.id ≡ m.thread.id → ⊥) × (n.order ≡ m.order → ⊥))

-- a thread's index in a rising list is how many have a smaller order
index_in_rising : (m : Member) (ns : List Member) → IsRising ns → Has m ns → AllByRecursion (IsOrDiffers m) ns →
    position_or_len (λ u. u == m.thread.id) (numbers_of ns) ≡ count_by (λ n. int_lt n.order m.order) ns
index_in_rising m [] rising has all = absurd has
index_in_rising m (n ∷ ns) rising has all =
    let parts : count_by (λ z. int_lt z.order m.order) (n ∷ ns) ≡ cond (int_lt n.order m.order) 1 0 + count_by (λ z. int_lt z.order m.order) ns = sum_by-cons (λ z. cond (int_lt z.order m.order) 1 0) n ns in
    ⊎_elim
    (λ (same : n ≡ m).
    let head : position_or_len (λ u. u == m.thread.id) (numbers_of (n ∷ ns)) ≡ 0 =
    ap (λ b. cond (not b) (1 + position_or_len (λ u. u == m.thread.id) (numbers_of ns)) 0) (eq-eqb n.thread.id m.thread.id (ap (λ z. z.thread.id) same)) in
    let none : count_by (λ z. int_lt z.order m.order) ns ≡ 0 = count_none (λ z. int_lt z.order m.order) ns (subst (λ (y : Member). AllByRecursion (λ z. int_lt z.order y.order ≡ false) ns) same rising.0) in
    let here : cond {A = ℕ} (int_lt n.order m.order) 1 0 ≡ 0 = ap (λ b. cond {A = ℕ} b 1 0) (ap (λ (z : Member). int_lt z.order m.order) same ∙ int_lt_same m.order) in
    omega arith)
    (λ (apart : (n.thread.id ≡ m.thread.id → ⊥) × (n.order ≡ m.order → ⊥)).
    let rest : Has m ns = ⊎_elim (λ (one : n ≡ m). absurd (apart.0 (ap (λ z. z.thread.id) one))) (λ (h : Has m ns). h) has in
    let step : position_or_len (λ u. u == m.thread.id) (numbers_of (n ∷ ns)) ≡ 1 + position_or_len (λ u. u == m.thread.id) (numbers_of ns) =
    ap (λ b. cond (not b) (1 + position_or_len (λ u. u == m.thread.id) (numbers_of ns)) 0) (ne_eqb n.thread.id m.thread.id apart.0) in
    let less : int_lt n.order m.order ≡ true = int_lt_other m.order n.order (all_has (λ z. int_lt z.order n.order ≡ false) m ns rising.0 rest) apart.1 in
    let one : cond {A = ℕ} (int_lt n.order m.order) 1 0 ≡ 1 = ap (λ b. cond {A = ℕ} b 1 0) less in
    let behind = index_in_rising m ns rising.1 rest all.1 in
    omega arith)
    all.0

-- two threads of one bucket are one, or have two numbers and two orders
is_or_differs : (c : ℕ) (k : Kind) (b : ℕ) (m n : Member) (ms : List Member) → IsWellMade ms → Has m ms → Has n ms → waits_in c k b m.place ≡ true → waits_in c k b n.place ≡ true → IsOrDiffers m n
is_or_differs c k b m n ms made first second one other =
    ⊎_elim
    (λ (same : n.thread.id ≡ m.thread.id). inl (same_from_number n m ms made second first same))
    (λ (numbers : n.thread.id ≡ m.thread.id → ⊥). inr (numbers, λ same. numbers (ap (λ z. z.thread.id) (same_from_order c k b n m ms made second first other one same))))
    (cases_eq n.thread.id m.thread.id)

-- a queued thread's position is the index of its number in its bucket
pub position_is_index : (c : ℕ) (k : Kind) (b : ℕ) (m : Member) (ms : List Member) → IsWellMade ms → Has m ms → m.place ≡ Queued c k b →
    position_or_len (λ u. u == m.thread.id) (bucket_ids c k b ms) ≡ position_of m.place m.order ms
position_is_index c k b m ms made has place =
    let waits : waits_in c k b m.place ≡ true = waits_in_place c k b m.place place in
    let inside : Has m (members_in c k b ms) = has-filter (λ z. waits_in c k b z.place) m ms has waits in
    index_in_rising m (by_order (members_in c k b ms)) (rising-by_order (members_in c k b ms)) (by_order_has m (members_in c k b ms) inside)
    (all_from_has (IsOrDiffers m) (by_order (members_in c k b ms)) (λ n stands.
    let theirs = has_filtered (λ z. waits_in c k b z.place) n ms (has_by_order n (members_in c k b ms) stands) in
    is_or_differs c k b m n ms made has theirs.0 waits theirs.1))
    ∙ count-by_order (λ n. int_lt n.order m.order) (members_in c k b ms)
    ∙ sym (count-filter (λ n. waits_in c k b n.place) (λ n. int_lt n.order m.order) ms)
    ∙ ap (λ (p : Place). position_of p m.order ms) (sym place)

-- ---- the place in a queue

-- a thread's number is among the numbers of the list in which it stands
has_number : (m : Member) (ns : List Member) → Has m ns → list_any (λ u. u == m.thread.id) (numbers_of ns) ≡ true
has_number m [] has = absurd has
has_number m (n ∷ ns) has =
    ⊎_elim
    (λ (same : n ≡ m). or_left (n.thread.id == m.thread.id) (list_any (λ u. u == m.thread.id) (numbers_of ns)) (eq-eqb n.thread.id m.thread.id (ap (λ z. z.thread.id) same)))
    (λ (rest : Has m ns). or_right (n.thread.id == m.thread.id) (list_any (λ u. u == m.thread.id) (numbers_of ns)) (has_number m ns rest))
    has

-- a number that no thread of a list has isn't among their numbers
lacks_number : (t : ℕ) (ns : List Member) → ((n : Member) → Has n ns → n.thread.id ≡ t → ⊥) → list_any (λ u. u == t) (numbers_of ns) ≡ false
lacks_number t [] lacks = refl
lacks_number t (n ∷ ns) lacks =
    or_from (n.thread.id == t) (list_any (λ u. u == t) (numbers_of ns)) (ne_eqb n.thread.id t (lacks n (inl refl))) (lacks_number t ns (λ z has. lacks z (inr has)))

-- a number that no thread of a bucket has isn't in the list that shows it
lacks_in_bucket : (lists : List (List ℕ)) (c : ℕ) (k : Kind) (ms : List Member) → ShowsQueue lists c k ms → (t b : ℕ) → b < 64 →
    ((n : Member) → Has n ms → n.thread.id ≡ t → n.place ≡ Queued c k b → ⊥) → list_any (λ u. u == t) (list_at lists b) ≡ false
lacks_in_bucket lists c k ms shows t b within lacks =
    ap (list_any (λ u. u == t)) (shows.each b within) ∙ lacks_number t (by_order (members_in c k b ms)) (λ n has same.
    let theirs = has_filtered (λ z. waits_in c k b z.place) n ms (has_by_order n (members_in c k b ms) has) in
    lacks n theirs.0 same (place_from_waits_in c k b n.place theirs.1))

-- a queued thread stands in the queue that shows it at its bucket and its position
pub place_in_shown : (lists : List (List ℕ)) (c : ℕ) (k : Kind) (b : ℕ) (m : Member) (ms : List Member) → ShowsQueue lists c k ms → IsWellMade ms →
    Has m ms → m.place ≡ Queued c k b → place_in lists m.thread.id ≡ Some (b, position_of m.place m.order ms)
unfolding bucket_in
place_in_shown lists c k b m ms shows made has place =
    let within : b < 64 = bucket_within c k b m ms made has place in
    let long = shows.buckets in
    let stands : Has m (by_order (members_in c k b ms)) = by_order_has m (members_in c k b ms) (has-filter (λ z. waits_in c k b z.place) m ms has (waits_in_place c k b m.place place)) in
    let found : position (list_any (λ u. u == m.thread.id)) lists ≡ Some b =
    position-at (list_any (λ u. u == m.thread.id)) lists b [] (omega arith)
    (λ e below. lacks_in_bucket lists c k ms shows m.thread.id e (omega arith) (λ n there same other. elsewhere c k b e below m n ms made has there same place other))
    (ap (list_any (λ u. u == m.thread.id)) (shows.each b within) ∙ has_number m (by_order (members_in c k b ms)) stands) in
    rw found (ap (λ n. Some (b, n)) (ap (position_or_len (λ u. u == m.thread.id)) (shows.each b within) ∙ position_is_index c k b m ms made has place))
  where
    same_bucket : (c : ℕ) (k : Kind) (b e : ℕ) → Queued c k b ≡ Queued c k e → b ≡ e
    same_bucket c k b e same = cc

    elsewhere : (c : ℕ) (k : Kind) (b e : ℕ) → e < b → (m n : Member) (ms : List Member) → IsWellMade ms → Has m ms → Has n ms →
        n.thread.id ≡ m.thread.id → m.place ≡ Queued c k b → n.place ≡ Queued c k e → ⊥
    elsewhere c k b e below m n ms made has there same place other =
        let one : b ≡ e = same_bucket c k b e (sym place ∙ ap (λ (z : Member). z.place) (sym (same_from_number n m ms made there has same)) ∙ other) in
        omega arith

-- a number of which no thread waits in a queue has no place in the lists that show it
pub place_in_lacks : (lists : List (List ℕ)) (c : ℕ) (k : Kind) (t : ℕ) (ms : List Member) → ShowsQueue lists c k ms →
    ((n : Member) → Has n ms → n.thread.id ≡ t → (b : ℕ) → n.place ≡ Queued c k b → ⊥) → place_in lists t ≡ None
unfolding bucket_in
place_in_lacks lists c k t ms shows lacks =
    let long = shows.buckets in
    let none : list_any (list_any (λ u. u == t)) lists ≡ false =
    list_any_none (list_any (λ u. u == t)) lists (All-from_get_or (λ xs. list_any (λ u. u == t) xs ≡ false) lists [] (λ b below.
    lacks_in_bucket lists c k ms shows t b (omega arith) (λ n has same. lacks n has same b))) in
    rw (position-none (list_any (λ u. u == t)) lists none) refl
