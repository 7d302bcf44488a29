-- The laws of lists in order, and of the orders that an insertion gives.
use Rattle.std.proofs.Common.{◌≡◌, ◌≢◌, ℕ, suc, ◌==◌, ℤ, Bool, true, false, not, List, [], ◌∷◌, ◌++◌, map, filter, length, if◌then◌else◌, refl, sym, ◌∙◌, ap, arith, int_lt}
use Rattle.std.specs.List.{AllByRecursion}
use Rattle.std.proofs.lemmas.Bool.{eq-eqb}
use Rattle.std.proofs.lemmas.Int.{ints}
use Rattle.ule_model.specs.Shows.{with_ordered, by_order, numbers_of}
use Rattle.ule_model.specs.World.{Member, is_numbered}
use Rattle.ule_members.proofs.Within.{Lacks, all-append, all_along}
use Rattle.ule_members.proofs.Apart.{lt_apart}

-- ---- one more in order

-- one more in order is one more
pub length-with_ordered : (m : Member) (ns : List Member) → length (with_ordered m ns) ≡ length (m ∷ ns)
unfolding with_ordered
length-with_ordered m [] = refl
length-with_ordered m (n ∷ ns) = step (int_lt m.order n.order) (length-with_ordered m ns)
  where
    step : (b : Bool) → length (with_ordered m ns) ≡ length (m ∷ ns) → length (if b then m ∷ n ∷ ns else n ∷ with_ordered m ns) ≡ length (m ∷ n ∷ ns)
    step true e = refl
    step false e = ap (λ k. suc k) e

-- what holds of it and of each holds of each then
pub all-with_ordered : (P : Member → Type 0) (m : Member) (ns : List Member) → P m → AllByRecursion P ns → AllByRecursion P (with_ordered m ns)
unfolding with_ordered
all-with_ordered P m [] here all = (here, tt)
all-with_ordered P m (n ∷ ns) here all = step (int_lt m.order n.order) (all-with_ordered P m ns here all.1)
  where
    step : (b : Bool) → AllByRecursion P (with_ordered m ns) → AllByRecursion P (if b then m ∷ n ∷ ns else n ∷ with_ordered m ns)
    step true rest = (here, all)
    step false rest = (all.0, rest)

-- one above all the others stands last
pub with_ordered_last : (m : Member) (ns : List Member) → AllByRecursion (λ n. int_lt m.order n.order ≡ false) ns → with_ordered m ns ≡ ns ++ m ∷ []
unfolding with_ordered
with_ordered_last m [] above = refl
with_ordered_last m (n ∷ ns) above =
    let no : int_lt m.order n.order ≡ false = above.0 in rw no (ap (λ r. n ∷ r) (with_ordered_last m ns above.1))

-- one below all the others stands first
pub with_ordered_first : (m : Member) (ns : List Member) → AllByRecursion (λ n. int_lt m.order n.order ≡ true) ns → with_ordered m ns ≡ m ∷ ns
unfolding with_ordered
with_ordered_first m [] below = refl
with_ordered_first m (n ∷ ns) below = let yes : int_lt m.order n.order ≡ true = below.0 in rw yes refl

-- of two orders that differ one is less
lt_flip : (a b : ℤ) → a ≢ b → int_lt b a ≡ not (int_lt a b)
lt_flip a b apart = grind (arith, ints)

-- one below a third that another is not below is below that other
lt_between : (a b c : ℤ) → int_lt a c ≡ true → int_lt b c ≡ false → int_lt a b ≡ true
lt_between a b c low high = grind (arith, ints)

-- of two orders of which one is less the other is not
pub lt_not_back : (a b : ℤ) → int_lt a b ≡ true → int_lt b a ≡ false
lt_not_back a b low = grind (arith, ints)

-- two of different orders come in order whichever comes first
pub with_ordered_comm : (x m : Member) (ns : List Member) → x.order ≢ m.order → with_ordered x (with_ordered m ns) ≡ with_ordered m (with_ordered x ns)
unfolding with_ordered
with_ordered_comm x m [] apart = rw (lt_flip x.order m.order apart) (pick (int_lt x.order m.order))
  where
    pick : (b : Bool) → (if b then x ∷ m ∷ [] else m ∷ x ∷ []) ≡ (if not b then m ∷ x ∷ [] else x ∷ m ∷ [])
    pick true = refl
    pick false = refl
with_ordered_comm x m (n ∷ ns) apart =
    step (int_lt x.order n.order) (int_lt m.order n.order) refl refl (with_ordered_comm x m ns apart)
  where
    pick : (b : Bool) → (if b then x ∷ m ∷ n ∷ ns else m ∷ x ∷ n ∷ ns) ≡ (if not b then m ∷ x ∷ n ∷ ns else x ∷ m ∷ n ∷ ns)
    pick true = refl
    pick false = refl

    step : (b d : Bool) → int_lt x.order n.order ≡ b → int_lt m.order n.order ≡ d → with_ordered x (with_ordered m ns) ≡ with_ordered m (with_ordered x ns) →
        with_ordered x (if d then m ∷ n ∷ ns else n ∷ with_ordered m ns) ≡ with_ordered m (if b then x ∷ n ∷ ns else n ∷ with_ordered x ns)
    step true true e f rest = rw (e, f, lt_flip x.order m.order apart) (pick (int_lt x.order m.order))
    step true false e f rest = rw (e, lt_not_back x.order m.order (lt_between x.order m.order n.order e f), f) refl
    step false true e f rest = rw (f, lt_not_back m.order x.order (lt_between m.order x.order n.order f e), e) refl
    step false false e f rest = rw (e, f) (ap (λ r. n ∷ r) rest)

-- ---- threads in order

-- threads in order are as many
pub length-by_order : (ms : List Member) → length (by_order ms) ≡ length ms
unfolding by_order
length-by_order [] = refl
length-by_order (m ∷ ms) = length-with_ordered m (by_order ms) ∙ ap (λ k. suc k) (length-by_order ms)

-- what holds of each holds of each
pub all-by_order : (P : Member → Type 0) (ms : List Member) → AllByRecursion P ms → AllByRecursion P (by_order ms)
unfolding by_order
all-by_order P [] all = tt
all-by_order P (m ∷ ms) all = all-with_ordered P m (by_order ms) all.0 (all-by_order P ms all.1)

-- one among them whose order differs from those before it comes in order whenever
pub by_order-between : (before : List Member) (m : Member) (after : List Member) → AllByRecursion (λ n. n.order ≢ m.order) before →
    by_order (before ++ m ∷ after) ≡ with_ordered m (by_order (before ++ after))
unfolding by_order
by_order-between [] m after apart = refl
by_order-between (b ∷ bs) m after apart =
    ap (with_ordered b) (by_order-between bs m after apart.1) ∙ with_ordered_comm b m (by_order (bs ++ after)) apart.0

-- one more of threads that are changed alike, each with its order kept, comes where it came before
pub map-with_ordered : (g : Member → Member) → ((n : Member) → (g n).order ≡ n.order) → (m : Member) (ns : List Member) → with_ordered (g m) (map g ns) ≡ map g (with_ordered m ns)
unfolding with_ordered
map-with_ordered g kept m [] = refl
map-with_ordered g kept m (n ∷ ns) =
    let same : int_lt (g m).order (g n).order ≡ int_lt m.order n.order = ap (int_lt (g m).order) (kept n) ∙ ap (λ o. int_lt o n.order) (kept m) in
    rw same (step (int_lt m.order n.order) (map-with_ordered g kept m ns))
  where
    step : (b : Bool) → with_ordered (g m) (map g ns) ≡ map g (with_ordered m ns) →
        (if b then g m ∷ g n ∷ map g ns else g n ∷ with_ordered (g m) (map g ns)) ≡ map g (if b then m ∷ n ∷ ns else n ∷ with_ordered m ns)
    step true rest = refl
    step false rest = ap (λ r. g n ∷ r) rest

-- threads changed alike, each with its order kept, come in order as before
pub map-by_order : (g : Member → Member) → ((n : Member) → (g n).order ≡ n.order) → (ms : List Member) → by_order (map g ms) ≡ map g (by_order ms)
unfolding by_order
map-by_order g kept [] = refl
map-by_order g kept (m ∷ ms) = ap (with_ordered (g m)) (map-by_order g kept ms) ∙ map-with_ordered g kept m (by_order ms)

-- ---- the numbers of threads in order, without one

-- a thread that is filtered out may stand anywhere
pub filter-with_ordered : (p : Member → Bool) (m : Member) (ns : List Member) → p m ≡ false → filter p (with_ordered m ns) ≡ filter p ns
unfolding with_ordered
filter-with_ordered p m [] fails = rw fails refl
filter-with_ordered p m (n ∷ ns) fails = step (int_lt m.order n.order) (filter-with_ordered p m ns fails)
  where
    step : (b : Bool) → filter p (with_ordered m ns) ≡ filter p ns → filter p (if b then m ∷ n ∷ ns else n ∷ with_ordered m ns) ≡ filter p (n ∷ ns)
    step true rest = rw fails refl
    step false rest = ap (λ r. if p n then n ∷ r else r) rest

-- a filter that each passes leaves all
pub filter_passed : {X : Type 0} (p : X → Bool) (xs : List X) → AllByRecursion (λ x. p x ≡ true) xs → filter p xs ≡ xs
filter_passed p [] all = refl
filter_passed p (x ∷ xs) all = let passes : p x ≡ true = all.0 in rw passes (ap (λ r. x ∷ r) (filter_passed p xs all.1))

-- the numbers without t are the numbers of the threads that are not t
pub filter-ids_of : (t : ℕ) (ms : List Member) → filter (λ u. not (u == t)) (numbers_of ms) ≡ numbers_of (filter (λ m. not (is_numbered t m)) ms)
filter-ids_of t [] = refl
filter-ids_of t (m ∷ ms) = step (not (is_numbered t m)) (filter-ids_of t ms)
  where
    step : (b : Bool) → filter (λ u. not (u == t)) (numbers_of ms) ≡ numbers_of (filter (λ m. not (is_numbered t m)) ms) →
        (if b then m.thread.id ∷ filter (λ u. not (u == t)) (numbers_of ms) else filter (λ u. not (u == t)) (numbers_of ms)) ≡ numbers_of (if b then m ∷ filter (λ m. not (is_numbered t m)) ms else filter (λ m. not (is_numbered t m)) ms)
    step true rest = ap (λ r. m.thread.id ∷ r) rest
    step false rest = rest

-- numbers without t where none is t
pub ids_lacking : (t : ℕ) (ms : List Member) → Lacks t ms → filter (λ u. not (u == t)) (numbers_of ms) ≡ numbers_of ms
ids_lacking t ms lacks =
    filter-ids_of t ms ∙ ap numbers_of (filter_passed (λ m. not (is_numbered t m)) ms (all_along (λ m. is_numbered t m ≡ false) (λ m. not (is_numbered t m) ≡ true) ms (λ m h. ap not h) lacks))

-- the numbers in order without t are those of the others in order
pub ids_without : (t : ℕ) (before : List Member) (m : Member) (after : List Member) → AllByRecursion (λ n. n.order ≢ m.order) before → m.thread.id ≡ t → Lacks t before → Lacks t after →
    filter (λ u. not (u == t)) (numbers_of (by_order (before ++ m ∷ after))) ≡ numbers_of (by_order (before ++ after))
ids_without t before m after apart number front back =
    let lacks : Lacks t (before ++ after) = all-append (λ n. is_numbered t n ≡ false) before after front back in
    ap (λ ns. filter (λ u. not (u == t)) (numbers_of ns)) (by_order-between before m after apart) ∙
    filter-ids_of t (with_ordered m (by_order (before ++ after))) ∙
    ap numbers_of (filter-with_ordered (λ n. not (is_numbered t n)) m (by_order (before ++ after)) (ap not (eq-eqb m.thread.id t number))) ∙
    sym (filter-ids_of t (by_order (before ++ after))) ∙
    ids_lacking t (by_order (before ++ after)) (all-by_order (λ n. is_numbered t n ≡ false) (before ++ after) lacks)

-- ---- one above or below all the others

-- a thread above all the others comes last
pub by_order_last : (before : List Member) (m : Member) (after : List Member) → AllByRecursion (λ n. int_lt n.order m.order ≡ true) before →
    AllByRecursion (λ n. int_lt n.order m.order ≡ true) after → by_order (before ++ m ∷ after) ≡ by_order (before ++ after) ++ m ∷ []
by_order_last before m after front back =
    by_order-between before m after (all_along (λ n. int_lt n.order m.order ≡ true) (λ n. n.order ≢ m.order) before (λ n low. lt_apart n.order m.order low) front) ∙
    with_ordered_last m (by_order (before ++ after))
    (all-by_order (λ n. int_lt m.order n.order ≡ false) (before ++ after)
    (all_along (λ n. int_lt n.order m.order ≡ true) (λ n. int_lt m.order n.order ≡ false) (before ++ after) (λ n low. lt_not_back n.order m.order low)
    (all-append (λ n. int_lt n.order m.order ≡ true) before after front back)))

-- a thread below all the others comes first
pub by_order_first : (before : List Member) (m : Member) (after : List Member) → AllByRecursion (λ n. int_lt m.order n.order ≡ true) before →
    AllByRecursion (λ n. int_lt m.order n.order ≡ true) after → by_order (before ++ m ∷ after) ≡ m ∷ by_order (before ++ after)
by_order_first before m after front back =
    by_order-between before m after (all_along (λ n. int_lt m.order n.order ≡ true) (λ n. n.order ≢ m.order) before (λ n low e. lt_apart m.order n.order low (sym e)) front) ∙
    with_ordered_first m (by_order (before ++ after))
    (all-by_order (λ n. int_lt m.order n.order ≡ true) (before ++ after) (all-append (λ n. int_lt m.order n.order ≡ true) before after front back))
