-- Which elements stand in a list, by recursion on it; and that well made threads are one where they agree.
use Rattle.std.proofs.Common.{◌≡◌, ℕ, Bool, true, false, cond, List, [], ◌∷◌, ◌++◌, filter, Some, ◌⊎◌, inl, inr, ⊎_elim, refl, sym, ◌∙◌, ap, subst}
use Rattle.std.specs.List.{AllByRecursion, list_any}
use Rattle.std.proofs.lemmas.Option.{same_Some, none-some}
use Rattle.std.proofs.lemmas.Bool.{eqb-true, both_ways, eq-eqb, ne_eqb, cond-true, cond-false, or_cases}
use Rattle.ule_prio.specs.declared.kind.Kind.{Kind}
use Rattle.ule_model.specs.Places.{waits_in}
use Rattle.ule_model.specs.WellMade.{AreApart, AllApart, IsWellMade}
use Rattle.ule_model.specs.World.{Member, is_numbered, thread_of}
use Rattle.ule_members.proofs.Within.{Within}

-- x stands in the list
abbrev pub Has : {X : Type 0} → X → List X → Type 0
Has x [] = ⊥
Has x (y ∷ ys) = (y ≡ x) ⊎ Has x ys

-- what each element keeps, one that stands in the list keeps
pub all_has : {X : Type 0} (P : X → Type 0) (x : X) (xs : List X) → AllByRecursion P xs → Has x xs → P x
all_has P x [] all has = absurd has
all_has P x (y ∷ ys) all has = ⊎_elim (λ (same : y ≡ x). subst P same all.0) (λ (rest : Has x ys). all_has P x ys all.1 rest) has

-- what all that stand in the list keep, each element keeps
pub all_from_has : {X : Type 0} (P : X → Type 0) (xs : List X) → ((x : X) → Has x xs → P x) → AllByRecursion P xs
all_from_has P [] each = tt
all_from_has P (x ∷ xs) each = (each x (inl refl), all_from_has P xs (λ y rest. each y (inr rest)))

-- an element that passes stands in the filtered list
pub has-filter : {X : Type 0} (p : X → Bool) (x : X) (xs : List X) → Has x xs → p x ≡ true → Has x (filter p xs)
has-filter p x [] has passes = absurd has
has-filter p x (y ∷ ys) has passes = step p x y (p y) refl ys passes (λ rest. has-filter p x ys rest passes) has
  where
    step : {X : Type 0} (p : X → Bool) (x y : X) (b : Bool) → p y ≡ b → (ys : List X) → p x ≡ true → (Has x ys → Has x (filter p ys)) → (y ≡ x) ⊎ Has x ys →
        Has x (cond b (y ∷ filter p ys) (filter p ys))
    step p x y true is ys passes rest has = ⊎_elim (λ (same : y ≡ x). inl same) (λ (h : Has x ys). inr (rest h)) has
    step p x y false is ys passes rest has = ⊎_elim (λ (same : y ≡ x). absurd (both_ways (p x) (ap p (sym same) ∙ is) passes)) rest has

-- an element of the filtered list stands in the list and passes
pub has_filtered : {X : Type 0} (p : X → Bool) (x : X) (xs : List X) → Has x (filter p xs) → Has x xs × (p x ≡ true)
has_filtered p x [] has = absurd has
has_filtered p x (y ∷ ys) has = step p x y (p y) refl ys (has_filtered p x ys) has
  where
    step : {X : Type 0} (p : X → Bool) (x y : X) (b : Bool) → p y ≡ b → (ys : List X) → (Has x (filter p ys) → Has x ys × (p x ≡ true)) →
        Has x (cond b (y ∷ filter p ys) (filter p ys)) → Has x (y ∷ ys) × (p x ≡ true)
    step p x y true is ys rest has = ⊎_elim (λ (same : y ≡ x). (inl same, ap p (sym same) ∙ is)) (λ (h : Has x (filter p ys)). (inr (rest h).0, (rest h).1)) has
    step p x y false is ys rest has = (inr (rest has).0, (rest has).1)

-- where some element passes, one that stands in the list does
pub has_any : {X : Type 0} (p : X → Bool) (xs : List X) → list_any p xs ≡ true → (x : X) × (Has x xs × (p x ≡ true))
has_any p [] any = absurd (both_ways false refl any)
has_any p (y ∷ ys) any =
    ⊎_elim
    (λ (here : p y ≡ true). (y, (inl refl, here)))
    (λ (there : list_any p ys ≡ true). let rest = has_any p ys there in (rest.0, (inr rest.1.0, rest.1.1)))
    (or_cases (p y) (list_any p ys) any)

-- nothing stands in an empty list
pub has_none : {X : Type 0} (x : X) (xs : List X) → xs ≡ [] → Has x xs → ⊥
has_none x [] none has = has
has_none x (y ∷ ys) none has = cc

-- two threads of a world are one, or apart
pub one_or_apart : (m n : Member) (ms : List Member) → AllApart ms → Has m ms → Has n ms → (m ≡ n) ⊎ (AreApart m n ⊎ AreApart n m)
one_or_apart m n [] apart first second = absurd first
one_or_apart m n (x ∷ xs) apart first second =
    ⊎_elim
    (λ (here : x ≡ m). ⊎_elim (λ (there : x ≡ n). inl (sym here ∙ there)) (λ (rest : Has n xs). inr (inl (subst (λ z. AreApart z n) here (all_has (AreApart x) n xs apart.0 rest)))) second)
    (λ (behind : Has m xs). ⊎_elim (λ (there : x ≡ n). inr (inr (subst (λ z. AreApart z m) there (all_has (AreApart x) m xs apart.0 behind)))) (λ (rest : Has n xs). one_or_apart m n xs apart.1 behind rest) second)
    first

-- two threads of one number are one
pub same_from_number : (m n : Member) (ms : List Member) → IsWellMade ms → Has m ms → Has n ms → m.thread.id ≡ n.thread.id → m ≡ n
same_from_number m n ms made first second same =
    ⊎_elim (λ (one : m ≡ n). one)
    (λ (two : AreApart m n ⊎ AreApart n m). absurd (⊎_elim (λ (a : AreApart m n). a.numbers same) (λ (a : AreApart n m). a.numbers (sym same)) two))
    (one_or_apart m n ms made.apart first second)

-- two threads of one bucket and one order are one
pub same_from_order : (c : ℕ) (k : Kind) (b : ℕ) (m n : Member) (ms : List Member) → IsWellMade ms → Has m ms → Has n ms → waits_in c k b m.place ≡ true →
    waits_in c k b n.place ≡ true → m.order ≡ n.order → m ≡ n
same_from_order c k b m n ms made first second one other same =
    ⊎_elim (λ (alone : m ≡ n). alone)
    (λ (two : AreApart m n ⊎ AreApart n m). absurd (⊎_elim (λ (a : AreApart m n). a.orders c k b one other same) (λ (a : AreApart n m). a.orders c k b other one (sym same)) two))
    (one_or_apart m n ms made.apart first second)

-- a thread of a world is the one that its number finds
pub thread_of_has : (m : Member) (ms : List Member) → AllApart ms → Has m ms → thread_of m.thread.id ms ≡ Some m
thread_of_has m [] apart has = absurd has
thread_of_has m (x ∷ xs) apart has =
    ⊎_elim
    (λ (same : x ≡ m). cond-true (is_numbered m.thread.id x) (Some x) (thread_of m.thread.id xs) (eq-eqb x.thread.id m.thread.id (ap (λ z. z.thread.id) same)) ∙ ap (λ (z : Member). Some z) same)
    (λ (rest : Has m xs). cond-false (is_numbered m.thread.id x) (Some x) (thread_of m.thread.id xs) (ne_eqb x.thread.id m.thread.id (all_has (AreApart x) m xs apart.0 rest).numbers) ∙ thread_of_has m xs apart.1 rest)
    has

-- the thread that a number finds stands in the world, and has it
pub has_thread_of : (t : ℕ) (m : Member) (ms : List Member) → thread_of t ms ≡ Some m → Has m ms × (m.thread.id ≡ t)
has_thread_of t m [] found = absurd (none-some m found)
has_thread_of t m (x ∷ xs) found = step t m x xs (is_numbered t x) refl (has_thread_of t m xs) found
  where
    step : (t : ℕ) (m x : Member) (xs : List Member) (b : Bool) → is_numbered t x ≡ b → (thread_of t xs ≡ Some m → Has m xs × (m.thread.id ≡ t)) →
        cond b (Some x) (thread_of t xs) ≡ Some m → (Has m (x ∷ xs)) × (m.thread.id ≡ t)
    step t m x xs true is rest found =
        let same : x ≡ m = same_Some x m found in
        (inl same, ap (λ z. z.thread.id) (sym same) ∙ eqb-true x.thread.id t is)
    step t m x xs false is rest found = (inr (rest found).0, (rest found).1)

-- a thread between others stands in the list
pub has_between : {X : Type 0} (before : List X) (x : X) (after : List X) → Has x (before ++ x ∷ after)
has_between [] x after = inl refl
has_between (b ∷ bs) x after = inr (has_between bs x after)

-- a thread within a list stands in it
pub has_within : (t : ℕ) (m : Member) (ms : List Member) → Within t m ms → Has m ms
has_within t m ms w = subst (Has m) (sym w.whole) (has_between w.before m w.after)
