-- One thread within the list of a world: what stands before it, what stands after it, and the
-- list with that thread changed.
use Rattle.std.proofs.Common.{◌≡◌, ℕ, Bool, true, false, List, [], ◌∷◌, ◌++◌, map, Some, if◌then◌else◌, refl, sym, ◌∙◌, ap, subst}
use Rattle.std.specs.List.{AllByRecursion, find}
use Rattle.std.proofs.lemmas.Bool.{eqb-true, eq-eqb, ne_eqb}
use Rattle.std.proofs.lemmas.Option.{none-some, same_Some}
use Rattle.ule_model.specs.WellMade.{IsMade, AreApart, AllApart, IsWellMade}
use Rattle.ule_model.specs.World.{Member, is_numbered, thread_of}

-- ---- what holds of each element

-- what holds of each element of two lists holds of each of both together
pub all-append : {X : Type 0} (P : X → Type 0) (xs ys : List X) → AllByRecursion P xs → AllByRecursion P ys → AllByRecursion P (xs ++ ys)
all-append P [] ys front back = back
all-append P (x ∷ xs) ys front back = (front.0, all-append P xs ys front.1 back)

-- what holds of each element of two lists together holds of each of the first
pub all_front : {X : Type 0} (P : X → Type 0) (xs ys : List X) → AllByRecursion P (xs ++ ys) → AllByRecursion P xs
all_front P [] ys all = tt
all_front P (x ∷ xs) ys all = (all.0, all_front P xs ys all.1)

-- what holds of each element of two lists together holds of each of the second
pub all_back : {X : Type 0} (P : X → Type 0) (xs ys : List X) → AllByRecursion P (xs ++ ys) → AllByRecursion P ys
all_back P [] ys all = all
all_back P (x ∷ xs) ys all = all_back P xs ys all.1

-- what follows from a fact that holds of each element holds of each
pub all_along : {X : Type 0} (P Q : X → Type 0) (xs : List X) → ((x : X) → P x → Q x) → AllByRecursion P xs → AllByRecursion Q xs
all_along P Q [] step all = tt
all_along P Q (x ∷ xs) step all = (step x all.0, all_along P Q xs step all.1)

-- what two facts give of an element holds of each element
pub all_both : {X : Type 0} (P Q R : X → Type 0) (xs : List X) → ((x : X) → P x → Q x → R x) → AllByRecursion P xs → AllByRecursion Q xs → AllByRecursion R xs
all_both P Q R [] step first second = tt
all_both P Q R (x ∷ xs) step first second = (step x first.0 second.0, all_both P Q R xs step first.1 second.1)

-- ---- threads that are apart

-- two threads are apart from either side
pub apart-sym : (m n : Member) → AreApart m n → AreApart n m
apart-sym m n h = record {
  numbers = λ e. h.numbers (sym e);
  orders = λ c k b here there e. h.orders c k b there here (sym e);
  running = λ c here there. h.running c there here;
}

-- no thread of a list has number t
abbrev pub Lacks : ℕ → List Member → Type 0
Lacks t ms = AllByRecursion (λ n. is_numbered t n ≡ false) ms

-- threads that are apart from one lack its number
pub lacks_from_apart : (m : Member) (ns : List Member) → AllByRecursion (AreApart m) ns → Lacks m.thread.id ns
lacks_from_apart m [] all = tt
lacks_from_apart m (n ∷ ns) all =
    (ne_eqb n.thread.id m.thread.id (λ e. all.0.numbers (sym e)), lacks_from_apart m ns all.1)

-- of threads that are apart each one is apart from those before it
pub apart_before : (before : List Member) (m : Member) (after : List Member) → AllApart (before ++ m ∷ after) → AllByRecursion (AreApart m) before
apart_before [] m after all = tt
apart_before (b ∷ bs) m after all =
    (apart-sym b m (all_back (AreApart b) bs (m ∷ after) all.0).0, apart_before bs m after all.1)

-- of threads that are apart each one is apart from those after it
pub apart_after : (before : List Member) (m : Member) (after : List Member) → AllApart (before ++ m ∷ after) → AllByRecursion (AreApart m) after
apart_after [] m after all = all.0
apart_after (b ∷ bs) m after all = apart_after bs m after all.1

-- threads that are apart are apart without one of them
pub apart_without : (before : List Member) (m : Member) (after : List Member) → AllApart (before ++ m ∷ after) → AllApart (before ++ after)
apart_without [] m after all = all.1
apart_without (b ∷ bs) m after all = (
  all-append (AreApart b) bs after (all_front (AreApart b) bs (m ∷ after) all.0) (all_back (AreApart b) bs (m ∷ after) all.0).1,
  apart_without bs m after all.1,
)

-- threads that are apart are apart with another between them that is apart from each
pub apart_with : (before : List Member) (m : Member) (after : List Member) → AllApart (before ++ after) → AllByRecursion (AreApart m) before →
    AllByRecursion (AreApart m) after → AllApart (before ++ m ∷ after)
apart_with [] m after all front back = (back, all)
apart_with (b ∷ bs) m after all front back = (
  all-append (AreApart b) bs (m ∷ after) (all_front (AreApart b) bs after all.0) (apart-sym m b front.0, all_back (AreApart b) bs after all.0),
  apart_with bs m after all.1 front.1 back,
)

-- ---- one thread within a list

-- thread t of a list of threads is m, between those before it and those after it
pub record Within (t : ℕ) (m : Member) (ms : List Member) : Type 0 where
  pub before : List Member
  pub after : List Member
  pub whole : ms ≡ before ++ m ∷ after
  pub number : m.thread.id ≡ t
  pub lacks_before : Lacks t before
  pub lacks_after : Lacks t after
  pub made : IsMade m
  pub apart_before : AllByRecursion (AreApart m) before
  pub apart_after : AllByRecursion (AreApart m) after
  pub others : IsWellMade (before ++ after)

-- a thread that stands between others of a well-made list is within it
pub within_at : (before : List Member) (m : Member) (after : List Member) → IsWellMade (before ++ m ∷ after) → Within m.thread.id m (before ++ m ∷ after)
within_at before m after made = record {
  before = before;
  after = after;
  whole = refl;
  number = refl;
  lacks_before = lacks_from_apart m before (apart_before before m after made.apart);
  lacks_after = lacks_from_apart m after (apart_after before m after made.apart);
  made = (all_back IsMade before (m ∷ after) made.each).0;
  apart_before = apart_before before m after made.apart;
  apart_after = apart_after before m after made.apart;
  others = record {
    each = all-append IsMade before after (all_front IsMade before (m ∷ after) made.each) (all_back IsMade before (m ∷ after) made.each).1;
    apart = apart_without before m after made.apart;
  };
}

-- what a look-up finds stands in the list, and passes the test
pub record FoundAt {X : Type 0} (p : X → Bool) (x : X) (xs : List X) : Type 0 where
  pub before : List X
  pub after : List X
  pub whole : xs ≡ before ++ x ∷ after
  pub passes : p x ≡ true
  pub earlier : AllByRecursion (λ y. p y ≡ false) before

-- the first that passes is found, at its place
pub found_at : {X : Type 0} (p : X → Bool) (xs : List X) (x : X) → find p xs ≡ Some x → FoundAt p x xs
found_at p [] x found = absurd (none-some x found)
found_at p (y ∷ ys) x found = split (p y) refl found (found_at p ys x)
  where
    split : (b : Bool) → p y ≡ b → (if b then Some y else find p ys) ≡ Some x → (find p ys ≡ Some x → FoundAt p x ys) → FoundAt p x (y ∷ ys)
    split true is here rest =
        let same : y ≡ x = same_Some y x here in
        record { before = []; after = ys; whole = ap (λ z. z ∷ ys) same; passes = ap p (sym same) ∙ is; earlier = tt }
    split false is there rest =
        let w = rest there in
        record { before = y ∷ w.before; after = w.after; whole = ap (λ zs. y ∷ zs) w.whole; passes = w.passes; earlier = (is, w.earlier) }

-- the thread that any look-up finds is within a well-made list
pub within_found : (p : Member → Bool) (ms : List Member) (m : Member) → IsWellMade ms → find p ms ≡ Some m → Within m.thread.id m ms
within_found p ms m made found =
    let f = found_at p ms m found in
    subst (λ ns. Within m.thread.id m ns) (sym f.whole) (within_at f.before m f.after (subst IsWellMade f.whole made))

-- the thread with number t is within a well-made list
pub within_thread : (t : ℕ) (ms : List Member) (m : Member) → IsWellMade ms → thread_of t ms ≡ Some m → Within t m ms
within_thread t ms m made found =
    let f = found_at (is_numbered t) ms m found in
    let P : ℕ → Type 0 = λ u. Within u m ms in
    subst P (eqb-true m.thread.id t f.passes) (within_found (is_numbered t) ms m made found)

-- ---- the list with one thread changed

-- the threads with thread t changed; moved_to and with_record are of this form
abbrev pub changed : ℕ → (Member → Member) → List Member → List Member
changed t f ms = map (λ m. if is_numbered t m then f m else m) ms

-- a list without thread t stays
pub changed_others : (t : ℕ) (f : Member → Member) (ms : List Member) → Lacks t ms → changed t f ms ≡ ms
changed_others t f [] lacks = refl
changed_others t f (m ∷ ms) lacks =
    let other : is_numbered t m ≡ false = lacks.0 in rw other (ap (λ ns. m ∷ ns) (changed_others t f ms lacks.1))

-- the list with its one thread t changed
pub changed_between : (t : ℕ) (f : Member → Member) (before : List Member) (m : Member) (after : List Member) → Lacks t before → m.thread.id ≡ t → Lacks t after →
    changed t f (before ++ m ∷ after) ≡ before ++ f m ∷ after
changed_between t f [] m after front number back =
    let here : is_numbered t m ≡ true = eq-eqb m.thread.id t number in rw here (ap (λ ns. f m ∷ ns) (changed_others t f after back))
changed_between t f (b ∷ bs) m after front number back =
    let other : is_numbered t b ≡ false = front.0 in rw other (ap (λ ns. b ∷ ns) (changed_between t f bs m after front.1 number back))

-- the list of a thread within it, once the thread is changed
pub changed_within : (t : ℕ) (m : Member) (ms : List Member) (w : Within t m ms) (f : Member → Member) → changed t f ms ≡ w.before ++ f m ∷ w.after
changed_within t m ms w f =
    ap (changed t f) w.whole ∙ changed_between t f w.before m w.after w.lacks_before w.number w.lacks_after

-- a well-made list stays so where a thread is changed into one that is made, and apart from the others
pub well_made_between : (before : List Member) (m : Member) (after : List Member) → IsWellMade (before ++ after) → IsMade m → AllByRecursion (AreApart m) before →
    AllByRecursion (AreApart m) after → IsWellMade (before ++ m ∷ after)
well_made_between before m after others made front back = record {
  each = all-append IsMade before (m ∷ after) (all_front IsMade before after others.each) (made, all_back IsMade before after others.each);
  apart = apart_with before m after others.apart front back;
}

-- a well-made list stays so where a thread within it is changed into one that is made, and apart from the others
pub well_made_within : (t : ℕ) (m : Member) (ms : List Member) (w : Within t m ms) (f : Member → Member) → IsMade (f m) → AllByRecursion (AreApart (f m)) w.before →
    AllByRecursion (AreApart (f m)) w.after → IsWellMade (changed t f ms)
well_made_within t m ms w f made front back =
    subst IsWellMade (sym (changed_within t m ms w f)) (well_made_between w.before (f m) w.after w.others made front back)
