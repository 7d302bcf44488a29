-- What look-ups find after one thread of a well-made list is changed, or one is appended.
use Rattle.std.proofs.Common.{◌≡◌, ◌≢◌, ℕ, ◌==◌, ℤ, Bool, true, false, ◌&&◌, List, [], ◌∷◌, ◌++◌, map, Option, Some, None, if◌then◌else◌, refl, sym, ◌∙◌, ap, subst}
use Rattle.std.specs.List.{AllByRecursion, find}
use Rattle.std.specs.Option.{option_map}
use Rattle.std.proofs.lemmas.Bool.{eqb-true, eq-eqb, ne_eqb, cond-true, cond-false, and_left, and_parts, false_from_ne_true}
use Rattle.std.proofs.lemmas.List.{append-nil}
use Rattle.std.proofs.lemmas.Option.{none-some}
use Rattle.ule_score.specs.declared.place.Place.{Place}
use Rattle.ule_model.specs.CpuValue.{thread_on}
use Rattle.ule_model.specs.Insertion.{with_queued, queued, place_of_insertion, order_of_insertion}
use Rattle.ule_model.specs.declared.insertion.Insertion.{Insertion}
use Rattle.ule_model.specs.Places.{runs_on, is_on}
use Rattle.ule_model.specs.WellMade.{AreApart, IsWellMade}
use Rattle.ule_model.specs.World.{Member, Side, current_of, is_numbered, moved_to, others, thread_of}
use Rattle.ule_members.proofs.Membership.{has_thread_of}
use Rattle.ule_members.proofs.Within.{Lacks, Within, found_at, within_found, changed, changed_within, all_front, all_back, all_along}

-- ---- look-ups in any list

-- an element that fails the test is not found
pub find_skips : {X : Type 0} (p : X → Bool) (before : List X) (x : X) (after : List X) → p x ≡ false → find p (before ++ x ∷ after) ≡ find p (before ++ after)
find_skips p [] x after fails = rw fails refl
find_skips p (b ∷ bs) x after fails = ap (λ r. if p b then Some b else r) (find_skips p bs x after fails)

-- the first that passes is found
pub find_here : {X : Type 0} (p : X → Bool) (before : List X) (x : X) (after : List X) → AllByRecursion (λ y. p y ≡ false) before → p x ≡ true → find p (before ++ x ∷ after) ≡ Some x
find_here p [] x after none passes = rw passes refl
find_here p (b ∷ bs) x after none passes = let fails : p b ≡ false = none.0 in rw fails (find_here p bs x after none.1 passes)

-- where none passes none is found
pub find_nowhere : {X : Type 0} (p : X → Bool) (xs : List X) → AllByRecursion (λ y. p y ≡ false) xs → find p xs ≡ None
find_nowhere p [] none = refl
find_nowhere p (x ∷ xs) none = let fails : p x ≡ false = none.0 in rw fails (find_nowhere p xs none.1)

-- where none is found none passes
pub none_passes : {X : Type 0} (p : X → Bool) (xs : List X) → find p xs ≡ None → AllByRecursion (λ y. p y ≡ false) xs
none_passes p [] none = tt
none_passes p (x ∷ xs) none = split (p x) refl none (none_passes p xs)
  where
    split : (b : Bool) → p x ≡ b → (if b then Some x else find p xs) ≡ None → (find p xs ≡ None → AllByRecursion (λ y. p y ≡ false) xs) → AllByRecursion (λ y. p y ≡ false) (x ∷ xs)
    split true is none rest = absurd (none-some x (sym none))
    split false is none rest = (is, rest none)

-- a look-up by a test that a change of each element leaves finds the changed one
pub find_mapped : {X : Type 0} (p : X → Bool) (f : X → X) → ((x : X) → p (f x) ≡ p x) → (xs : List X) → find p (map f xs) ≡ option_map f (find p xs)
find_mapped p f same [] = refl
find_mapped p f same (x ∷ xs) = split (p x) refl (find_mapped p f same xs)
  where
    split : (b : Bool) → p x ≡ b → find p (map f xs) ≡ option_map f (find p xs) →
        find p (f x ∷ map f xs) ≡ option_map f (if b then Some x else find p xs)
    split true is rest = cond-true (p (f x)) (Some (f x)) (find p (map f xs)) (same x ∙ is)
    split false is rest = cond-false (p (f x)) (Some (f x)) (find p (map f xs)) (same x ∙ is) ∙ rest

-- ---- an element put for another, in any list

-- where neither passes, what is found stays
pub find_kept : {X : Type 0} (p : X → Bool) (before : List X) (x y : X) (after : List X) → p x ≡ false → p y ≡ false → find p (before ++ y ∷ after) ≡ find p (before ++ x ∷ after)
find_kept p before x y after old new = find_skips p before y after new ∙ sym (find_skips p before x after old)

-- where no other passes, it is found if it passes
pub find_only : {X : Type 0} (p : X → Bool) (before : List X) (x : X) (after : List X) → AllByRecursion (λ y. p y ≡ false) before →
    AllByRecursion (λ y. p y ≡ false) after → find p (before ++ x ∷ after) ≡ (if p x then Some x else None)
find_only p [] x after front back = rw (find_nowhere p after back) refl
find_only p (b ∷ bs) x after front back = let fails : p b ≡ false = front.0 in rw fails (find_only p bs x after front.1 back)

-- ---- one thread of a well-made list

-- a look-up that a thread fails before and after its change finds what it found
pub find-changed_kept : (p : Member → Bool) (t : ℕ) (m : Member) (ms : List Member) (w : Within t m ms) (f : Member → Member) → p m ≡ false → p (f m) ≡ false → find p (changed t f ms) ≡ find p ms
find-changed_kept p t m ms w f old new =
    ap (find p) (changed_within t m ms w f) ∙ find_kept p w.before m (f m) w.after old new ∙ ap (find p) (sym w.whole)

-- a look-up that no other thread passes finds the changed one, if it passes
pub find-changed_only : (p : Member → Bool) (t : ℕ) (m : Member) (ms : List Member) (w : Within t m ms) (f : Member → Member) →
    AllByRecursion (λ n. p n ≡ false) w.before → AllByRecursion (λ n. p n ≡ false) w.after → find p (changed t f ms) ≡ (if p (f m) then Some (f m) else None)
find-changed_only p t m ms w f front back =
    ap (find p) (changed_within t m ms w f) ∙ find_only p w.before (f m) w.after front back

-- ---- by number

-- thread t is found by its number
pub thread_of_within : (t : ℕ) (m : Member) (ms : List Member) → Within t m ms → thread_of t ms ≡ Some m
thread_of_within t m ms w =
    ap (thread_of t) w.whole ∙ find_here (is_numbered t) w.before m w.after w.lacks_before (eq-eqb m.thread.id t w.number)

-- the thread that was changed is found as it is now
pub thread_of-changed : (t : ℕ) (m : Member) (ms : List Member) (w : Within t m ms) (f : Member → Member) → (f m).thread.id ≡ m.thread.id → thread_of t (changed t f ms) ≡ Some (f m)
thread_of-changed t m ms w f same =
    ap (thread_of t) (changed_within t m ms w f) ∙ find_here (is_numbered t) w.before (f m) w.after w.lacks_before (eq-eqb (f m).thread.id t (same ∙ w.number))

-- a thread of one number has no other
pub number_fails : (u t : ℕ) (m : Member) → u ≢ t → m.thread.id ≡ t → is_numbered u m ≡ false
number_fails u t m apart is = ne_eqb m.thread.id u (λ e. apart (sym e ∙ is))

-- ---- by number, in any list

-- what a number finds is changed where its thread is, whether there is one or none
pub thread_of-changed_same : (t : ℕ) (f : Member → Member) (ms : List Member) → ((n : Member) → (f n).thread.id ≡ n.thread.id) → thread_of t (changed t f ms) ≡ option_map f (thread_of t ms)
thread_of-changed_same t f [] kept = refl
thread_of-changed_same t f (m ∷ ms) kept = split (is_numbered t m) refl (thread_of-changed_same t f ms kept)
  where
    split : (d : Bool) → is_numbered t m ≡ d → thread_of t (changed t f ms) ≡ option_map f (thread_of t ms) →
        thread_of t ((if d then f m else m) ∷ changed t f ms) ≡ option_map f (if d then Some m else thread_of t ms)
    split true is rest = cond-true (is_numbered t (f m)) (Some (f m)) (thread_of t (changed t f ms)) (ap (λ (u : ℕ). u == t) (kept m) ∙ is)
    split false is rest = cond-false (is_numbered t m) (Some m) (thread_of t (changed t f ms)) is ∙ rest

-- every other number finds what it found
pub thread_of-changed_apart : (u t : ℕ) (f : Member → Member) (ms : List Member) → ((n : Member) → (f n).thread.id ≡ n.thread.id) → u ≢ t → thread_of u (changed t f ms) ≡ thread_of u ms
thread_of-changed_apart u t f [] kept apart = refl
thread_of-changed_apart u t f (m ∷ ms) kept apart = split (is_numbered t m) refl (thread_of-changed_apart u t f ms kept apart)
  where
    split : (d : Bool) → is_numbered t m ≡ d → thread_of u (changed t f ms) ≡ thread_of u ms → thread_of u ((if d then f m else m) ∷ changed t f ms) ≡ thread_of u (m ∷ ms)
    split true is rest =
        let other : is_numbered u m ≡ false = number_fails u t m apart (eqb-true m.thread.id t is) in
        cond-false (is_numbered u (f m)) (Some (f m)) (thread_of u (changed t f ms)) (ap (λ (i : ℕ). i == u) (kept m) ∙ other) ∙ rest ∙ sym (cond-false (is_numbered u m) (Some m) (thread_of u ms) other)
    split false is rest = ap (λ (o : Option Member). if is_numbered u m then Some m else o) rest

-- after a move of one thread, look-up of another number finds what it found
pub thread_of-moved_other : (u t : ℕ) (place : Place) (order : ℤ) (ms : List Member) → u ≢ t → thread_of u (moved_to t place order ms) ≡ thread_of u ms
thread_of-moved_other u t place order ms apart = thread_of-changed_apart u t (λ n. record n { place = place; order = order }) ms (λ n. refl) apart

-- after an insertion of one thread, look-up of another number finds what it found
pub thread_of-queued_other : (how : Insertion) (c u t : ℕ) (s : Side) → u ≢ t → thread_of u (queued how c t s).members ≡ thread_of u s.members
thread_of-queued_other how c u t s apart = split (thread_of t s.members) refl
  where
    split : (o : Option Member) → thread_of t s.members ≡ o → thread_of u (with_queued how c o s).members ≡ thread_of u s.members
    split None found = refl
    split (Some m) found =
        thread_of-moved_other u m.thread.id (place_of_insertion how c s.line m.thread.priority) (order_of_insertion how c s.line m.thread.priority (others m.thread.id s.members)) s.members
        (λ e. apart (e ∙ (has_thread_of t m s.members found).1))

-- two changes of one thread are one change
pub changed_further : (t : ℕ) (f g : Member → Member) (ms : List Member) → ((n : Member) → (f n).thread.id ≡ n.thread.id) → changed t g (changed t f ms) ≡ changed t (λ n. g (f n)) ms
changed_further t f g [] kept = refl
changed_further t f g (m ∷ ms) kept = split (is_numbered t m) refl (changed_further t f g ms kept)
  where
    both : Member → Member
    both n = g (f n)

    split : (d : Bool) → is_numbered t m ≡ d → changed t g (changed t f ms) ≡ changed t both ms → changed t g ((if d then f m else m) ∷ changed t f ms) ≡ (if d then both m else m) ∷ changed t both ms
    split true is rest =
        ap (λ (n : Member). n ∷ changed t g (changed t f ms)) (cond-true (is_numbered t (f m)) (both m) (f m) (ap (λ (i : ℕ). i == t) (kept m) ∙ is)) ∙
        ap (λ (ns : List Member). both m ∷ ns) rest
    split false is rest =
        ap (λ (n : Member). n ∷ changed t g (changed t f ms)) (cond-false (is_numbered t m) (g m) m is) ∙
        ap (λ (ns : List Member). m ∷ ns) rest

-- ---- by number, on a CPU

-- threads without number t have none on a CPU either
lacks_on : (c t : ℕ) (ns : List Member) → Lacks t ns → AllByRecursion (λ n. (is_numbered t n && is_on c n.place) ≡ false) ns
lacks_on c t ns lacks =
    all_along (λ n. is_numbered t n ≡ false) (λ n. (is_numbered t n && is_on c n.place) ≡ false) ns
    (λ n fails. and_left (is_numbered t n) (is_on c n.place) fails) lacks

-- thread t is found on the CPU where it stands
pub thread_on_within : (c t : ℕ) (m : Member) (ms : List Member) → Within t m ms → thread_on c t ms ≡ (if is_on c m.place then Some m else None)
thread_on_within c t m ms w =
    ap (thread_on c t) w.whole ∙ find_only (λ n. is_numbered t n && is_on c n.place) w.before m w.after (lacks_on c t w.before w.lacks_before) (lacks_on c t w.after w.lacks_after) ∙
    ap (λ b. if b && is_on c m.place then Some m else None) (eq-eqb m.thread.id t w.number)

-- the thread that was changed is found where it stands now
pub thread_on-changed : (c t : ℕ) (m : Member) (ms : List Member) (w : Within t m ms) (f : Member → Member) → (f m).thread.id ≡ m.thread.id →
    thread_on c t (changed t f ms) ≡ (if is_on c (f m).place then Some (f m) else None)
thread_on-changed c t m ms w f same =
    find-changed_only (λ n. is_numbered t n && is_on c n.place) t m ms w f (lacks_on c t w.before w.lacks_before) (lacks_on c t w.after w.lacks_after) ∙
    ap (λ b. if b && is_on c (f m).place then Some (f m) else None) (eq-eqb (f m).thread.id t (same ∙ w.number))

-- every other thread is found as before
pub thread_on-changed_other : (c u t : ℕ) (m : Member) (ms : List Member) (w : Within t m ms) (f : Member → Member) → (f m).thread.id ≡ m.thread.id → u ≢ t →
    thread_on c u (changed t f ms) ≡ thread_on c u ms
thread_on-changed_other c u t m ms w f same apart =
    find-changed_kept (λ n. is_numbered u n && is_on c n.place) t m ms w f
    (and_left (is_numbered u m) (is_on c m.place) (number_fails u t m apart w.number))
    (and_left (is_numbered u (f m)) (is_on c (f m).place) (number_fails u t (f m) apart (same ∙ w.number)))

-- what is found on a CPU is within the list
pub within_thread_on : (c t : ℕ) (m : Member) (ms : List Member) → IsWellMade ms → thread_on c t ms ≡ Some m → Within t m ms
within_thread_on c t m ms made found =
    let passes = (found_at (λ n. is_numbered t n && is_on c n.place) ms m found).passes in
    let P : ℕ → Type 0 = λ u. Within u m ms in
    subst P (eqb-true m.thread.id t (and_parts (is_numbered t m) (is_on c m.place) passes).0) (within_found (λ n. is_numbered t n && is_on c n.place) ms m made found)

-- the thread that is found on a CPU stands there
pub thread_on_stands : (c t : ℕ) (m : Member) (ms : List Member) → thread_on c t ms ≡ Some m → is_on c m.place ≡ true
thread_on_stands c t m ms found =
    (and_parts (is_numbered t m) (is_on c m.place) (found_at (λ n. is_numbered t n && is_on c n.place) ms m found).passes).1

-- ---- the current thread

-- where one thread runs on a CPU no other does
pub no_other_runs : (c : ℕ) (m : Member) (ns : List Member) → AllByRecursion (AreApart m) ns → runs_on c m.place ≡ true → AllByRecursion (λ n. runs_on c n.place ≡ false) ns
no_other_runs c m ns apart runs =
    all_along (AreApart m) (λ n. runs_on c n.place ≡ false) ns (λ n h. false_from_ne_true (runs_on c n.place) (λ there. h.running c runs there)) apart

-- the current thread is within the list
pub within_current : (c : ℕ) (ms : List Member) (m : Member) → IsWellMade ms → current_of c ms ≡ Some m → Within m.thread.id m ms
within_current c ms m made found = within_found (λ n. runs_on c n.place) ms m made found

-- the current thread runs on the CPU
pub current_runs : (c : ℕ) (ms : List Member) (m : Member) → current_of c ms ≡ Some m → runs_on c m.place ≡ true
current_runs c ms m found = (found_at (λ n. runs_on c n.place) ms m found).passes

-- a change of a thread that runs neither before nor after leaves the current thread
pub current_of-changed_kept : (c t : ℕ) (m : Member) (ms : List Member) (w : Within t m ms) (f : Member → Member) → runs_on c m.place ≡ false →
    runs_on c (f m).place ≡ false → current_of c (changed t f ms) ≡ current_of c ms
current_of-changed_kept c t m ms w f old new = find-changed_kept (λ n. runs_on c n.place) t m ms w f old new

-- a change of the current thread leaves it or leaves none
pub current_of-changed : (c t : ℕ) (m : Member) (ms : List Member) (w : Within t m ms) (f : Member → Member) → runs_on c m.place ≡ true →
    current_of c (changed t f ms) ≡ (if runs_on c (f m).place then Some (f m) else None)
current_of-changed c t m ms w f runs =
    find-changed_only (λ n. runs_on c n.place) t m ms w f (no_other_runs c m w.before w.apart_before runs) (no_other_runs c m w.after w.apart_after runs)

-- where there was no current thread, one that is put to run is it
pub current_of-changed_none : (c t : ℕ) (m : Member) (ms : List Member) (w : Within t m ms) (f : Member → Member) → current_of c ms ≡ None →
    current_of c (changed t f ms) ≡ (if runs_on c (f m).place then Some (f m) else None)
current_of-changed_none c t m ms w f none =
    let idle : AllByRecursion (λ n. runs_on c n.place ≡ false) (w.before ++ m ∷ w.after) = subst (λ ns. AllByRecursion (λ n. runs_on c n.place ≡ false) ns) w.whole (none_passes (λ n. runs_on c n.place) ms none) in
    find-changed_only (λ n. runs_on c n.place) t m ms w f
    (all_front (λ n. runs_on c n.place ≡ false) w.before (m ∷ w.after) idle) (all_back (λ n. runs_on c n.place ≡ false) w.before (m ∷ w.after) idle).1

-- ---- a thread appended

-- a look-up that the new thread fails finds what it found
pub find-appended : {X : Type 0} (p : X → Bool) (xs : List X) (x : X) → p x ≡ false → find p (xs ++ x ∷ []) ≡ find p xs
find-appended p xs x fails = find_skips p xs x [] fails ∙ ap (find p) (append-nil xs)

-- one that only the new thread passes finds it
pub find-appended_new : {X : Type 0} (p : X → Bool) (xs : List X) (x : X) → find p xs ≡ None → p x ≡ true → find p (xs ++ x ∷ []) ≡ Some x
find-appended_new p xs x none passes = find_here p xs x [] (none_passes p xs none) passes
