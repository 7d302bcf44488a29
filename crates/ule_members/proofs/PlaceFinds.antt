-- What a look-up of a thread by its number and its place finds, before and after one thread is changed.
use Rattle.std.proofs.Common.{◌≡◌, ◌≢◌, ℕ, Bool, true, false, ◌&&◌, List, Option, Some, None, if◌then◌else◌, ◌∙◌, ap, subst}
use Rattle.std.specs.List.{AllByRecursion, find}
use Rattle.std.proofs.lemmas.Bool.{eqb-true, eq-eqb, and_left, and_parts}
use Rattle.ule_score.specs.declared.place.Place.{Place}
use Rattle.ule_model.specs.WellMade.{IsWellMade}
use Rattle.ule_model.specs.World.{Member, is_numbered, thread_of}
use Rattle.ule_members.proofs.Threads.{find-changed_kept, find-changed_only, find_nowhere, find_only, none_passes, number_fails, thread_of_within}
use Rattle.ule_members.proofs.Within.{Lacks, Within, all_along, changed, found_at, within_found}

-- thread t, if its place is one of these
abbrev pub thread_at : (Place → Bool) → ℕ → List Member → Option Member
thread_at p t ms = find (λ m. is_numbered t m && p m.place) ms

-- threads without number t have none at any place
lacks_at : (p : Place → Bool) (t : ℕ) (ns : List Member) → Lacks t ns → AllByRecursion (λ n. (is_numbered t n && p n.place) ≡ false) ns
lacks_at p t ns lacks =
    all_along (λ n. is_numbered t n ≡ false) (λ n. (is_numbered t n && p n.place) ≡ false) ns (λ n fails. and_left (is_numbered t n) (p n.place) fails) lacks

-- thread t is found where it stands
pub thread_at_within : (p : Place → Bool) (t : ℕ) (m : Member) (ms : List Member) → Within t m ms →
    thread_at p t ms ≡ (if p m.place then Some m else None)
thread_at_within p t m ms w =
    ap (thread_at p t) w.whole ∙ find_only (λ n. is_numbered t n && p n.place) w.before m w.after (lacks_at p t w.before w.lacks_before) (lacks_at p t w.after w.lacks_after) ∙
    ap (λ b. if b && p m.place then Some m else None) (eq-eqb m.thread.id t w.number)

-- a thread that was changed is found where it stands now
pub thread_at-changed : (p : Place → Bool) (t : ℕ) (m : Member) (ms : List Member) (w : Within t m ms) (f : Member → Member) →
    (f m).thread.id ≡ m.thread.id → thread_at p t (changed t f ms) ≡ (if p (f m).place then Some (f m) else None)
thread_at-changed p t m ms w f number =
    find-changed_only (λ n. is_numbered t n && p n.place) t m ms w f (lacks_at p t w.before w.lacks_before) (lacks_at p t w.after w.lacks_after) ∙
    ap (λ b. if b && p (f m).place then Some (f m) else None) (eq-eqb (f m).thread.id t (number ∙ w.number))

-- every other thread is found as before
pub thread_at-changed_other : (p : Place → Bool) (u t : ℕ) (m : Member) (ms : List Member) (w : Within t m ms) (f : Member → Member) →
    (f m).thread.id ≡ m.thread.id → u ≢ t → thread_at p u (changed t f ms) ≡ thread_at p u ms
thread_at-changed_other p u t m ms w f number apart =
    find-changed_kept (λ n. is_numbered u n && p n.place) t m ms w f
    (and_left (is_numbered u m) (p m.place) (number_fails u t m apart w.number))
    (and_left (is_numbered u (f m)) (p (f m).place) (number_fails u t (f m) apart (number ∙ w.number)))

-- a thread that isn't there is found at no place
pub thread_at_none : (p : Place → Bool) (t : ℕ) (ms : List Member) → thread_of t ms ≡ None → thread_at p t ms ≡ None
thread_at_none p t ms none =
    find_nowhere (λ n. is_numbered t n && p n.place) ms
    (all_along (λ n. is_numbered t n ≡ false) (λ n. (is_numbered t n && p n.place) ≡ false) ms (λ n fails. and_left (is_numbered t n) (p n.place) fails) (none_passes (is_numbered t) ms none))

-- a thread that is found at some places is within the list
pub within_thread_at : (p : Place → Bool) (t : ℕ) (m : Member) (ms : List Member) → IsWellMade ms → thread_at p t ms ≡ Some m → Within t m ms
within_thread_at p t m ms made found =
    let passes = (found_at (λ n. is_numbered t n && p n.place) ms m found).passes in
    let P : ℕ → Type 0 = λ u. Within u m ms in
    subst P (eqb-true m.thread.id t (and_parts (is_numbered t m) (p m.place) passes).0) (within_found (λ n. is_numbered t n && p n.place) ms m made found)

-- it stands there
pub thread_at_stands : (p : Place → Bool) (t : ℕ) (m : Member) (ms : List Member) → thread_at p t ms ≡ Some m → p m.place ≡ true
thread_at_stands p t m ms found =
    (and_parts (is_numbered t m) (p m.place) (found_at (λ n. is_numbered t n && p n.place) ms m found).passes).1

-- its number finds it
pub thread_at_is : (p : Place → Bool) (t : ℕ) (m : Member) (ms : List Member) → IsWellMade ms → thread_at p t ms ≡ Some m → thread_of t ms ≡ Some m
thread_at_is p t m ms made found = thread_of_within t m ms (within_thread_at p t m ms made found)
