-- The locks of an event, by the values under the locks and by the world that they show.
use Rattle.std.proofs.Common.{◌≡◌, ℕ, suc, Bool, false, ◌||◌, List, [], ◌∷◌, is_some, min, max, slice_get, Option, Some, None, option_and_then, option_to_list, refl, sym, ◌∙◌, ap}
use Rattle.std.specs.List.{list_any}
use Rattle.std.proofs.lemmas.Bool.{cond-false}
use Rattle.std.proofs.lemmas.Option.{none-some, some_pair_parts}
use Rattle.ule_runq.proofs.Counts.{position-none}
use Rattle.ule_model.specs.Events.{Locking, chain, limbo, lock_numbers, locking, locks_of, place_of, queue, queues}
use Rattle.ule_model.specs.Frames.{thread_under}
use Rattle.ule_model.specs.LockValue.{has_under}
use Rattle.ule_model.specs.Places.{is_number, is_under, lock_of}
use Rattle.ule_model.specs.World.{Member, World, thread_of}
use Rattle.ule_model.specs.WorldValue.{Shows, StandsUnder, WorldValue, lock_for, lock_with}
use Rattle.ule_members.proofs.PlaceFinds.{thread_at_none, thread_at_within}
use Rattle.ule_members.proofs.Within.{within_thread}
use Rattle.ule_laws.proofs.SeekLaws.{has_stands, lock_found}
use Rattle.ule_laws.proofs.WorldLaws.{at_some}
use Rattle.ule_types.specs.declared.event.Event.{Event}
use Rattle.ule_seq.specs.Locks.{two_locks}

-- a test that none of a list passes
none_passes : {X : Type 0} (p : X → Bool) (xs : List X) → ((k : ℕ) (x : X) → slice_get xs k ≡ Some x → p x ≡ false) → list_any p xs ≡ false
none_passes p [] none = refl
none_passes p (x ∷ xs) none = ap (λ (b : Bool). b || list_any p xs) (none 0 x refl) ∙ none_passes p xs (λ k y got. none (suc k) y got)

-- the first lock that has a thread under it is the lock of its place, if it has one
pub lock_shown : (v : WorldValue) (w : World) (t : ℕ) → Shows v w → lock_with t v.values ≡ option_and_then (λ m. lock_of m.place) (thread_of t w.members)
lock_shown v w t shows = at_thread (thread_of t w.members) refl
  where
    -- a thread that is under no lock is found under none
    nowhere : ((l : ℕ) → is_some (thread_under l t w.members) ≡ false) → lock_with t v.values ≡ None
    nowhere none =
        position-none (λ value. has_under value t) v.values
        (none_passes (λ value. has_under value t) v.values
        (λ l value got. has_stands w l t value shows.made shows.cpus (at_some (StandsUnder w l) (slice_get v.values l) value (shows.under l) got) ∙ none l))

    at_place : (m : Member) → thread_of t w.members ≡ Some m → (o : Option ℕ) → lock_of m.place ≡ o → lock_with t v.values ≡ o
    at_place m found (Some l) lock = (lock_found v w t l m shows found lock).1
    at_place m found None lock =
        nowhere (λ l. ap (λ (o : Option Member). is_some o)
        (thread_at_within (is_under l) t m w.members (within_thread t w.members m shows.made found) ∙
        cond-false (is_under l m.place) (Some m) None (ap (is_number l) lock)))

    at_thread : (o : Option Member) → thread_of t w.members ≡ o → lock_with t v.values ≡ option_and_then (λ m. lock_of m.place) o
    at_thread None none = nowhere (λ l. ap (λ (o : Option Member). is_some o) (thread_at_none (is_under l) t w.members none))
    at_thread (Some m) found = at_place m found (lock_of m.place) refl

-- an event that takes the locks of two CPUs
pub both_locks : (w : World) (e : Event) (a b : ℕ) → two_locks (locking e) ≡ Some (a, b) → min a b ∷ max a b ∷ [] ≡ locks_of w e
both_locks w e a b two = at (locking e) two
  where
    at : (k : Locking) → two_locks k ≡ Some (a, b) → min a b ∷ max a b ∷ [] ≡ lock_numbers w.members k
    at (queues c d) is = let parts = some_pair_parts c a d b is in (λ i. min (sym parts.0 i) (sym parts.1 i) ∷ max (sym parts.0 i) (sym parts.1 i) ∷ [])
    at (queue c) is = absurd (none-some (a, b) is)
    at (chain channel) is = absurd (none-some (a, b) is)
    at limbo is = absurd (none-some (a, b) is)
    at (place_of t) is = absurd (none-some (a, b) is)

-- an event that takes one lock, or none
pub one_lock : (v : WorldValue) (w : World) (e : Event) → Shows v w → two_locks (locking e) ≡ None → option_to_list (lock_for v.values (locking e)) ≡ locks_of w e
one_lock v w e shows one = at (locking e) one
  where
    at : (k : Locking) → two_locks k ≡ None → option_to_list (lock_for v.values k) ≡ lock_numbers w.members k
    at (queues c d) is = absurd (none-some (c, d) (sym is))
    at (queue c) is = refl
    at (chain channel) is = refl
    at limbo is = refl
    at (place_of t) is = ap (λ (o : Option ℕ). option_to_list o) (lock_shown v w t shows)
