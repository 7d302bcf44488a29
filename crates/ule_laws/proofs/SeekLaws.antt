-- A look-up of a thread under the locks of a scheduler finds what its world has there, and the lock of its place.
use Rattle.std.proofs.Common.{◌≡◌, ◌≢◌, ℕ, ◌+◌, ◌%◌, ◌<◌, ◌≤◌, Bool, true, false, ◌==◌, ◌&&◌, ◌||◌, List, [], ◌∷◌, get_or, length, Option, Some, None, is_some, if◌then◌else◌, option_and_then, ⊎_elim, refl, sym, ◌∙◌, ap, subst, arith}
use Rattle.std.specs.Option.{option_map}
use Rattle.std.proofs.lemmas.Bool.{cases_lt, cond-false, cond-true, eq-eqb, ne_eqb}
use Rattle.std.proofs.lemmas.Option.{get_or_from_slice_get, none-some}
use Rattle.ule_score.specs.declared.place.Place.{Place}
use Rattle.ule_score.specs.declared.place.Place.TheVariants.{Running, Queued, Asleep, Unborn, Gone, Hand}
use Rattle.ule_score.specs.declared.record.ThreadRecord.{ThreadRecord}
use Rattle.ule_threads.specs.declared.standing.Standing.{Standing}
use Rattle.ule_model.specs.CpuValue.{CpuValue, StandsFor, thread_on, value_place}
use Rattle.ule_model.specs.Finals.{position_of}
use Rattle.ule_model.specs.Frames.{thread_under}
use Rattle.ule_model.specs.LockValue.{LockValue, chain, found_in, found_on, has_under, limbo, nothing, queue}
use Rattle.ule_model.specs.Places.{is_number, is_on, is_under, lock_of}
use Rattle.ule_model.specs.WellMade.{IsWellMade}
use Rattle.ule_runq.proofs.Counts.{position-at}
use Rattle.ule_model.specs.World.{Member, Side, World, is_numbered, side_of, thread_of}
use Rattle.ule_model.specs.WorldValue.{Shows, StandsUnder, WorldValue, lock_with, standing_of}
use Rattle.ule_members.proofs.PlaceFinds.{thread_at, thread_at_within}
use Rattle.ule_members.proofs.Within.{within_thread}
use Rattle.ule_laws.proofs.CpuPlaces.{positions_stand}
use Rattle.ule_laws.proofs.WorldLaws.{HasValue, value_at}

-- ---- places under a queue lock

-- a number that is less than another isn't it
apart_below : (c n : ℕ) → c < n → (c == n) ≡ false
apart_below c n below = ne_eqb c n (λ e. omega arith)

-- the places under CPU c's queue lock are those on CPU c
pub is_under_queue : (c : ℕ) (p : Place) → c < 16 → is_under c p ≡ is_on c p
is_under_queue c (Running d) small = or_nothing (c == d)
  where
    or_nothing : (b : Bool) → b ≡ (b || false)
    or_nothing true = refl
    or_nothing false = refl
is_under_queue c (Queued d k b) small = refl
is_under_queue c (Asleep channel) small = apart_below c (16 + channel % 8) (omega arith)
is_under_queue c Unborn small = apart_below c 24 (omega arith)
is_under_queue c Gone small = apart_below c 24 (omega arith)
is_under_queue c (Hand w) small = refl

-- look-ups by tests of places that agree find the same
find_alike : (p q : Place → Bool) (t : ℕ) (ms : List Member) → ((place : Place) → p place ≡ q place) → thread_at p t ms ≡ thread_at q t ms
find_alike p q t [] alike = refl
find_alike p q t (m ∷ ms) alike =
    ap (λ (b : Bool). if is_numbered t m && b then Some m else thread_at p t ms) (alike m.place) ∙
    ap (λ (o : Option Member). if is_numbered t m && q m.place then Some m else o) (find_alike p q t ms alike)

-- thread t on CPU c is thread t under its queue lock
pub on_is_under : (c t : ℕ) (ms : List Member) → c < 16 → thread_on c t ms ≡ thread_under c t ms
on_is_under c t ms small = find_alike (is_on c) (is_under c) t ms (λ p. sym (is_under_queue c p small))

-- ---- what a value finds

-- a CPU finds a thread with its place where its side has it on the CPU
pub cpu_finds : (v : CpuValue) (s : Side) (t : ℕ) → StandsFor v s → IsWellMade s.members → found_on v t ≡ option_map standing_of (thread_on v.cpu t s.members)
cpu_finds v s t stands made =
    ap (option_and_then (λ (r : ThreadRecord). option_map (λ (at : Place × ℕ). record { thread = r; place = at.0 }) (value_place v t))) (stands.threads t) ∙
    ap (λ (o : Option (Place × ℕ)). option_and_then (λ (r : ThreadRecord). option_map (λ (at : Place × ℕ). record { thread = r; place = at.0 }) o) (option_map (λ (m : Member). m.thread) (thread_on v.cpu t s.members))) (positions_stand v s stands made t) ∙
    split (thread_on v.cpu t s.members)
  where
    split : (o : Option Member) →
        option_and_then (λ (r : ThreadRecord). option_map (λ (at : Place × ℕ). record { thread = r; place = at.0 }) (option_map (λ (m : Member). (m.place, position_of m.place m.order s.members)) o)) (option_map (λ (m : Member). m.thread) o) ≡ option_map standing_of o
    split None = refl
    split (Some m) = refl

-- a thread with its place is there where the thread is
some_standing : (o : Option Member) → is_some (option_map standing_of o) ≡ is_some o
some_standing None = refl
some_standing (Some m) = refl

-- each value finds a thread with its place where the world has it under the lock
pub found_stands : (w : World) (l t : ℕ) (value : LockValue) → IsWellMade w.members → length w.lines ≤ 16 → StandsUnder w l value →
    found_in value t ≡ option_map standing_of (thread_under l t w.members)
found_stands w l t (queue v) made few stands =
    cpu_finds v (side_of l w) t stands.stands made ∙ ap (option_map standing_of) (on_is_under v.cpu t w.members (omega (arith, stands.cpu, stands.there))) ∙ ap (λ (c : ℕ). option_map standing_of (thread_under c t w.members)) stands.cpu
found_stands w l t (chain v) made few stands = stands.under t
found_stands w l t (limbo v) made few stands = stands.under t
found_stands w l t nothing made few stands = sym (ap (option_map standing_of) (stands.none t))

-- it has a thread where it finds one
pub has_stands : (w : World) (l t : ℕ) (value : LockValue) → IsWellMade w.members → length w.lines ≤ 16 → StandsUnder w l value →
    has_under value t ≡ is_some (thread_under l t w.members)
has_stands w l t (queue v) made few stands =
    ap (λ (o : Option ThreadRecord). is_some o) (stands.stands.threads t) ∙ split (thread_on v.cpu t w.members) ∙
    ap (λ (o : Option Member). is_some o) (on_is_under v.cpu t w.members (omega (arith, stands.cpu, stands.there)) ∙ ap (λ (c : ℕ). thread_under c t w.members) stands.cpu)
  where
    split : (o : Option Member) → is_some (option_map (λ (m : Member). m.thread) o) ≡ is_some o
    split None = refl
    split (Some m) = refl
has_stands w l t (chain v) made few stands = ap (λ (o : Option Standing). is_some o) (stands.under t) ∙ some_standing (thread_under l t w.members)
has_stands w l t (limbo v) made few stands = ap (λ (o : Option Standing). is_some o) (stands.under t) ∙ some_standing (thread_under l t w.members)
has_stands w l t nothing made few stands = sym (ap (λ (o : Option Member). is_some o) (stands.none t))

-- ---- the lock of a thread

-- a thread that is found under one lock is found under no other
pub one_lock : (w : World) (l k t : ℕ) (m : Member) → IsWellMade w.members → thread_of t w.members ≡ Some m → lock_of m.place ≡ Some l → k ≢ l →
    thread_under k t w.members ≡ None
one_lock w l k t m made found lock other =
    thread_at_within (is_under k) t m w.members (within_thread t w.members m made found) ∙
    cond-false (is_under k m.place) (Some m) None (ap (λ (o : Option ℕ). is_number k o) lock ∙ ne_eqb k l other)

-- the first lock that has a thread under it is that of its place
pub lock_found : (v : WorldValue) (w : World) (t l : ℕ) (m : Member) → Shows v w → thread_of t w.members ≡ Some m → lock_of m.place ≡ Some l →
    (l < 25) × (lock_with t v.values ≡ Some l)
lock_found v w t l m shows found lock = (within, lock_is)
  where
    here : thread_under l t w.members ≡ Some m
    here =
        thread_at_within (is_under l) t m w.members (within_thread t w.members m shows.made found) ∙
        cond-true (is_under l m.place) (Some m) None (ap (λ (o : Option ℕ). is_number l o) lock ∙ eq-eqb l l refl)

    within : l < 25
    within = ⊎_elim (λ (below : l < 25). below) (λ (past : 25 ≤ l). absurd (none-some m (sym (shows.past l past t) ∙ here))) (cases_lt l 25)

    -- the value under lock k
    under : (k : ℕ) → k < 25 → HasValue v w k
    under k below = value_at v w k shows below

    has : (k : ℕ) (at : HasValue v w k) → has_under (get_or v.values k nothing) t ≡ is_some (thread_under k t w.members)
    has k at =
        ap (λ value. has_under value t) (get_or_from_slice_get v.values k at.value nothing at.found) ∙ has_stands w k t at.value shows.made shows.cpus at.stands

    lock_is : lock_with t v.values ≡ Some l
    lock_is =
        position-at (λ value. has_under value t) v.values l nothing (subst (λ (i : ℕ). l < i) (sym shows.locks) within)
        (λ k below.
        has k (under k (omega (arith, within))) ∙
        ap (λ (o : Option Member). is_some o) (one_lock w l k t m shows.made found lock (λ (e : k ≡ l). omega arith)))
        (has l (under l within) ∙ ap (λ (o : Option Member). is_some o) here)
