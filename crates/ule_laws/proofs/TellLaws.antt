-- What a scheduler tells of a thread: its holder, and its final line.
use Rattle.std.proofs.Common.{◌≡◌, ◌≢◌, ℕ, zero, suc, ◌+◌, ◌%◌, ◌<◌, ◌≤◌, Bool, true, false, ◌==◌, List, [], ◌∷◌, length, slice_get, Option, Some, None, IfSome, if◌then◌else◌, option_and_then, ⊎_elim, ◌⊎◌, refl, sym, ◌∙◌, ap, subst, arith}
use Rattle.std.specs.List.{cons_option, filter_map, range_with_len}
use Rattle.std.specs.Option.{option_map}
use Rattle.std.proofs.lemmas.Bool.{cases_lt, cond-false, cond-true, eq-eqb, ne_eqb}
use Rattle.std.proofs.lemmas.List.{get_or_past}
use Rattle.std.proofs.lemmas.Option.{get_or_from_slice_get, none-some, slice_get-get_or}
use Rattle.ule_score.specs.declared.place.Place.{Place}
use Rattle.ule_score.specs.declared.place.Place.TheVariants.{Running, Queued, Asleep, Unborn, Gone, Hand}
use Rattle.ule_score.specs.declared.record.ThreadRecord.{ThreadRecord}
use Rattle.ule_sleep.specs.Chain.{standing_in}
use Rattle.ule_threads.specs.declared.standing.Standing.{Standing}
use Rattle.ule_types.specs.declared.outcome.ThreadLine.{ThreadLine}
use Rattle.ule_model.specs.CpuValue.{first_found}
use Rattle.ule_model.specs.Events.{holder_of}
use Rattle.ule_model.specs.Finals.{line_of, position_of, final_line, thread_lines}
use Rattle.ule_model.specs.Frames.{thread_in_hand, thread_under}
use Rattle.ule_model.specs.LockValue.{LockValue, chain, limbo, line_under, nothing, queue, standing_line}
use Rattle.ule_model.specs.Places.{hand_of, is_hand_of, is_number, is_under, lock_of}
use Rattle.ule_model.specs.WellMade.{IsWellMade}
use Rattle.ule_model.specs.World.{Member, World, side_of, thread_of}
use Rattle.ule_model.specs.WorldValue.{IsAsleepOn, Shows, StandsUnder, WorldValue, held_by, held_line, holder_among, holder_at, holder_in, if_thread, line_among, line_at, line_in_hands, standing_of, value_lines}
use Rattle.ule_members.proofs.PlaceFinds.{thread_at_none, thread_at_within}
use Rattle.ule_members.proofs.Within.{within_thread}
use Rattle.ule_laws.proofs.CpuPlaces.{line_stands}
use Rattle.ule_laws.proofs.SeekLaws.{lock_found, on_is_under, one_lock}
use Rattle.ule_laws.proofs.WorldLaws.{HasValue, at_some, value_at}

-- ---- the first of some that tells anything

-- what the first of these that tells something tells, the first of them having this number
abbrev pub first_among : {X Y : Type 0} → (ℕ → X → Option Y) → ℕ → List X → Option Y
first_among f n [] = None
first_among f n (x ∷ xs) = first_found (f n x) (first_among f (suc n) xs)

-- where none tells anything nothing is told
pub first_none : {X Y : Type 0} (f : ℕ → X → Option Y) (n : ℕ) (xs : List X) → ((k : ℕ) (x : X) → slice_get xs k ≡ Some x → f (n + k) x ≡ None) → first_among f n xs ≡ None
first_none f n [] none = refl
first_none {X = X} {Y = Y} f n (x ∷ xs) none =
    ap (λ (o : Option Y). first_found o (first_among f (suc n) xs)) (subst (λ (i : ℕ). f i x ≡ None) (let e : n + 0 ≡ n = omega arith in e) (none 0 x refl)) ∙
    first_none f (suc n) xs (λ k y got. subst (λ (i : ℕ). f i y ≡ None) (let e : n + suc k ≡ suc n + k = omega arith in e) (none (suc k) y got))

-- the one that tells something, where none before it does, is told
pub first_one : {X Y : Type 0} (f : ℕ → X → Option Y) (n : ℕ) (xs : List X) (i : ℕ) (x : X) (y : Y) → slice_get xs i ≡ Some x → f (n + i) x ≡ Some y →
    ((k : ℕ) (z : X) → k < i → slice_get xs k ≡ Some z → f (n + k) z ≡ None) → first_among f n xs ≡ Some y
first_one f n [] i x y got told none = absurd (none-some x got)
first_one {X = X} {Y = Y} f n (z ∷ xs) zero x y got told none =
    ap (λ (o : Option Y). first_found o (first_among f (suc n) xs))
    (ap (f n) (same z x got) ∙ subst (λ (i : ℕ). f i x ≡ Some y) (let e : n + 0 ≡ n = omega arith in e) told)
  where
    same : (z x : X) → Some z ≡ Some x → z ≡ x
    same z x e = cc
first_one {X = X} {Y = Y} f n (z ∷ xs) (suc i) x y got told none =
    ap (λ (o : Option Y). first_found o (first_among f (suc n) xs)) (subst (λ (j : ℕ). f j z ≡ None) (let e : n + 0 ≡ n = omega arith in e) (none 0 z (omega arith) refl)) ∙
    first_one f (suc n) xs i x y got (subst (λ (j : ℕ). f j x ≡ Some y) (let e : n + suc i ≡ suc n + i = omega arith in e) told)
    (λ k u below at. subst (λ (j : ℕ). f j u ≡ None) (let e : n + suc k ≡ suc n + k = omega arith in e) (none (suc k) u (omega arith) at))

-- ---- in the hands

-- what is told of thread t in a hand
abbrev pub told_in : {Y : Type 0} → (ℕ → ThreadRecord → Y) → ℕ → ℕ → Option ThreadRecord → Option Y
told_in g t h held = option_map (g h) (if_thread t held)

-- the holder and the line of a thread in a hand are told so
holder_is_first : (n : ℕ) (hs : List (Option ThreadRecord)) (t : ℕ) → holder_among n hs t ≡ first_among (told_in (λ h r. h) t) n hs
holder_is_first n [] t = refl
holder_is_first n (h ∷ hs) t = ap (λ (o : Option ℕ). first_found (option_and_then (holder_at n t) h) o) (holder_is_first (suc n) hs t) ∙ ap (λ (o : Option ℕ). first_found o (first_among (told_in (λ h r. h) t) (suc n) hs)) (one h)
  where
    one : (h : Option ThreadRecord) → option_and_then (holder_at n t) h ≡ told_in (λ h r. h) t n h
    one None = refl
    one (Some r) = split (r.id == t)
      where
        split : (b : Bool) → (if b then Some n else None) ≡ option_map (λ (x : ThreadRecord). n) (if b then Some r else None)
        split true = refl
        split false = refl

lines_are_first : (n : ℕ) (hs : List (Option ThreadRecord)) (t : ℕ) → line_in_hands n hs t ≡ first_among (told_in (λ h r. line_of r (Hand h) 0) t) n hs
lines_are_first n [] t = refl
lines_are_first n (h ∷ hs) t =
    ap (λ (o : Option ThreadLine). first_found (option_and_then (held_line n t) h) o) (lines_are_first (suc n) hs t) ∙
    ap (λ (o : Option ThreadLine). first_found o (first_among (told_in (λ h r. line_of r (Hand h) 0) t) (suc n) hs)) (one h)
  where
    one : (h : Option ThreadRecord) → option_and_then (held_line n t) h ≡ told_in (λ h r. line_of r (Hand h) 0) t n h
    one None = refl
    one (Some r) = split (r.id == t)
      where
        split : (b : Bool) → (if b then Some (line_of r (Hand n) 0) else None) ≡ option_map (λ (x : ThreadRecord). line_of x (Hand n) 0) (if b then Some r else None)
        split true = refl
        split false = refl

-- what a hand that stands at a place is
held_at : (v : WorldValue) (h : ℕ) (x : Option ThreadRecord) → slice_get v.hands h ≡ Some x → held_by v h ≡ x
held_at v h x got = get_or_from_slice_get v.hands h x None got

-- of a thread in no hand nothing is told
pub told_none : {Y : Type 0} (g : ℕ → ThreadRecord → Y) (v : WorldValue) (w : World) (t : ℕ) → Shows v w → ((h : ℕ) → thread_in_hand h t w.members ≡ None) →
    first_among (told_in g t) 0 v.hands ≡ None
told_none g v w t shows none =
    first_none (told_in g t) 0 v.hands
    (λ k x got. ap (option_map (g (0 + k))) (ap (if_thread t) (sym (held_at v k x got)) ∙ shows.hands k t ∙ ap (option_map (λ (m : Member). m.thread)) (none k)))

-- of a thread in a hand it is told
pub told_one : {Y : Type 0} (g : ℕ → ThreadRecord → Y) (v : WorldValue) (w : World) (t h : ℕ) (m : Member) → Shows v w → thread_of t w.members ≡ Some m → m.place ≡ Hand h →
    first_among (told_in g t) 0 v.hands ≡ Some (g h m.thread)
told_one g v w t h m shows found place =
    first_one (told_in g t) 0 v.hands h (held_by v h) (g h m.thread) got (subst (λ (i : ℕ). told_in g t i (held_by v h) ≡ Some (g h m.thread)) (let e : h ≡ 0 + h = omega arith in e) told)
    (λ k z below at. ap (option_map (g (0 + k))) (ap (if_thread t) (sym (held_at v k z at)) ∙ shows.hands k t ∙ ap (option_map (λ (n : Member). n.thread)) (elsewhere k (λ (e : k ≡ h). omega arith))))
  where
    has : if_thread t (held_by v h) ≡ Some m.thread
    has =
        shows.hands h t ∙ ap (option_map (λ (n : Member). n.thread))
        (thread_at_within (is_hand_of h) t m w.members (within_thread t w.members m shows.made found) ∙ cond-true (is_hand_of h m.place) (Some m) None (ap (is_hand_of h) place ∙ eq-eqb h h refl))

    told : told_in g t h (held_by v h) ≡ Some (g h m.thread)
    told = ap (option_map (g h)) has

    got : slice_get v.hands h ≡ Some (held_by v h)
    got =
        ⊎_elim (λ (within : h < length v.hands). slice_get-get_or v.hands h None within)
        (λ (past : length v.hands ≤ h). absurd (none-some m.thread (sym (ap (if_thread t) (get_or_past v.hands h None past)) ∙ has)))
        (cases_lt h (length v.hands))

    elsewhere : (k : ℕ) → k ≢ h → thread_in_hand k t w.members ≡ None
    elsewhere k other =
        thread_at_within (is_hand_of k) t m w.members (within_thread t w.members m shows.made found) ∙
        cond-false (is_hand_of k m.place) (Some m) None (ap (is_hand_of k) place ∙ ne_eqb k h other)

-- ---- a thread's place

-- a thread that isn't there, that stands under a lock, or that is in a hand
pub data IsSomewhere (w : World) (t : ℕ) : Type 0 where
  nowhere : thread_of t w.members ≡ None → IsSomewhere w t
  under : (m : Member) (l : ℕ) → thread_of t w.members ≡ Some m → lock_of m.place ≡ Some l → hand_of m.place ≡ None → IsSomewhere w t
  in_hand : (m : Member) (h : ℕ) → thread_of t w.members ≡ Some m → m.place ≡ Hand h → IsSomewhere w t

pub stands_at : (w : World) (t : ℕ) → IsSomewhere w t
stands_at w t = at_thread (thread_of t w.members) refl
  where
    at_place : (m : Member) (p : Place) → thread_of t w.members ≡ Some m → m.place ≡ p → IsSomewhere w t
    at_place m (Running c) found place = under m c found (ap lock_of place) (ap hand_of place)
    at_place m (Queued c k b) found place = under m c found (ap lock_of place) (ap hand_of place)
    at_place m (Asleep channel) found place = under m (16 + channel % 8) found (ap lock_of place) (ap hand_of place)
    at_place m Unborn found place = under m 24 found (ap lock_of place) (ap hand_of place)
    at_place m Gone found place = under m 24 found (ap lock_of place) (ap hand_of place)
    at_place m (Hand h) found place = in_hand m h found place

    at_thread : (o : Option Member) → thread_of t w.members ≡ o → IsSomewhere w t
    at_thread None found = nowhere found
    at_thread (Some m) found = at_place m m.place found refl

-- a thread that stands under a lock is in no hand
no_hand : (w : World) (t h : ℕ) (m : Member) → IsWellMade w.members → thread_of t w.members ≡ Some m → hand_of m.place ≡ None → thread_in_hand h t w.members ≡ None
no_hand w t h m made found none =
    thread_at_within (is_hand_of h) t m w.members (within_thread t w.members m made found) ∙ cond-false (is_hand_of h m.place) (Some m) None (ap (is_number h) none)

-- the holder of a thread is the world's
pub holder_shown : (v : WorldValue) (w : World) (t : ℕ) → Shows v w → holder_in v t ≡ holder_of w.members t
holder_shown v w t shows = holder_is_first 0 v.hands t ∙ at (stands_at w t)
  where
    at : IsSomewhere w t → first_among (told_in (λ h r. h) t) 0 v.hands ≡ holder_of w.members t
    at (nowhere found) = told_none (λ h r. h) v w t shows (λ h. thread_at_none (is_hand_of h) t w.members found) ∙ sym (ap (option_and_then (λ (m : Member). hand_of m.place)) found)
    at (under m l found lock none) = told_none (λ h r. h) v w t shows (λ h. no_hand w t h m shows.made found none) ∙ sym (ap (option_and_then (λ (n : Member). hand_of n.place)) found ∙ none)
    at (in_hand m h found place) = told_one (λ h r. h) v w t h m shows found place ∙ sym (ap (option_and_then (λ (n : Member). hand_of n.place)) found ∙ ap hand_of place)

-- ---- final lines

-- a value's line of a thread is the world's, if the thread stands under the lock
pub line_under_is : (w : World) (l t : ℕ) (value : LockValue) → IsWellMade w.members → length w.lines ≤ 16 → StandsUnder w l value →
    line_under value t ≡ option_map (final_line w.members) (thread_under l t w.members)
line_under_is w l t (queue v) made few stands =
    line_stands v (side_of l w) stands.stands made t ∙
    ap (option_map (final_line w.members)) (on_is_under v.cpu t w.members (omega (arith, stands.cpu, stands.there)) ∙ ap (λ (c : ℕ). thread_under c t w.members) stands.cpu)
line_under_is w l t (chain v) made few stands = split (thread_under l t w.members) (stands.under t) (stands.asleep t)
  where
    split : (o : Option Member) → standing_in v.slots t ≡ option_map standing_of o → IfSome (standing_in v.slots t) (IsAsleepOn v.number) →
        option_map standing_line (standing_in v.slots t) ≡ option_map (final_line w.members) o
    split None is asleep = ap (option_map standing_line) is
    split (Some m) is asleep =
        let at : IsAsleepOn v.number (standing_of m) = at_some (IsAsleepOn v.number) (standing_in v.slots t) (standing_of m) asleep is in
        ap (option_map standing_line) is ∙ ap (λ (i : ℕ). Some (line_of m.thread m.place i)) (sym (ap (λ (p : Place). position_of p m.order w.members) at.place))
line_under_is w l t (limbo v) made few stands = split (thread_under l t w.members) (stands.under t) (stands.still t)
  where
    split : (o : Option Member) → standing_in v.slots t ≡ option_map standing_of o → IfSome (standing_in v.slots t) (λ s. (s.place ≡ Unborn) ⊎ (s.place ≡ Gone)) →
        option_map standing_line (standing_in v.slots t) ≡ option_map (final_line w.members) o
    split None is still = ap (option_map standing_line) is
    split (Some m) is still =
        ap (option_map standing_line) is ∙ ap (λ (i : ℕ). Some (line_of m.thread m.place i))
        (⊎_elim (λ (e : m.place ≡ Unborn). sym (ap (λ (p : Place). position_of p m.order w.members) e)) (λ (e : m.place ≡ Gone). sym (ap (λ (p : Place). position_of p m.order w.members) e))
        (at_some (λ (s : Standing). (s.place ≡ Unborn) ⊎ (s.place ≡ Gone)) (standing_in v.slots t) (standing_of m) still is))
line_under_is w l t nothing made few stands = sym (ap (option_map (final_line w.members)) (stands.none t))

-- the line under the first lock that has the thread
among_is_first : (n : ℕ) (values : List LockValue) (t : ℕ) → line_among values t ≡ first_among (λ (i : ℕ) x. line_under x t) n values
among_is_first n [] t = refl
among_is_first n (x ∷ xs) t = ap (first_found (line_under x t)) (among_is_first (suc n) xs t)

-- the line that a scheduler tells of a thread is the world's
pub line_shown : (v : WorldValue) (w : World) (t : ℕ) → Shows v w → line_at v t ≡ option_map (final_line w.members) (thread_of t w.members)
line_shown v w t shows =
    ap (λ (o : Option ThreadLine). first_found o (line_in_hands 0 v.hands t)) (among_is_first 0 v.values t) ∙
    ap (first_found (first_among (λ (i : ℕ) x. line_under x t) 0 v.values)) (lines_are_first 0 v.hands t) ∙ at (stands_at w t)
  where
    g : ℕ → ThreadRecord → ThreadLine
    g h r = line_of r (Hand h) 0

    each : (k : ℕ) (x : LockValue) → slice_get v.values k ≡ Some x → line_under x t ≡ option_map (final_line w.members) (thread_under k t w.members)
    each k x got = line_under_is w k t x shows.made shows.cpus (at_some (StandsUnder w k) (slice_get v.values k) x (shows.under k) got)

    none_among : ((k : ℕ) → thread_under k t w.members ≡ None) → first_among (λ (i : ℕ) x. line_under x t) 0 v.values ≡ None
    none_among none = first_none (λ (i : ℕ) x. line_under x t) 0 v.values (λ k x got. each k x got ∙ ap (option_map (final_line w.members)) (none k))

    at : IsSomewhere w t →
        first_found (first_among (λ (i : ℕ) x. line_under x t) 0 v.values) (first_among (told_in (λ h r. line_of r (Hand h) 0) t) 0 v.hands) ≡ option_map (final_line w.members) (thread_of t w.members)
    at (nowhere found) =
        ap (λ (o : Option ThreadLine). first_found o (first_among (told_in (λ h r. line_of r (Hand h) 0) t) 0 v.hands)) (none_among (λ k. thread_at_none (is_under k) t w.members found)) ∙
        told_none (λ h r. line_of r (Hand h) 0) v w t shows (λ h. thread_at_none (is_hand_of h) t w.members found) ∙ sym (ap (option_map (final_line w.members)) found)
    at (under m l found lock none) =
        let is = lock_found v w t l m shows found lock in
        let has : HasValue v w l = value_at v w l shows is.0 in
        ap (λ (o : Option ThreadLine). first_found o (first_among (told_in (λ h r. line_of r (Hand h) 0) t) 0 v.hands))
        (first_one (λ (i : ℕ) x. line_under x t) 0 v.values l has.value (final_line w.members m) has.found
        (each l has.value has.found ∙ ap (option_map (final_line w.members)) (thread_at_within (is_under l) t m w.members (within_thread t w.members m shows.made found) ∙ cond-true (is_under l m.place) (Some m) None (ap (is_number l) lock ∙ eq-eqb l l refl)))
        (λ k z below got. each k z got ∙ ap (option_map (final_line w.members)) (one_lock w l k t m shows.made found lock (λ (e : k ≡ l). omega arith)))) ∙
        sym (ap (option_map (final_line w.members)) found)
    at (in_hand m h found place) =
        ap (λ (o : Option ThreadLine). first_found o (first_among (told_in (λ h r. line_of r (Hand h) 0) t) 0 v.hands))
        (none_among (λ k. thread_at_within (is_under k) t m w.members (within_thread t w.members m shows.made found) ∙ cond-false (is_under k m.place) (Some m) None (ap (is_under k) place))) ∙
        told_one (λ h r. line_of r (Hand h) 0) v w t h m shows found place ∙
        sym (ap (option_map (final_line w.members)) found ∙ ap (λ (p : Place). Some (line_of m.thread p (position_of p m.order w.members))) place)

-- the final lines of a scheduler are the world's
pub lines_shown : (v : WorldValue) (w : World) → Shows v w → value_lines v ≡ thread_lines w.members
lines_shown v w shows = lines_of (range_with_len 0 256)
  where
    lines_of : (ts : List ℕ) → filter_map (line_at v) ts ≡ filter_map (λ t. option_map (final_line w.members) (thread_of t w.members)) ts
    lines_of [] = refl
    lines_of (t ∷ ts) =
        ap (λ (o : Option ThreadLine). cons_option o (filter_map (line_at v) ts)) (line_shown v w t shows) ∙
        ap (cons_option (option_map (final_line w.members) (thread_of t w.members))) (lines_of ts)
