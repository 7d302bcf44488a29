-- How a step of the whole scheduler follows from what its event makes of the value under its lock and of the worker's
-- hand; and what is known of hands and values where an event is performed.
use Rattle.std.proofs.Common.{◌≡◌, ℕ, ◌+◌, ◌%◌, ◌<◌, ◌≤◌, true, ◌==◌, List, [], ◌∷◌, length, slice_set, Option, Some, None, IfSome, option_and_then, ⊎_elim, refl, sym, ◌∙◌, ap, subst, arith, mod-lt}
use Rattle.std.specs.Option.{option_map}
use Rattle.std.specs.Prelude.{max, min}
use Rattle.std.proofs.lemmas.Bool.{cases_eq, cases_lt, cond-true, eq-eqb, eqb-true, true≢false}
use Rattle.std.proofs.lemmas.List.{get_or-set_other, get_or-set_same, set_past}
use Rattle.std.proofs.lemmas.Option.{none-some}
use Rattle.ule_score.specs.declared.record.ThreadRecord.{ThreadRecord}
use Rattle.ule_sleep.specs.Chain.{ChainValue, standing_in}
use Rattle.ule_sleep.specs.Limbo.{LimboValue}
use Rattle.ule_threads.specs.declared.standing.Standing.{Standing}
use Rattle.ule_types.specs.declared.event.Event.{Event}
use Rattle.ule_types.specs.declared.event.Reply.{Reply}
use Rattle.ule_model.specs.Conditions.{HasEmptyHand, IsPossible}
use Rattle.ule_model.specs.CpuValue.{CpuValue}
use Rattle.ule_model.specs.Events.{Locking, lock_numbers, locking, locks_of, place_of, queues}
use Rattle.ule_model.specs.Events as events
use Rattle.ule_model.specs.Frames.{thread_in_hand}
use Rattle.ule_model.specs.LockValue.{LockValue, chain, limbo, nothing, queue}
use Rattle.ule_model.specs.Step.{Stepped, lock_step, step, step_under_locks, step_with}
use Rattle.ule_model.specs.Places.{hand_of, is_hand_of, is_number, is_under}
use Rattle.ule_model.specs.WellMade.{IsWellMade, IsWellMadeWorld}
use Rattle.ule_model.specs.World.{Member, World, thread_of}
use Rattle.ule_model.specs.WorldValue.{IsChainOf, IsHandOf, IsLimboOf, IsQueueOf, Shows, StandsUnder, WorldValue, held_by, lock_for, put_back, standing_of, value_step, value_step_at, value_step_with}
use Rattle.ule_members.proofs.PlaceFinds.{thread_at_is, thread_at_stands, thread_at_within}
use Rattle.ule_members.proofs.Within.{within_thread}
use Rattle.ule_laws.proofs.FrameLaws.{touched_frame}
use Rattle.ule_members.proofs.Steps.{step_leaves_rest, step_is_made, step_touches}
use Rattle.ule_laws.proofs.LockLaws.{AreThese}
use Rattle.ule_laws.proofs.WorldLaws.{HasValue, IsFrame, IsMadeFor, put_back_shows, value_at}

-- ---- hands

-- a hand that is empty in the world is empty
pub empty_hand : (w : World) (worker : ℕ) (held : Option ThreadRecord) → IsWellMade w.members → IsHandOf w worker held → HasEmptyHand w worker → held ≡ None
empty_hand w worker None made this empty = refl
empty_hand w worker (Some r) made this empty = absurd (at_thread (thread_in_hand worker r.id w.members) refl)
  where
    some : Some r ≡ option_map (λ m. m.thread) (thread_in_hand worker r.id w.members)
    some = sym (cond-true (r.id == r.id) (Some r) None (eq-eqb r.id r.id refl)) ∙ this r.id

    at_thread : (o : Option Member) → thread_in_hand worker r.id w.members ≡ o → ⊥
    at_thread None is = none-some r (sym (some ∙ ap (option_map (λ (m : Member). m.thread)) is))
    at_thread (Some m) is =
        empty r.id (
        ap (option_and_then (λ (n : Member). hand_of n.place)) (thread_at_is (is_hand_of worker) r.id m w.members made is) ∙
        hand_from (hand_of m.place) (thread_at_stands (is_hand_of worker) r.id m w.members is))
      where
        hand_from : (o : Option ℕ) → is_number worker o ≡ true → o ≡ Some worker
        hand_from None is = absurd (true≢false (sym is))
        hand_from (Some h) is = ap (λ (i : ℕ). Some i) (sym (eqb-true worker h is))

-- ---- the value under a lock

-- the value of a CPU that there is
pub queue_at : (w : World) (c : ℕ) (value : LockValue) → c < length w.lines → length w.lines ≤ 16 → StandsUnder w c value → (v : CpuValue) × (value ≡ queue v) × IsQueueOf w c v
queue_at w c (queue v) below few stands = (v, refl, stands)
queue_at w c (chain v) below few stands = absurd (let e = stands.number in omega arith)
queue_at w c (limbo v) below few stands = absurd (let e = stands.number in omega arith)
queue_at w c nothing below few stands = absurd (let e = stands.past in omega arith)

-- the value of a channel's chain
pub chain_at : (w : World) (channel : ℕ) (value : LockValue) → length w.lines ≤ 16 → StandsUnder w (16 + channel % 8) value →
    (v : ChainValue) × (value ≡ chain v) × IsChainOf w (16 + channel % 8) v
chain_at w channel (queue v) few stands = absurd (let e = stands.there in omega arith)
chain_at w channel (chain v) few stands = (v, refl, stands)
chain_at w channel (limbo v) few stands = absurd (let e = stands.number in let small : channel % 8 < 8 = mod-lt channel (omega arith) in omega arith)
chain_at w channel nothing few stands = absurd (let e = stands.queue in omega arith)

-- the value of limbo's lock
pub limbo_at : (w : World) (value : LockValue) → length w.lines ≤ 16 → StandsUnder w 24 value → (v : LimboValue) × (value ≡ limbo v) × IsLimboOf w 24 v
limbo_at w (queue v) few stands = absurd (let e = stands.there in omega arith)
limbo_at w (chain v) few stands = absurd (let e = stands.number in let small = stands.small in omega arith)
limbo_at w (limbo v) few stands = (v, refl, stands)
limbo_at w nothing few stands = absurd (let e = stands.queue in omega arith)

-- ---- threads with places

-- the slot of a thread that the world has under the lock
pub slot_of : (w : World) (l t : ℕ) (m : Member) (slots : List (Option Standing)) → AreThese l w.members slots → IsWellMade w.members → thread_of t w.members ≡ Some m →
    is_under l m.place ≡ true → standing_in slots t ≡ Some (standing_of m)
slot_of w l t m slots these made found under =
    these t ∙ ap (option_map standing_of) (thread_at_within (is_under l) t m w.members (within_thread t w.members m made found) ∙ cond-true (is_under l m.place) (Some m) None under)

-- what each slot keeps, each keeps with one thread more
pub put_each : (P : Standing → Type 0) (slots : List (Option Standing)) (t : ℕ) (s : Standing) → ((u : ℕ) → IfSome (standing_in slots u) P) → P s →
    (u : ℕ) → IfSome (standing_in (slice_set slots t (Some s)) u) P
put_each P slots t s each here u =
    ⊎_elim
    (λ (within : t < length slots).
    ⊎_elim
    (λ (same : u ≡ t). subst (λ o. IfSome o P) (sym (ap (standing_in (slice_set slots t (Some s))) same ∙ get_or-set_same slots t (Some s) None within)) here)
    (λ (other : u ≡ t → ⊥). subst (λ o. IfSome o P) (sym (get_or-set_other slots t u (Some s) None other)) (each u))
    (cases_eq u t))
    (λ (past : length slots ≤ t). subst (λ xs. IfSome (standing_in xs u) P) (sym (set_past slots t (Some s) past)) (each u))
    (cases_lt t (length slots))

-- what each slot keeps, each keeps with one thread less
pub take_each : (P : Standing → Type 0) (slots : List (Option Standing)) (t : ℕ) → ((u : ℕ) → IfSome (standing_in slots u) P) →
    (u : ℕ) → IfSome (standing_in (slice_set slots t None) u) P
take_each P slots t each u =
    ⊎_elim
    (λ (within : t < length slots).
    ⊎_elim
    (λ (same : u ≡ t). subst (λ o. IfSome o P) (sym (ap (standing_in (slice_set slots t None)) same ∙ get_or-set_same slots t None None within)) tt)
    (λ (other : u ≡ t → ⊥). subst (λ o. IfSome o P) (sym (get_or-set_other slots t u None None other)) (each u))
    (cases_eq u t))
    (λ (past : length slots ≤ t). subst (λ xs. IfSome (standing_in xs u) P) (sym (set_past slots t None past)) (each u))
    (cases_lt t (length slots))

-- ---- one event

-- two locks aren't one
pub two_locks : (a b l : ℕ) → a ∷ b ∷ [] ≡ l ∷ [] → ⊥
two_locks a b l is = cc

-- what is known where an event is performed
pub record IsAtEvent (v : WorldValue) (w : World) (worker : ℕ) (e : Event) (now : ℕ) : Type 0 where
  pub shows : Shows v w
  pub possible : IsPossible w worker e now

-- a world that a scheduler shows is well made
pub shown_made : (v : WorldValue) (w : World) → Shows v w → IsWellMadeWorld w
shown_made v w shows = record { members = shows.made; indexes = shows.indexes }

-- what the step of an event leaves
pub step_frame : (v : WorldValue) (w : World) (worker : ℕ) (e : Event) (now : ℕ) → IsAtEvent v w worker e now → IsFrame w worker e (step w worker e now).0
step_frame v w worker e now at =
    let made : IsWellMadeWorld w = shown_made v w at.shows in
    touched_frame w worker e now (step w worker e now).0 (step_touches w worker e now made at.possible) (step_leaves_rest w worker e now) (step_is_made w worker e now made at.possible)

-- what a step makes shows a world, and is answered so
abbrev pub ShowsWithReply : World → Reply → WorldValue × Reply → Type 0
ShowsWithReply n reply done = Shows done.0 n × (done.1 ≡ reply)

-- what a step of an event is to come to
abbrev pub IsStepOf : WorldValue → World → ℕ → Event → ℕ → Type 0
IsStepOf v w worker e now = ShowsWithReply (step w worker e now).0 (step w worker e now).1 (value_step v worker e now)

-- the step of a scheduler under the one lock that it finds
pub one_lock_found : (v : WorldValue) (worker : ℕ) (e : Event) (now l : ℕ) (k : Locking) → lock_for v.values k ≡ Some l → value_step_with k worker e now v ≡ value_step_at (Some l) worker e now v
one_lock_found v worker e now l (events.queue c) lock = ap (λ (o : Option ℕ). value_step_at o worker e now v) lock
one_lock_found v worker e now l (queues a b) lock = absurd (none-some l lock)
one_lock_found v worker e now l (events.chain channel) lock = ap (λ (o : Option ℕ). value_step_at o worker e now v) lock
one_lock_found v worker e now l events.limbo lock = ap (λ (o : Option ℕ). value_step_at o worker e now v) lock
one_lock_found v worker e now l (place_of t) lock = ap (λ (o : Option ℕ). value_step_at o worker e now v) lock

-- the step of a world under one lock is that of the event's action there
pub one_lock_taken : (w : World) (worker : ℕ) (e : Event) (now l : ℕ) (k : Locking) → lock_numbers w.members k ≡ l ∷ [] → step_with k w worker e now ≡ step_under_locks (l ∷ []) w worker e now
one_lock_taken w worker e now l (events.queue c) locks = ap (λ (ls : List ℕ). step_under_locks ls w worker e now) locks
one_lock_taken w worker e now l (queues a b) locks = absurd (two_locks (min a b) (max a b) l locks)
one_lock_taken w worker e now l (events.chain channel) locks = ap (λ (ls : List ℕ). step_under_locks ls w worker e now) locks
one_lock_taken w worker e now l events.limbo locks = ap (λ (ls : List ℕ). step_under_locks ls w worker e now) locks
one_lock_taken w worker e now l (place_of t) locks = ap (λ (ls : List ℕ). step_under_locks ls w worker e now) locks

-- what an event makes of its one lock's value and the worker's hand is what the world has there
abbrev pub IsStepUnder : WorldValue → World → ℕ → Event → ℕ → ℕ → LockValue → Type 0
IsStepUnder v w worker e now l value =
    IsMadeFor (step_under_locks (l ∷ []) w worker e now).0 worker l (step_under_locks (l ∷ []) w worker e now).1 (lock_step v.settings worker e now (held_by v worker) value)

-- so the step is that of the world
pub step_from : (v : WorldValue) (w : World) (worker : ℕ) (e : Event) (now l : ℕ) → IsAtEvent v w worker e now → lock_for v.values (locking e) ≡ Some l →
    locks_of w e ≡ l ∷ [] → l < 25 → ((at : HasValue v w l) → IsStepUnder v w worker e now l at.value) → IsStepOf v w worker e now
step_from v w worker e now l at lock locks within made =
    let n : World = (step w worker e now).0 in
    let reply : Reply = (step w worker e now).1 in
    let has : HasValue v w l = value_at v w l at.shows within in
    let stepped : Stepped = lock_step v.settings worker e now (held_by v worker) has.value in
    subst (λ (x : WorldValue × Reply). ShowsWithReply n reply x) (sym (one_lock_found v worker e now l (locking e) lock))
    (subst (λ (o : Option LockValue). ShowsWithReply n reply (put_back l worker (option_map (lock_step v.settings worker e now (held_by v worker)) o) v)) (sym has.found)
    (put_back_shows v w worker l e n reply stepped at.shows (step_frame v w worker e now at) locks within at.possible.worker_is
    (subst (λ (done : World × Reply). IsMadeFor done.0 worker l done.1 stepped) (sym (one_lock_taken w worker e now l (locking e) locks)) (made has))))
