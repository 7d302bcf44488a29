-- Each turn keeps the state.
use Rattle.std.proofs.Common.{◌≡◌, ◌≢◌, ℕ, ◌<◌, Bool, true, false, List, [], ◌∷◌, map, set, sym, refl, ap, ◌∙◌, subst, subst₂, inl, inr, arith, true≢false, ne_eqb}
use Rattle.std.specs.Prelude.{Option, Some, None, slice_get, if◌then◌else◌}
use mathlib.Core.Logic.{dite}
use native.Mathlib.Decide.{ℕ_discrete}
use Rattle.ule_micro.specs.declared.entry.HeldLocks.{HeldLocks}
use Rattle.ule_micro.specs.declared.entry.HeldLocks.TheVariants.{One, Two}
use Rattle.ule_micro.specs.declared.seat.Phase.{Phase}
use Rattle.ule_micro.specs.declared.seat.Phase.TheVariants as phase
use Rattle.ule_micro.specs.declared.seat.Progress.{Progress}
use Rattle.ule_micro.specs.declared.seat.Progress.TheVariants as progress
use Rattle.ule_micro.specs.declared.seat.Seat.{Seat}
use Rattle.ule_micro.specs.declared.word.Word.{Word}
use Rattle.ule_micro.specs.declared.word.Word.TheVariants.{Lock, Blocked}
use Rattle.ule_micro.specs.declared.word.WordChange.{WordChange}
use Rattle.ule_micro.specs.declared.word.WordChange.TheVariants.{Block, Point}
use Rattle.ule_micro.specs.Means.{Means, Needs, carried_by, one, both, lock_of, stands_under}
use Rattle.ule_micro.specs.declared.locks.TheConstants.{LOCKS}
use Rattle.ule_micro.specs.Standings.{Acted}
use Rattle.ule_micro.specs.Histories.{effect_under, is_lock_among, AreLocksFor, own_entries}
use Rattle.ule_micro.specs.Laws.{AreInRisingOrder, AreOrders, AreRising, IsLawful}
use Rattle.ule_micro.specs.Agreement.{Place, IsThere, WordAgrees, under, in_hand}
use Rattle.ule_micro.specs.States.{State, lock_holder, word_of, holds, pending, course_of_seat, hand_of_seat, read_in, read_on_the_way, took, took_on_the_way, standing_of_phase}
use Rattle.ule_micro.specs.Turns.{at as placed, is_named, take, first_read, commit, leave, open_event, approach, step_of, turn_by, turn_of_worker, played}
use Rattle.ule_micro.specs.Theorem.{HasWhatItNeeds, WordTellsPlace}
use Rattle.ule_micro.specs.Kept.{IsKeptState}
use Rattle.ule_micro.proofs.Lists.{there}
use Rattle.ule_micro.proofs.Seats.{held_before, pending_before, seat_course_at, held_low}
use Rattle.ule_micro.proofs.Threads.{word_tells, lock_injective, lock_not_blocked}
use Rattle.ule_micro.proofs.Words.{one_holder}
use Rattle.ule_micro.proofs.Among.{among_this, among_first, among_second, not_among_one, not_among_two}
use Rattle.ule_micro.proofs.Courses.{asked_for}
use Rattle.ule_micro.proofs.Effects.{stands_value}
use Rattle.ule_micro.proofs.Steps.{block_kept, release_keeps, point_kept, read_now_keeps, read_keeps, take_keeps}
use Rattle.ule_micro.proofs.Goings.{advance_kept, leave_kept}
use Rattle.ule_micro.proofs.Commits.{commit_kept}

-- of two locks the first alone is left where the second is not asked for
only_first : (i a b : ℕ) → i ≢ b → is_lock_among (Two a b) i ≡ is_lock_among (One a) i
only_first i a b n = dite (ℕ_discrete i a) (λ z. ap (is_lock_among (Two a b)) z ∙ (among_first a b ∙ (sym (among_this a) ∙ ap (is_lock_among (One a)) (sym z)))) (λ far. not_among_two a b i far n ∙ sym (not_among_one a i far))

-- a word that names the lock
pub named_is : (word : Word) (l : ℕ) → is_named word l ≡ true → word ≡ Lock l
named_is (Lock k) l e = dite (ℕ_discrete k l) (λ z. ap Lock z) (λ n. absurd (true≢false (sym e ∙ ne_eqb k l n)))
named_is Blocked l e = absurd (true≢false (sym e))

module _ {H O G E R C : Type 0} (m : Means H O G E R C) where
  -- the lock that a thread's word names tells where the thread stands
  pub tells_place : (orders : ℕ → List C) (s : State O G E R) → IsKeptState m orders s → WordTellsPlace m s
  tells_place orders s k w t l dec took_it calm named = word_tells (holds s) (pending s) (λ i. stands_under m s.values i t) (λ v. carried_by m (map (hand_of_seat m) s.seats) v t) t (word_of s t) w l calm
      (λ v h. one_holder (lock_holder s l) (λ i. holds s i l) (k.agreement.shared.locks l) v w h took_it) named (k.agreement.shared.threads t dec)

  -- a declared thread's word names one of the locks that there are
  pub word_low : (orders : ℕ → List C) (s : State O G E R) (k : IsKeptState m orders s) (t l : ℕ) → m.declared t ≡ true → word_of s t ≡ Lock l → l < LOCKS
  word_low orders s k t l dec named = by (k.agreement.shared.threads t dec).place (k.agreement.shared.threads t dec).word_agrees (k.agreement.shared.threads t dec).there where
    held : (v a : ℕ) → word_of s t ≡ Lock a → holds s v a ≡ true → l < LOCKS
    held v a at took_it = let z = held_low s k.agreement.shared.locks v a took_it in let same : a ≡ l = lock_injective a l (sym at ∙ named) in let c = k.locks in omega arith

    by : (p : Place) → WordAgrees (holds s) (pending s) t (word_of s t) p → IsThere (λ i. stands_under m s.values i t) (λ v. carried_by m (map (hand_of_seat m) s.seats) v t) p → l < LOCKS
    by (under j) (inl (is, calm)) st = let v = stands_value m s.values j t st in let z = there s.values j v.0 v.1 in let same : j ≡ l = lock_injective j l (sym is ∙ named) in let c = k.agreement.shared.values in omega arith
    by (under j) (inr (v, (is, took_it, inl b))) st = absurd (lock_not_blocked l (sym named ∙ b))
    by (under j) (inr (v, (is, took_it, inr (a, at, ha)))) st = held v a at ha
    by (in_hand v) (inl (is, calm)) st = absurd (lock_not_blocked l (sym named ∙ is))
    by (in_hand v) (inr (is, (a, at, ha))) st = held v a at ha

module _ {H O G E R C : Type 0} (m : Means H O G E R C) (orders : ℕ → List C) (s : State O G E R) (k : IsKeptState m orders s) (w : ℕ) (p : Seat O E R) (at : slice_get s.seats w ≡ Some p) where
  -- a worker on its way, as a place in its program
  abbrev on_way : E → Progress → Phase E R
  on_way e way = phase.Event e way

  -- what a worker on its way has, at another point of the same way
  way_is : (e : E) (way : Progress) → HasWhatItNeeds m s e way → (e' : E) (way' : Progress) → on_way e way ≡ phase.Event e' way' → HasWhatItNeeds m s e' way'
  way_is e way it e' way' is = let same : e ≡ e' = cc in let on : way ≡ way' = cc in subst₂ (HasWhatItNeeds m s) same on it

  -- a worker on the way to a commit has no change pending
  pub quiet_event : (e : E) (way : Progress) → p.phase ≡ phase.Event e way → p.pending ≡ None
  quiet_event e way here = by p.pending refl where
    by : (o : Option WordChange) → p.pending ≡ o → p.pending ≡ None
    by None is = is
    by (Some c) is = absurd (let z = (k.agreement.workers w p at).leaving c is in let y : phase.Event e way ≡ phase.Leaving z.0.reply z.0.now z.0.locks = sym here ∙ z.2 in cc)

  module _ (e : E) (way to : Progress) (here : p.phase ≡ phase.Event e way) (needs : HasWhatItNeeds m s e to) where
    no_leaving : (reply : R) (now : ℕ) (held : HeldLocks) → on_way e to ≡ phase.Leaving reply now held → AreInRisingOrder held
    no_leaving reply now held is = absurd (cc)

    unfinished : on_way e to ≢ phase.Finished
    unfinished is = cc

    same_item : standing_of_phase (on_way e to) ≡ standing_of_phase p.phase
    same_item = sym (ap standing_of_phase here)

    -- the worker takes a lock on its way
    taken_on : (l : ℕ) → l < LOCKS → read_on_the_way to ≡ None → took (on_way e to) l ≡ true → ((i : ℕ) → i ≢ l → took (on_way e to) i ≡ took_on_the_way way i)
        → (o : Option ℕ) → lock_holder s l ≡ o → IsKeptState m orders (take s w p l (phase.Event e to) o).1
    taken_on l low untimed has_l rest (Some holder) is = k
    taken_on l low untimed has_l rest None is = take_keeps m orders s k w p at (on_way e to) (quiet_event e way here) same_item unfinished no_leaving (way_is e to needs) untimed l low has_l
        (λ i n. rest i n ∙ sym (ap (λ f. took f i) here)) is

    -- the worker reads a word on its way
    read_on : read_on_the_way to ≡ None → read_on_the_way way ≡ None → ((i : ℕ) → took (on_way e to) i ≡ took_on_the_way way i)
        → IsKeptState m orders record { locks = s.locks; words = s.words; ticket = s.ticket; now = s.now; values = s.values; seats = set s.seats w (placed p (phase.Event e to)); history = s.history }
    read_on untimed none rest = read_keeps m orders s k w p at (on_way e to) (quiet_event e way here) same_item unfinished no_leaving (way_is e to needs) untimed
        (λ i. rest i ∙ sym (ap (λ f. took f i) here)) (ap read_in here ∙ none)

    -- the worker gives a lock back on its way
    freed_on : (l : ℕ) → read_on_the_way to ≡ None → took_on_the_way way l ≡ true → took (on_way e to) l ≡ false → ((i : ℕ) → i ≢ l → took (on_way e to) i ≡ took_on_the_way way i)
        → IsKeptState m orders record { locks = set s.locks l None; words = s.words; ticket = s.ticket; now = s.now; values = s.values; seats = set s.seats w (placed p (phase.Event e to)); history = s.history }
    freed_on l untimed had gone rest = release_keeps m orders s k w p at (on_way e to) (quiet_event e way here) same_item unfinished no_leaving (way_is e to needs) untimed l
        (ap (λ f. took f l) here ∙ had) gone (λ i n. rest i n ∙ sym (ap (λ f. took f i) here))

  module _ (laws : IsLawful m) (lists : AreOrders m orders) where
    -- an event on the way was asked for
    asked : (e : E) (way : Progress) → p.phase ≡ phase.Event e way → m.asks w (own_entries w s.history) (m.hand p.own) e
    asked e way here = asked_for m orders laws lists k.play w (course_of_seat p) (seat_course_at s.seats w p p at) e (ap standing_of_phase here)

    -- its locks rise
    pub rises_at : (e : E) (way : Progress) → p.phase ≡ phase.Event e way → AreRising (m.needs e)
    rises_at e way here = laws.sound.rising w (own_entries w s.history) (m.hand p.own) e (asked e way here)

    -- a seeker's thread is declared
    pub sought_declared : (e : E) (way : Progress) (t : ℕ) → p.phase ≡ phase.Event e way → m.needs e ≡ lock_of t → m.declared t ≡ true
    sought_declared e way t here needs = (laws.sound.seeks w (own_entries w s.history) (m.hand p.own) e t (asked e way here) needs).0

    first_kept : (e : E) (t : ℕ) → p.phase ≡ phase.Event e progress.Open → m.needs e ≡ lock_of t → (x : Word) → word_of s t ≡ x → IsKeptState m orders (first_read s w p e t x).1
    first_kept e t here needs (Lock l) is = read_on e progress.Open (progress.Named t l) here (needs, word_low m orders s k t l (sought_declared e progress.Open t here needs) is) refl refl (λ i. refl)
    first_kept e t here needs Blocked is = k

    open_kept : (e : E) → p.phase ≡ phase.Event e progress.Open → (n : Needs) → m.needs e ≡ n → IsKeptState m orders (open_event m s w p e n).1
    open_kept e here (one a) is = taken_on e progress.Open (progress.Locked (One a)) here (subst (AreLocksFor m s.values (One a)) (sym is) refl) a (subst AreRising is (rises_at e progress.Open here)) refl
        (among_this a) (not_among_one a) (lock_holder s a) refl
    open_kept e here (both a b) is = let low = subst AreRising is (rises_at e progress.Open here) in
        taken_on e progress.Open (progress.Half a b) here is a (let x = low.0 in let y = low.1 in omega arith) refl (among_this a) (not_among_one a) (lock_holder s a) refl
    open_kept e here (lock_of t) is = first_kept e t here is (word_of s t) refl

    second_kept : (e : E) (t l : ℕ) → p.phase ≡ phase.Event e (progress.Taken t l) → (x : Word) → word_of s t ≡ x → (b : Bool) → is_named x l ≡ b
        → IsKeptState m orders record {
          locks = s.locks;
          words = s.words;
          ticket = s.ticket;
          now = s.now;
          values = s.values;
          seats = set s.seats w (placed p (phase.Event e (if b then progress.Locked (One l) else progress.Stale l)));
          history = s.history;
        }
    second_kept e t l here x is true named = let needs = (k.agreement.workers w p at).way e (progress.Taken t l) here in
        let stood = tells_place m orders s k w t l (sought_declared e (progress.Taken t l) t here needs) (held_before s.seats w p p at l ∙ (ap (λ f. took f l) here ∙ among_this l)) (pending_before s.seats w p p at ∙ quiet_event e (progress.Taken t l) here) (is ∙ named_is x l named) in
        read_on e (progress.Taken t l) (progress.Locked (One l)) here (subst (AreLocksFor m s.values (One l)) (sym needs) (l, refl, stood)) refl refl (λ i. refl)
    second_kept e t l here x is false named = read_on e (progress.Taken t l) (progress.Stale l) here tt refl refl (λ i. refl)

    approach_kept : (e : E) (way : Progress) → p.phase ≡ phase.Event e way → IsKeptState m orders (approach m s w p e way).1
    approach_kept e progress.Open here = open_kept e here (m.needs e) refl
    approach_kept e (progress.Named t l) here = let it = (k.agreement.workers w p at).way e (progress.Named t l) here in
        taken_on e (progress.Named t l) (progress.Taken t l) here it.0 l it.1 refl (among_this l) (not_among_one l) (lock_holder s l) refl
    approach_kept e (progress.Taken t l) here = second_kept e t l here (word_of s t) refl (is_named (word_of s t) l) refl
    approach_kept e (progress.Stale l) here = freed_on e (progress.Stale l) progress.Open here tt l refl (among_this l) refl (λ i n. sym (not_among_one l i n))
    approach_kept e (progress.Half a b) here = let needs = (k.agreement.workers w p at).way e (progress.Half a b) here in let low = subst AreRising needs (rises_at e (progress.Half a b) here) in
        taken_on e (progress.Half a b) (progress.Locked (Two a b)) here (subst (AreLocksFor m s.values (Two a b)) (sym needs) refl) b low.1 refl (among_second a b) (λ i n. only_first i a b n) (lock_holder s b) refl
    approach_kept e (progress.Locked held) here = read_now_keeps m orders s k w p at (phase.Event e (progress.Timed held s.now)) (quiet_event e (progress.Locked held) here) (sym (ap standing_of_phase here)) (λ z. cc)
        (λ r n h z. absurd (cc)) (way_is e (progress.Timed held s.now) ((k.agreement.workers w p at).way e (progress.Locked held) here)) held refl (λ i. sym (ap (λ f. took f i) here)) (λ l a. ap (λ f. took f l) here ∙ a)
    approach_kept e (progress.Timed held now) here = by (effect_under m w e now (m.hand p.own) held s.values) refl where
      by : (o : Option (Acted H G R)) → effect_under m w e now (m.hand p.own) held s.values ≡ o → IsKeptState m orders (commit m s w p e held now o).1
      by None is = k
      by (Some after) is = commit_kept m orders laws lists s k w p at e held now here after is

    leave_two : (reply : R) (now : ℕ) (a b : ℕ) → p.phase ≡ phase.Leaving reply now (Two a b) → p.pending ≡ None
        → IsKeptState m orders record {
          locks = set s.locks b None;
          words = s.words;
          ticket = s.ticket;
          now = s.now;
          values = s.values;
          seats = set s.seats w (placed p (phase.Leaving reply now (One a)));
          history = s.history;
        }
    leave_two reply now a b here quiet = let apart : a < b = (k.seats w p at).apart reply now (Two a b) here in
        release_keeps m orders s k w p at (phase.Leaving reply now (One a)) quiet (sym (ap standing_of_phase here)) (λ z. cc) (λ r n held z. let same : One a ≡ held = cc in subst AreInRisingOrder same tt) (λ e way z. absurd (cc)) refl
        b (ap (λ f. took f b) here ∙ among_second a b) (not_among_one a b (λ z. omega arith)) (λ i n. sym (ap (λ f. took f i) here ∙ only_first i a b n))

    leave_kept_all : (reply : R) (now : ℕ) (held : HeldLocks) → p.phase ≡ phase.Leaving reply now held → (o : Option WordChange) → p.pending ≡ o
        → IsKeptState m orders (leave m orders s w p reply now held o).1
    leave_kept_all reply now held here (Some (Block t)) is = block_kept m orders s k w p at laws.settled.few t is
    leave_kept_all reply now held here (Some (Point t l)) is = point_kept m orders s k w p at laws.settled.few t l is
    leave_kept_all reply now (One a) here None is = leave_kept m orders laws lists s k w p at a reply now here is
    leave_kept_all reply now (Two a b) here None is = leave_two reply now a b here is

    step_kept : (f : Phase E R) → p.phase ≡ f → IsKeptState m orders (step_of m orders s w p f).1
    step_kept phase.Finished here = k
    step_kept (phase.Advance n) here = advance_kept m orders laws lists s k w p at n here
    step_kept (phase.Event e way) here = approach_kept e way here
    step_kept (phase.Leaving reply now held) here = leave_kept_all reply now held here p.pending refl

module _ {H O G E R C : Type 0} (m : Means H O G E R C) (orders : ℕ → List C) (laws : IsLawful m) (lists : AreOrders m orders) where
  -- each turn keeps the state
  pub worker_turn_kept : (s : State O G E R) (w : ℕ) → IsKeptState m orders s → IsKeptState m orders (turn_of_worker m orders s w).1
  worker_turn_kept s w k = by (slice_get s.seats w) refl where
    by : (o : Option (Seat O E R)) → slice_get s.seats w ≡ o → IsKeptState m orders (turn_by m orders s w o).1
    by None at = k
    by (Some p) at = step_kept m orders s k w p at laws lists p.phase refl

  -- each list of turns keeps the state
  pub played_kept : (ws : List ℕ) (s : State O G E R) → IsKeptState m orders s → IsKeptState m orders (played m orders s ws)
  played_kept [] s k = k
  played_kept (w ∷ ws) s k = played_kept ws (turn_of_worker m orders s w).1 (worker_turn_kept s w k)
