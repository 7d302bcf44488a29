-- The code makes the turns of the definitions.
use Rattle.std.proofs.Common.{◌≡◌, ℕ, ◌+◌, ◌-◌, ◌≤◌, ◌<◌, ◌^◌, List, [], ◌∷◌, ◌++◌, reverse, length, set, drop, sym, refl, ap, ◌∙◌, subst, arith}
use Rattle.std.specs.Prelude.{Option, Some, None, slice_get, slice_index_or, if◌then◌else◌}
use Rattle.std.proofs.lemmas.Option.{same_Some, slice_get_read, slice_get-get_or}
use Rattle.std.proofs.lemmas.List.{reverse-append, length-reverse, get_or-reverse}
use Rattle.ule_micro.specs.declared.seat.Phase.{Phase}
use Rattle.ule_micro.specs.declared.seat.Seat.{Seat}
use Rattle.ule_micro.specs.declared.turn.Turn.{Turn}
use Rattle.ule_micro.specs.Means.{Means}
use Rattle.ule_micro.specs.Laws.{AreOrders, AreRising, IsLawful}
use Rattle.ule_micro.specs.States.{State, Machine, lock_holder}
use Rattle.ule_micro.specs.Turns.{at as placed, step_of, turn_by, turn_of_worker, take, release}
use Rattle.ule_micro.specs.Kept.{IsKeptState, WorkerStandsAt, IsTurned, TakesNext, ReleasesNext}
use Rattle.ule_micro.specs.declared.entry.Entry.{Entry}
use Rattle.ule_micro.specs.declared.entry.HeldLocks.{HeldLocks}
use Rattle.ule_micro.specs.declared.entry.HeldLocks.TheVariants.{One, Two}
use Rattle.ule_micro.specs.declared.seat.Phase.TheVariants as phase
use Rattle.ule_micro.specs.declared.seat.Progress.{Progress}
use Rattle.ule_micro.specs.declared.seat.Progress.TheVariants as progress
use Rattle.ule_micro.specs.declared.turn.StepDone.TheVariants as done
use Rattle.ule_micro.specs.declared.turn.Turn.TheVariants as turn
use Rattle.ule_micro.specs.declared.word.Word.{Word}
use Rattle.ule_micro.specs.declared.word.Word.TheVariants.{Lock, Blocked}
use Rattle.ule_micro.specs.declared.word.WordChange.{WordChange}
use Rattle.ule_micro.specs.declared.word.WordChange.TheVariants.{Block, Point}
use Rattle.ule_micro.specs.Means.{budgets, Needs, lock_of, one, both, thread_sought_by, fixed_by}
use Rattle.ule_micro.specs.Histories.{effect_under, entry_made}
use Rattle.ule_micro.specs.Performing.{CanPerform, Acts}
use Rattle.ule_micro.specs.Programs.{CanGoOn}
use Rattle.ule_micro.specs.States.{pending, pending_by, courses, course_of_seat}
use Rattle.ule_micro.specs.Turns.{with_seat, with_lock, with_word, first_read, second_read, store, leave, commit, calm, is_named, seat_going_on, open_event, played}
use Rattle.ule_micro.specs.declared.locks.TheConstants.{LIMBO, LOCKS, THREADS}
use Rattle.ule_micro.specs.Standings.{asks}
use Rattle.ule_micro.specs.Courses.{WorkerCourse}
use Rattle.ule_micro.proofs.Lists.{index_get, any_default, there, something, get_here, drop_get}
use Rattle.ule_micro.proofs.Seats.{seat_course_at}
use Rattle.ule_micro.proofs.Numbers.{play_small, items_small, advanced_set, advanced_at}
use Rattle.ule_micro.proofs.Showing.{now_is, ticket_is}
use Rattle.ule_micro.proofs.Goings.{can_go_on, quiet_advance, asking_advance, asking_leave}
use Rattle.ule_micro.proofs.Effects.{apart_for}
use Rattle.ule_micro.proofs.Commits.{performable, rises, still_small}
use Rattle.ule_micro.specs.Theorem.{WordTellsPlace, HasLegalPlay, IsNoStep, IsNotStuck}
use Rattle.ule_micro.proofs.Turning.{rises_at, worker_turn_kept, tells_place}
use Rattle.ule_micro.proofs.Unstuck.{ends_there, not_stuck}
use Rattle.ule_micro.proofs.Outcomes.{same_workers, unmoved}

module _ {O E R : Type 0} where
  -- the worker that the code reads is the one that stands there
  pub seat_now : (seats : List (Seat O E R)) (w : ℕ) (p q : Seat O E R) → slice_get seats w ≡ Some p → q ≡ slice_index_or seats w q → slice_get seats w ≡ Some q
  seat_now seats w p q at is = at ∙ ap Some (sym (is ∙ index_get seats w q p at))

module _ {O G E R : Type 0} where
  -- the worker is at this point of its way
  pub at_way : (s : State O G E R) (w : ℕ) (e : E) (way to : Progress) → way ≡ to → WorkerStandsAt s w (phase.Event e way) → WorkerStandsAt s w (phase.Event e to)
  at_way s w e way to is = subst (λ i. WorkerStandsAt s w (phase.Event e i)) is

  -- the worker stands there, by another name of the place
  pub at_phase : (s : State O G E R) (w : ℕ) (f there : Phase E R) → f ≡ there → WorkerStandsAt s w f → WorkerStandsAt s w there
  at_phase s w f there is = subst (WorkerStandsAt s w) is

  -- a worker that was read stands where it was read to stand
  pub stands_by : (s : State O G E R) (w : ℕ) (q : Seat O E R) (there : Phase E R) → w < length s.seats → q ≡ slice_index_or s.seats w q → q.phase ≡ there
      → WorkerStandsAt s w there
  stands_by s w q there h is at = (q, slice_get_read s.seats (length s.seats) w q refl h is, at)

-- what an event needs, by its fixed locks and the thread that it seeks
pub needs_one : (n : Needs) (a : ℕ) → Some (One a) ≡ fixed_by n → n ≡ one a
needs_one (one b) a e = cc
needs_one (both b c) a e = absurd (cc)
needs_one (lock_of t) a e = absurd (cc)

-- two fixed locks are what the event needs
pub needs_both : (n : Needs) (a b : ℕ) → Some (Two a b) ≡ fixed_by n → n ≡ both a b
needs_both (one c) a b e = absurd (cc)
needs_both (both c d) a b e = cc
needs_both (lock_of t) a b e = absurd (cc)

-- a sought thread's lock is what the event needs
pub needs_lock : (n : Needs) (t : ℕ) → Some t ≡ thread_sought_by n → n ≡ lock_of t
needs_lock (one a) t e = absurd (cc)
needs_lock (both a b) t e = absurd (cc)
needs_lock (lock_of u) t e = cc

-- an event without fixed locks seeks a thread
pub seeks_some : (n : Needs) → ◌≡◌ {A = Option HeldLocks} None (fixed_by n) → ◌≡◌ {A = Option ℕ} None (thread_sought_by n) → ⊥
seeks_some (one a) f e = cc
seeks_some (both a b) f e = cc
seeks_some (lock_of u) f e = cc

-- the newest entry is the first of those that contracts see
pub newest : {X : Type 0} (items items' : List X) (x : X) → items' ≡ items ++ x ∷ [] → reverse items' ≡ x ∷ reverse items
newest items items' x e = ap reverse e ∙ reverse-append items (x ∷ [])

module _ {P H O G E R C : Type 0} (means : P → Means H O G E R C) (orders : P → ℕ → List C) (parts : P) (s : State O G E R) where
  -- the turn of a worker that stands there
  pub turn_standing_at : (w : ℕ) (there : Phase E R) (q : Seat O E R) → WorkerStandsAt s w there → q ≡ slice_index_or s.seats w q
      → turn_of_worker (means parts) (orders parts) s w ≡ step_of (means parts) (orders parts) s w q there
  turn_standing_at w there q (p, at, here) is = let now = seat_now s.seats w p q at is in ap (turn_by (means parts) (orders parts) s w) now
      ∙ ap (step_of (means parts) (orders parts) s w q) (ap (λ (y : Seat O E R). y.phase) (same_Some q p (sym now ∙ at)) ∙ here)

  -- a worker at its place takes or gives back the lock that is next
  module _ (w : ℕ) where
    read_of : (p : Seat O E R) → slice_get s.seats w ≡ Some p → p ≡ slice_index_or s.seats w p
    read_of p at = sym (index_get s.seats w p p at)

    -- an event under one lock begins with that lock
    pub opens_one : (e : E) (a : ℕ) → WorkerStandsAt s w (phase.Event e progress.Open) → (means parts).needs e ≡ one a
        → TakesNext (means parts) (orders parts) s w a (phase.Event e (progress.Locked (One a)))
    opens_one e a (p, at, here) needs = (p, at, turn_standing_at w (phase.Event e progress.Open) p (p, at, here) (read_of p at) ∙ ap (open_event (means parts) s w p e) needs)

    -- an event under two locks begins with the first
    pub opens_both : (e : E) (a b : ℕ) → WorkerStandsAt s w (phase.Event e progress.Open) → (means parts).needs e ≡ both a b
        → TakesNext (means parts) (orders parts) s w a (phase.Event e (progress.Half a b))
    opens_both e a b (p, at, here) needs = (p, at, turn_standing_at w (phase.Event e progress.Open) p (p, at, here) (read_of p at) ∙ ap (open_event (means parts) s w p e) needs)

    -- a seeker takes the lock that it read
    pub takes_named : (e : E) (t l : ℕ) → WorkerStandsAt s w (phase.Event e (progress.Named t l)) → TakesNext (means parts) (orders parts) s w l (phase.Event e (progress.Taken t l))
    takes_named e t l (p, at, here) = (p, at, turn_standing_at w (phase.Event e (progress.Named t l)) p (p, at, here) (read_of p at))

    -- the second lock follows the first
    pub takes_second : (e : E) (a b : ℕ) → WorkerStandsAt s w (phase.Event e (progress.Half a b)) → TakesNext (means parts) (orders parts) s w b (phase.Event e (progress.Locked (Two a b)))
    takes_second e a b (p, at, here) = (p, at, turn_standing_at w (phase.Event e (progress.Half a b)) p (p, at, here) (read_of p at))

    -- a lock that the word no longer names goes back
    pub frees_stale : (e : E) (l : ℕ) → WorkerStandsAt s w (phase.Event e (progress.Stale l)) → ReleasesNext (means parts) (orders parts) s w l (phase.Event e progress.Open)
    frees_stale e l (p, at, here) = (p, at, turn_standing_at w (phase.Event e (progress.Stale l)) p (p, at, here) (read_of p at))

  module _ (w : ℕ) (q : Seat O E R) (is : q ≡ slice_index_or s.seats w q) where
    -- a first read that found a lock
    pub first_turned : (k : IsKeptState (means parts) (orders parts) s) (e : E) (t l i : ℕ) (word : Word) → WorkerStandsAt s w (phase.Event e progress.Open) → (means parts).needs e ≡ lock_of t
        → i ≡ t → i < THREADS → word ≡ slice_index_or s.words i word → word ≡ Lock l
        → turn_of_worker (means parts) (orders parts) s w ≡ (turn.Moved (done.Read t (Lock l)), with_seat s w (placed q (phase.Event e (progress.Named t l))))
    first_turned k e t l i word at needs same low read named = turn_standing_at w (phase.Event e progress.Open) q at is ∙ (ap (open_event (means parts) s w q e) needs
        ∙ ap (first_read s w q e t) (ap (λ j. slice_index_or s.words j (Lock LIMBO)) (sym same) ∙ (any_default s.words i (Lock LIMBO) word (let c = k.words in omega arith) ∙ (sym read ∙ named))))

    -- a second read
    pub second_turned : (k : IsKeptState (means parts) (orders parts) s) (e : E) (t l i : ℕ) (word : Word) (there : Phase E R) → WorkerStandsAt s w (phase.Event e (progress.Taken t l)) → i ≡ t
        → i < THREADS → word ≡ slice_index_or s.words i word
        → there ≡ phase.Event e (if is_named word l then progress.Locked (One l) else progress.Stale l)
        → turn_of_worker (means parts) (orders parts) s w ≡ (turn.Moved (done.Read t word), with_seat s w (placed q there))
    second_turned k e t l i word there at same low read to = turn_standing_at w (phase.Event e (progress.Taken t l)) q at is
        ∙ (ap (second_read s w q e t l) (ap (λ j. slice_index_or s.words j (Lock LIMBO)) (sym same) ∙ (any_default s.words i (Lock LIMBO) word (let c = k.words in omega arith) ∙ sym read))
        ∙ (λ j. (turn.Moved (done.Read t word), with_seat s w (placed q (sym to j)))))

    -- a lock that was free was taken
    pub took_turned : (k : IsKeptState (means parts) (orders parts) s) (l i : ℕ) (there : Phase E R) (word : Option ℕ) → TakesNext (means parts) (orders parts) s w l there → i ≡ l → i < LOCKS
        → word ≡ slice_index_or s.locks i word → word ≡ None
        → turn_of_worker (means parts) (orders parts) s w ≡ (turn.Moved (done.Take l), with_lock s i (Some w) w (placed q there))
    took_turned k l i there word (p, at, next) same low read free = next ∙ (λ j. take s w (now j) l there (found j)) ∙ (λ j. (turn.Moved (done.Take l), with_lock s (sym same j) (Some w) w (placed q there))) where
      now : p ≡ q
      now = same_Some p q (sym at ∙ seat_now s.seats w p q at is)

      found : lock_holder s l ≡ None
      found = ap (λ j. slice_index_or s.locks j None) (sym same) ∙ (any_default s.locks i None word (let c = k.locks in omega arith) ∙ (sym read ∙ free))

    -- a lock was given back
    pub released_turned : (l i : ℕ) (there : Phase E R) → ReleasesNext (means parts) (orders parts) s w l there → i ≡ l
        → turn_of_worker (means parts) (orders parts) s w ≡ (turn.Moved (done.Release l), with_lock s i None w (placed q there))
    released_turned l i there (p, at, next) same = next ∙ (λ j. release s l w (placed (same_Some p q (sym at ∙ seat_now s.seats w p q at is) j) there)) ∙ (λ j. (turn.Moved (done.Release l), with_lock s (sym same j) None w (placed q there)))

    -- the last lock was given back, and the worker went on
    pub left_turned : (a i : ℕ) (reply : R) (now : ℕ) (q' : Seat O E R) → WorkerStandsAt s w (phase.Leaving reply now (One a)) → pending s w ≡ None → i ≡ a
        → q' ≡ seat_going_on (means parts) (orders parts) w q.own q.begun (Some (reply, now)) q.items q.advanced
        → turn_of_worker (means parts) (orders parts) s w ≡ (turn.Moved (done.Release a), with_lock s i None w q')
    left_turned a i reply now q' (p, at, here) calm_w same went = let seat = seat_now s.seats w p q at is in turn_standing_at w (phase.Leaving reply now (One a)) q (p, at, here) is
        ∙ (ap (leave (means parts) (orders parts) s w q reply now (One a)) (sym (ap pending_by seat) ∙ calm_w) ∙ (λ j. (turn.Moved (done.Release a), with_lock s (sym same j) None w (sym went j))))

    -- a change was stored
    pub stored_turned : (k : IsKeptState (means parts) (orders parts) s) (change : WordChange) → ((p : Seat O E R) × (slice_get s.seats w ≡ Some p) × (p.pending ≡ Some change))
        → turn_of_worker (means parts) (orders parts) s w ≡ store s w q change
    stored_turned k change (p, at, pends) = let seat = seat_now s.seats w p q at is in let same : p ≡ q = same_Some p q (sym at ∙ seat) in let z = (k.agreement.workers w p at).leaving change pends in
        turn_standing_at w (phase.Leaving z.0.reply z.0.now z.0.locks) q (p, at, z.2) is ∙ ap (leave (means parts) (orders parts) s w q z.0.reply z.0.now z.0.locks) (ap (λ (y : Seat O E R). y.pending) (sym same) ∙ pends)

    -- time was raised, and the worker went on
    pub raised_turned : (n : ℕ) (q' : Seat O E R) → WorkerStandsAt s w (phase.Advance n) → q' ≡ seat_going_on (means parts) (orders parts) w q.own q.begun None (q.items + 1) (q.advanced + n)
        → turn_of_worker (means parts) (orders parts) s w ≡ (
          turn.Moved (done.Advance n),
          record {
            locks = s.locks;
            words = s.words;
            ticket = s.ticket;
            now = s.now + n;
            values = s.values;
            seats = set s.seats w q';
            history = s.history;
          },
        )
    raised_turned n q' at went = turn_standing_at w (phase.Advance n) q at is
        ∙ (λ j. (turn.Moved (done.Advance n), record { locks = s.locks; words = s.words; ticket = s.ticket; now = s.now + n; values = s.values; seats = set s.seats w (sym went j); history = s.history }))

    -- an event took effect
    pub committed_turned : (k : IsKeptState (means parts) (orders parts) s) (e : E) (held : HeldLocks) (now : ℕ) (q' : Seat O E R) (values' : List G) (reply : R) (history' : List (Entry E R))
        → WorkerStandsAt s w (phase.Event e (progress.Timed held now))
        → Acts (means parts) q s.values e now held q' values' reply → history' ≡ entry_made w e held now reply ∷ s.history
        → turn_of_worker (means parts) (orders parts) s w ≡ (
          turn.Moved (done.Commit (s.ticket + 1)),
          record {
            locks = s.locks;
            words = s.words;
            ticket = s.ticket + 1;
            now = s.now;
            values = values';
            seats = set s.seats w q';
            history = history';
          },
        )
    committed_turned k e held now q' values' reply history' (p, at, here) (after, effect, is_q, is_values, is_reply) is_history = let seat = seat_now s.seats w p q at is in
        turn_standing_at w (phase.Event e (progress.Timed held now)) q (p, at, here) is
        ∙ (ap (commit (means parts) s w q e held now) (ap (λ i. effect_under (means parts) i e now ((means parts).hand q.own) held s.values) (sym ((k.seats w q seat).number)) ∙ effect)
        ∙ (λ j. (
          turn.Moved (done.Commit (s.ticket + 1)),
          record {
            locks = s.locks;
            words = s.words;
            ticket = s.ticket + 1;
            now = s.now;
            values = sym is_values j;
            seats = set s.seats w (sym is_q j);
            history = (ap (λ r. entry_made w e held now r ∷ s.history) (sym is_reply) ∙ sym is_history) j;
          },
        )))

    -- a worker at its end did nothing
    pub finished_turned : WorkerStandsAt s w phase.Finished → turn_of_worker (means parts) (orders parts) s w ≡ (turn.Finished, s)
    finished_turned at = turn_standing_at w phase.Finished q at is

    -- the next step behind a commit
    pub leaves_stored : (reply : R) (now : ℕ) (held : HeldLocks) (o : Option WordChange) (change : WordChange) → WorkerStandsAt s w (phase.Leaving reply now held)
        → o ≡ q.pending → o ≡ Some change → (p : Seat O E R) × (slice_get s.seats w ≡ Some p) × (p.pending ≡ Some change)
    leaves_stored reply now held o change (p, at, here) read some = (q, seat_now s.seats w p q at is, sym read ∙ some)

    -- a worker without a pending change has none
    pub leaves_calm : (reply : R) (now : ℕ) (held : HeldLocks) → WorkerStandsAt s w (phase.Leaving reply now held) → q.pending ≡ None → pending s w ≡ None
    leaves_calm reply now held (p, at, here) none = ap pending_by (seat_now s.seats w p q at is) ∙ none

    -- the second lock goes back before the first
    pub leaves_second : (reply : R) (now a b : ℕ) → WorkerStandsAt s w (phase.Leaving reply now (Two a b)) → q.pending ≡ None
        → ReleasesNext (means parts) (orders parts) s w b (phase.Leaving reply now (One a))
    leaves_second reply now a b (p, at, here) none = (q, seat_now s.seats w p q at is, turn_standing_at w (phase.Leaving reply now (Two a b)) q (p, at, here) is ∙ ap (leave (means parts) (orders parts) s w q reply now (Two a b)) none)

    -- a word was blocked
    pub blocked_turned : (k : IsKeptState (means parts) (orders parts) s) (change : WordChange) (t i : ℕ) → ((p : Seat O E R) × (slice_get s.seats w ≡ Some p) × (p.pending ≡ Some change))
        → change ≡ Block t → i ≡ t
        → turn_of_worker (means parts) (orders parts) s w ≡ (turn.Moved (done.Block t), with_word s i Blocked w (calm q))
    blocked_turned k change t i pends block same = stored_turned k change pends ∙ (ap (store s w q) block ∙ (λ j. (turn.Moved (done.Block t), with_word s (sym same j) Blocked w (calm q))))

    -- a word was pointed to a lock
    pub pointed_turned : (k : IsKeptState (means parts) (orders parts) s) (change : WordChange) (t l i : ℕ) → ((p : Seat O E R) × (slice_get s.seats w ≡ Some p) × (p.pending ≡ Some change))
        → change ≡ Point t l → i ≡ t
        → turn_of_worker (means parts) (orders parts) s w ≡ (turn.Moved (done.Point t l), with_word s i (Lock l) w (calm q))
    pointed_turned k change t l i pends point same = stored_turned k change pends ∙ (ap (store s w q) point ∙ (λ j. (turn.Moved (done.Point t l), with_word s (sym same j) (Lock l) w (calm q))))

  module _ (laws : (p : P) → IsLawful (means p)) (lists : (p : P) → AreOrders (means p) (orders p)) where
    module _ (k : IsKeptState (means parts) (orders parts) s) (w : ℕ) where
      module _ (q : Seat O E R) (is : q ≡ slice_index_or s.seats w q) where
        -- a worker that goes on is there, and may
        pub in_range : (place : Phase E R) → WorkerStandsAt s w place → w < length (means parts).owns
        in_range place (p, at, here) = let a = there s.seats w p at in let b = k.workers in omega arith

        -- a worker began commands of its list
        pub begun_low : (there : Phase E R) → WorkerStandsAt s w there → q.begun ≤ length (orders parts w)
        begun_low there (p, at, here) = (k.seats w q (seat_now s.seats w p q at is)).begun

        phase_now : (there : Phase E R) → WorkerStandsAt s w there → q.phase ≡ there
        phase_now there (p, at, here) = ap (λ (y : Seat O E R). y.phase) (same_Some q p (sym (seat_now s.seats w p q at is) ∙ at)) ∙ here

        -- a worker that raises the time has no change pending
        pub raise_calm : (n : ℕ) → WorkerStandsAt s w (phase.Advance n) → q.pending ≡ None
        raise_calm n (p, at, here) = quiet_advance (means parts) (orders parts) (laws parts) (lists parts) s k w q (seat_now s.seats w p q at is) n (phase_now (phase.Advance n) (p, at, here))

        -- a worker that raises the time may go on
        pub raise_goes : (n : ℕ) → WorkerStandsAt s w (phase.Advance n) → CanGoOn (means parts) q.own None (drop q.begun (orders parts w))
        raise_goes n (p, at, here) = let seat = seat_now s.seats w p q at is in let here' = phase_now (phase.Advance n) (p, at, here) in
            can_go_on (means parts) (orders parts) (laws parts) (lists parts) s k w q seat None (q.items + 1) (q.advanced + n) (quiet_advance (means parts) (orders parts) (laws parts) (lists parts) s k w q seat n here') (asking_advance (means parts) (orders parts) (laws parts) (lists parts) s k w q seat n here')

        -- the numbers of a worker that raises the time stay small
        pub raise_small : (n : ℕ) → WorkerStandsAt s w (phase.Advance n) → (s.now + n < 2 ^ 36) × (q.items + 1 ≤ 65536) × (q.advanced + n < 2 ^ 36)
        raise_small n (p, at, here) = let seat = seat_now s.seats w p q at is in let here' = phase_now (phase.Advance n) (p, at, here) in
            let play = asking_advance (means parts) (orders parts) (laws parts) (lists parts) s k w q seat n here' in
            let c : WorkerCourse O E R = record { own = q.own; begun = q.begun; items = q.items + 1; advanced = q.advanced + n; standing = asks None } in
            let at_c = get_here (courses s) w c (there (courses s) w (course_of_seat q) (seat_course_at s.seats w q q seat)) in
            let few = (play_small (means parts) (orders parts) (laws parts) (lists parts) s.history s.values (set (courses s) w c) play).2 in
            let items = items_small (means parts) (orders parts) (laws parts) (lists parts) s.history s.values (set (courses s) w c) w c play at_c in
            let sum = advanced_set (courses s) w (course_of_seat q) c (seat_course_at s.seats w q q seat) in let mine = advanced_at (set (courses s) w c) w c at_c in let now = now_is (means parts) (orders parts) s k in
            (omega arith, items, omega arith)

        -- a worker that gives its last lock back may go on
        pub leave_goes : (a now : ℕ) (reply : R) → WorkerStandsAt s w (phase.Leaving reply now (One a)) → pending s w ≡ None
            → CanGoOn (means parts) q.own (Some (reply, now)) (drop q.begun (orders parts w))
        leave_goes a now reply (p, at, here) none = let seat = seat_now s.seats w p q at is in let here' = phase_now (phase.Leaving reply now (One a)) (p, at, here) in let calm_q = sym (ap pending_by seat) ∙ none in
            can_go_on (means parts) (orders parts) (laws parts) (lists parts) s k w q seat (Some (reply, now)) q.items q.advanced calm_q (asking_leave (means parts) (orders parts) (laws parts) (lists parts) s k w q seat a reply now here' calm_q)

        -- a worker that was read without a pending change has none
        pub calm_now : (there : Phase E R) → WorkerStandsAt s w there → pending s w ≡ None → q.pending ≡ None
        calm_now there (p, at, here) none = sym (ap pending_by (seat_now s.seats w p q at is)) ∙ none

        -- an event that is next may be performed, and there is room for its entry
        module _ (e : E) (held : HeldLocks) (now : ℕ) where
          -- the event that is next may be performed
          pub can_perform : WorkerStandsAt s w (phase.Event e (progress.Timed held now)) → CanPerform (means parts) q.own s.values e now held
          can_perform (p, at, here) = let seat = seat_now s.seats w p q at is in let here' = phase_now (phase.Event e (progress.Timed held now)) (p, at, here) in
              let g = performable (means parts) (orders parts) (laws parts) (lists parts) s k w q seat e held now here' in (
                apart_for (means parts) s.values held ((means parts).needs e) (rises (means parts) (orders parts) (laws parts) (lists parts) s k w q seat e held now here') ((k.agreement.workers w q seat).way e (progress.Timed held now) here'),
                (g.0, g.1, subst (λ i. (means parts).may i e now ((means parts).hand q.own) g.0) (sym ((k.seats w q seat).number)) g.2),
              )

          -- its locks rise
          pub commit_rises : WorkerStandsAt s w (phase.Event e (progress.Timed held now)) → AreRising ((means parts).needs e)
          commit_rises (p, at, here) = rises (means parts) (orders parts) (laws parts) (lists parts) s k w q (seat_now s.seats w p q at is) e held now (phase_now (phase.Event e (progress.Timed held now)) (p, at, here))

          -- the numbers of a worker that commits are small
          pub commit_small : WorkerStandsAt s w (phase.Event e (progress.Timed held now))
              → (q.items < 65536) × (s.ticket < 65536) × (length s.history < budgets (means parts).budget (length (means parts).owns))
          commit_small (p, at, here) = let seat = seat_now s.seats w p q at is in
              let z = still_small (means parts) (orders parts) (laws parts) (lists parts) s k w q seat e held now (phase_now (phase.Event e (progress.Timed held now)) (p, at, here)) in
              let few = z.1 in let t = ticket_is (means parts) (orders parts) s k in (z.0, omega arith, z.2)

      -- the locks of an event on the way rise
      pub open_rises : (e : E) (way : Progress) → WorkerStandsAt s w (phase.Event e way) → AreRising ((means parts).needs e)
      open_rises e way (p, at, here) = rises_at (means parts) (orders parts) s k w p at (laws parts) (lists parts) e way here

      -- the time after an advance stays small
      pub now_small : (n : ℕ) → WorkerStandsAt s w (phase.Advance n) → s.now + n < 2 ^ 64
      now_small n (p, at, here) = let z = (raise_small p (sym (index_get s.seats w p p at)) n (p, at, here)).0 in omega arith

  -- what a turn answers and leaves, of what contracts see
  module _ (m : Machine P O G E R) (view : record { parts = parts; state = s } ≡ m) where
    -- a turn of the fields is a turn of what contracts see
    pub turned_by : (w : ℕ) (r : Turn × State O G E R) → turn_of_worker (means parts) (orders parts) s w ≡ r → IsTurned (means m.parts) (orders m.parts) m w r.0 record { parts = parts; state = r.1 }
    turned_by w r is = subst (λ (n : Machine P O G E R). IsTurned (means n.parts) (orders n.parts) n w r.0 record { parts = parts; state = r.1 }) view (refl, ap (λ (x : Turn × State O G E R). x.0) is, ap (λ (x : Turn × State O G E R). x.1) is)

    -- what a turn leaves keeps the state
    pub keeps_turned : ((p : P) → IsLawful (means p)) → ((p : P) → AreOrders (means p) (orders p)) → (w : ℕ) (r : Turn) (n : Machine P O G E R) → IsKeptState (means parts) (orders parts) s
        → IsTurned (means m.parts) (orders m.parts) m w r n → IsKeptState (means parts) (orders parts) n.state
    keeps_turned laws lists w r n k turned = subst (IsKeptState (means parts) (orders parts)) (turned_so view).2 (worker_turn_kept (means parts) (orders parts) (laws parts) (lists parts) s w k) where
      turned_so : record { parts = parts; state = s } ≡ m → IsTurned (means parts) (orders parts) (record { parts = parts; state = s }) w r n
      turned_so is = subst (λ (i : Machine P O G E R). IsTurned (means i.parts) (orders i.parts) i w r n) (sym is) turned

    -- a worker stands in the fields where contracts see it
    pub stands_inside : (w : ℕ) (there : Phase E R) → WorkerStandsAt m.state w there → WorkerStandsAt s w there
    stands_inside w there = subst (λ (n : Machine P O G E R). WorkerStandsAt n.state w there) (sym view)

    -- what the code read of a worker is what contracts see
    pub read_there : (w : ℕ) (q : Seat O E R) → q ≡ slice_index_or s.seats w q → q ≡ slice_index_or m.state.seats w q
    read_there w q is = is ∙ ap (λ (n : Machine P O G E R). slice_index_or n.state.seats w q) view

    -- a worker that the code reads is there
    pub seat_there : (w : ℕ) (q : Seat O E R) → w < length m.state.seats → q ≡ slice_index_or s.seats w q → slice_get m.state.seats w ≡ Some q
    seat_there w q h is = slice_get_read m.state.seats (length m.state.seats) w q refl h (read_there w q is)

    -- a change is pending in the fields where contracts see it
    pub pending_inside : (w : ℕ) (change : WordChange) → ((p : Seat O E R) × (slice_get m.state.seats w ≡ Some p) × (p.pending ≡ Some change))
        → (p : Seat O E R) × (slice_get s.seats w ≡ Some p) × (p.pending ≡ Some change)
    pending_inside w change = subst (λ (n : Machine P O G E R). (p : Seat O E R) × (slice_get n.state.seats w ≡ Some p) × (p.pending ≡ Some change)) (sym view)

    -- no change is pending in the fields where contracts see none
    pub quiet_here : (w : ℕ) → pending m.state w ≡ None → pending s w ≡ None
    quiet_here w = subst (λ (n : Machine P O G E R). pending n.state w ≡ None) (sym view)

    -- a lock is next in the fields where contracts see it
    pub takes_here : (w l : ℕ) (there : Phase E R) → TakesNext (means m.parts) (orders m.parts) m.state w l there → TakesNext (means parts) (orders parts) s w l there
    takes_here w l there = subst (λ (n : Machine P O G E R). TakesNext (means n.parts) (orders n.parts) n.state w l there) (sym view)

    -- a release is next in the fields where contracts see it
    pub releases_here : (w l : ℕ) (there : Phase E R) → ReleasesNext (means m.parts) (orders m.parts) m.state w l there → ReleasesNext (means parts) (orders parts) s w l there
    releases_here w l there = subst (λ (n : Machine P O G E R). ReleasesNext (means n.parts) (orders n.parts) n.state w l there) (sym view)

    -- what the state keeps, of what contracts see
    pub tells_there : IsKeptState (means parts) (orders parts) s → WordTellsPlace (means m.parts) m.state
    tells_there k = subst (λ (n : Machine P O G E R). WordTellsPlace (means n.parts) n.state) view (tells_place (means parts) (orders parts) s k)

    -- the state that contracts see is not stuck
    pub not_stuck_there : IsLawful (means parts) → AreOrders (means parts) (orders parts) → IsKeptState (means parts) (orders parts) s → IsNotStuck (means m.parts) (orders m.parts) m.state
    not_stuck_there laws lists k = subst (λ (n : Machine P O G E R). IsNotStuck (means n.parts) (orders n.parts) n.state) view (not_stuck (means parts) (orders parts) laws lists s k)

    -- a worker whose turn says that it is finished stands at the end of its program
    pub finished_there : (w : ℕ) (n : Machine P O G E R) (r : Turn) → IsLawful (means parts) → AreOrders (means parts) (orders parts) → IsKeptState (means parts) (orders parts) s → w < length m.state.seats
        → IsTurned (means m.parts) (orders m.parts) m w r n → r ≡ turn.Finished → WorkerStandsAt m.state w phase.Finished
    finished_there w n r laws lists k h turned done = let old : (w < length s.seats) × ((turn_of_worker (means parts) (orders parts) s w).0 ≡ r) = back in
        let p = something s.seats w old.0 in
        subst (λ (i : Machine P O G E R). WorkerStandsAt i.state w phase.Finished) view (p.0, p.1, ends_there (means parts) (orders parts) laws lists s k w p.0 p.1 (old.1 ∙ done)) where
          back : (w < length s.seats) × ((turn_of_worker (means parts) (orders parts) s w).0 ≡ r)
          back = subst (λ (i : Machine P O G E R). (w < length i.state.seats) × ((turn_of_worker (means i.parts) (orders i.parts) i.state w).0 ≡ r)) (sym view) (h, turned.1)

    -- the play that contracts see is legal
    pub legal_there : IsKeptState (means parts) (orders parts) s → HasLegalPlay (means m.parts) (orders m.parts) m.state
    legal_there k = subst (λ (n : Machine P O G E R). HasLegalPlay (means n.parts) (orders n.parts) n.state) view k.play

module _ {P H O G E R C : Type 0} (means : P → Means H O G E R C) (orders : P → ℕ → List C) where
  -- one more turn of those that are played
  pub played_on : (m l n : Machine P O G E R) (turns : List ℕ) (i : ℕ) (r : Turn) (after : State O G E R) → l.parts ≡ m.parts → i < length turns
      → IsTurned (means l.parts) (orders l.parts) l (slice_index_or turns i 0) r n
      → played (means m.parts) (orders m.parts) l.state (drop i turns) ≡ after → played (means m.parts) (orders m.parts) n.state (drop (i + 1) turns) ≡ after
  played_on m l n turns i r after same h turned so_far = let w = slice_index_or turns i 0 in
      let next : drop i turns ≡ w ∷ drop (i + 1) turns = drop_get turns i w (slice_get-get_or turns i 0 h) in
      let now : (turn_of_worker (means m.parts) (orders m.parts) l.state w).1 ≡ n.state = subst (λ p. (turn_of_worker (means p) (orders p) l.state w).1 ≡ n.state) same turned.2 in
      ap (λ s. played (means m.parts) (orders m.parts) s (drop (i + 1) turns)) (sym now) ∙ (ap (played (means m.parts) (orders m.parts) l.state) (sym next) ∙ so_far)

  -- a turn leaves as many workers
  pub turned_workers : (l n : Machine P O G E R) (w : ℕ) (r : Turn) → IsTurned (means l.parts) (orders l.parts) l w r n → length n.state.seats ≡ length l.state.seats
  turned_workers l n w r turned = ap (λ (s : State O G E R). length s.seats) (sym turned.2) ∙ same_workers (means l.parts) (orders l.parts) l.state w

  -- a turn that is no step leaves the state
  pub unmoved_there : (l n : Machine P O G E R) (w : ℕ) (r : Turn) → IsTurned (means l.parts) (orders l.parts) l w r n → IsNoStep r → n.state ≡ l.state
  unmoved_there l n w r turned none = sym turned.2 ∙ unmoved (means l.parts) (orders l.parts) l.state w (subst IsNoStep (sym turned.1) none)

module _ {X : Type 0} where
  -- an entry counted from the oldest, among those with the newest first
  pub reverse_get : (items : List X) (k n : ℕ) (x : X) → 0 < k → k ≤ n → n ≡ length items → x ≡ slice_index_or items (k - 1) x
      → slice_get (reverse items) (n - k) ≡ Some x
  reverse_get items k n x first last many read = let len = length-reverse items in let back : length items - 1 - (n - k) ≡ k - 1 = omega arith in
      slice_get-get_or (reverse items) (n - k) x (omega arith) ∙ ap Some (get_or-reverse items (n - k) x (omega arith) ∙ (ap (λ i. slice_index_or items i x) back ∙ sym read))
