-- What a state shows of what the workers share after one worker changed, and that a state is kept which agrees and whose workers are kept.
use Rattle.std.proofs.Common.{◌≡◌, ◌≢◌, ℕ, ◌+◌, ◌<◌, Bool, List, [], ◌∷◌, length, map, set, sym, refl, ap, ◌∙◌, subst, ⊎_elim, length-set}
use Rattle.std.specs.Prelude.{Option, Some, None, slice_get, slice_index_or}
use mathlib.Core.Logic.{dite}
use native.Mathlib.Decide.{ℕ_discrete}
use Rattle.ule_micro.specs.declared.entry.Entry.{Entry}
use Rattle.ule_micro.specs.declared.locks.TheConstants.{LOCKS, THREADS}
use Rattle.ule_micro.specs.declared.seat.Phase.{Phase}
use Rattle.ule_micro.specs.declared.seat.Phase.TheVariants as phase
use Rattle.ule_micro.specs.declared.seat.Progress.{Progress}
use Rattle.ule_micro.specs.declared.seat.Seat.{Seat}
use Rattle.ule_micro.specs.declared.word.Word.{Word}
use Rattle.ule_micro.specs.declared.word.WordChange.{WordChange}
use Rattle.ule_micro.specs.Means.{Means}
use Rattle.ule_micro.specs.Histories.{latest_of}
use Rattle.ule_micro.specs.Courses.{LegalPlay, all_advanced}
use Rattle.ule_micro.specs.Laws.{IsEmpty}
use Rattle.ule_micro.specs.Shared.{Agrees, Shared, Stamped, TimeRead, unstamped, updated, together, with_hold}
use Rattle.ule_micro.specs.States.{State, course_of_seat, courses, hand_of_seat, lock_held_by, pending, pending_by, read_by, shared_of, took, word_of}
use Rattle.ule_micro.specs.Turns.{at as placed}
use Rattle.ule_micro.specs.Theorem.{HasWhatItNeeds, WorkerAgrees}
use Rattle.ule_micro.specs.Kept.{IsKeptSeat, IsKeptState}
use Rattle.ule_micro.proofs.Lists.{index_else, index_here, length_map, map_set, set_same, get_map}
use Rattle.ule_micro.proofs.Seats.{each_seat, finished_free, hands_same, held_before, held_else, lock_held_here, seat_else, seat_here}
use Rattle.ule_micro.proofs.SharedSteps.{hold_here, hold_more, hold_other, put_else, put_here}

module _ {H G E R : Type 0} where
  -- are alike: two views of what the workers share have the same at each place
  pub record AreAlike (a b : Shared H G E R) : Type 0 where
    pub locks : (l : ℕ) → a.locks l ≡ b.locks l
    pub words : (t : ℕ) → a.words t ≡ b.words t
    pub ticket : a.ticket ≡ b.ticket
    pub now : a.now ≡ b.now
    pub values : a.values ≡ b.values
    pub hands : a.hands ≡ b.hands
    pub holds : (v l : ℕ) → a.holds v l ≡ b.holds v l
    pub pending : (v : ℕ) → a.pending v ≡ b.pending v
    pub read : (v : ℕ) → a.read v ≡ b.read v
    pub advanced : a.advanced ≡ b.advanced
    pub history : a.history ≡ b.history

  -- two views that are alike are one
  pub alike_same : (a b : Shared H G E R) → AreAlike a b → a ≡ b
  alike_same a b r = λ i. record {
    locks = λ l. r.locks l i;
    words = λ t. r.words t i;
    ticket = r.ticket i;
    now = r.now i;
    values = r.values i;
    hands = r.hands i;
    holds = λ v l. r.holds v l i;
    pending = λ v. r.pending v i;
    read = λ v. r.read v i;
    advanced = r.advanced i;
    history = r.history i;
  }

-- a list that was written reads as a function with another value at one number
pub index_put : {X : Type 0} (xs : List X) (i : ℕ) (d x : X) → i < length xs → (j : ℕ) → slice_index_or (set xs i x) j d ≡ updated (λ k. slice_index_or xs k d) i x j
index_put xs i d x low j = dite (ℕ_discrete j i)
    (λ z. ap (λ k. slice_index_or (set xs i x) k d) z ∙ (index_here xs i d x low ∙ (sym (put_here (λ k. slice_index_or xs k d) i x) ∙ ap (updated (λ k. slice_index_or xs k d) i x) (sym z))))
    (λ far. index_else xs i j d x far ∙ sym (put_else (λ k. slice_index_or xs k d) i x j far))

-- putting what is there changes nothing
pub put_same : {X : Type 0} (f : ℕ → X) (w : ℕ) (x : X) → f w ≡ x → (v : ℕ) → f v ≡ updated f w x v
put_same f w x is v = dite (ℕ_discrete v w) (λ z. ap f z ∙ (is ∙ (sym (put_here f w x) ∙ ap (updated f w x) (sym z)))) (λ far. sym (put_else f w x v far))

module _ {O E R : Type 0} (seats : List (Seat O E R)) (w : ℕ) (p p' : Seat O E R) (at : slice_get seats w ≡ Some p) where
  -- what is told of each worker, where one changed
  pub put_seat : {X : Type 0} (f : Option (Seat O E R) → X) (v : ℕ) → f (slice_get (set seats w p') v) ≡ updated (λ u. f (slice_get seats u)) w (f (Some p')) v
  put_seat f v = dite (ℕ_discrete v w)
      (λ z. ap (λ i. f (slice_get (set seats w p') i)) z ∙ (ap f (seat_here seats w p p' at) ∙ (sym (put_here (λ u. f (slice_get seats u)) w (f (Some p'))) ∙ ap (updated (λ u. f (slice_get seats u)) w (f (Some p'))) (sym z))))
      (λ far. ap f (seat_else seats w p p' at v far) ∙ sym (put_else (λ u. f (slice_get seats u)) w (f (Some p')) v far))

  -- a worker took a lock, or gave it back
  pub held_with : (l : ℕ) (b : Bool) → took p'.phase l ≡ b → ((i : ℕ) → i ≢ l → took p'.phase i ≡ took p.phase i) → (v i : ℕ)
      → lock_held_by (slice_get (set seats w p') v) i ≡ with_hold (λ u j. lock_held_by (slice_get seats u) j) w l b v i
  held_with l b has rest v i = dite (ℕ_discrete v w)
      (λ z. ap (λ u. lock_held_by (slice_get (set seats w p') u) i) z ∙ (lock_held_here seats w p p' at i ∙ (by_lock ∙ ap (λ u. with_hold (λ u j. lock_held_by (slice_get seats u) j) w l b u i) (sym z))))
      (λ far. held_else seats w p p' at i v far ∙ sym (hold_other (λ u j. lock_held_by (slice_get seats u) j) w l b v i far)) where
        by_lock : took p'.phase i ≡ with_hold (λ u j. lock_held_by (slice_get seats u) j) w l b w i
        by_lock = dite (ℕ_discrete i l)
            (λ z. ap (took p'.phase) z ∙ (has ∙ (sym (hold_here (λ u j. lock_held_by (slice_get seats u) j) w l b) ∙ ap (with_hold (λ u j. lock_held_by (slice_get seats u) j) w l b w) (sym z))))
            (λ far. rest i far ∙ (sym (held_before seats w p p' at i) ∙ sym (hold_more (λ u j. lock_held_by (slice_get seats u) j) w l b i far)))

  -- what the worker advanced is among what all did
  pub advanced_there : slice_get (map (λ (q : Seat O E R). q.advanced) seats) w ≡ Some p.advanced
  advanced_there = get_map (λ (q : Seat O E R). q.advanced) seats w p at

  -- where the worker advanced no more, what all advanced stays
  pub advanced_same : p'.advanced ≡ p.advanced → map (λ (q : Seat O E R). q.advanced) (set seats w p') ≡ map (λ (q : Seat O E R). q.advanced) seats
  advanced_same e = map_set (λ (q : Seat O E R). q.advanced) seats w p'
      ∙ (ap (set (map (λ (q : Seat O E R). q.advanced) seats) w) e ∙ set_same (map (λ (q : Seat O E R). q.advanced) seats) w p.advanced advanced_there)

-- all that the workers advanced, by their seats and by their courses
pub advanced_all : {O E R : Type 0} (seats : List (Seat O E R)) → together (map (λ (q : Seat O E R). q.advanced) seats) ≡ all_advanced (map course_of_seat seats)
advanced_all [] = refl
advanced_all (p ∷ ps) = ap (λ a. p.advanced + a) (advanced_all ps)

module _ {H O G E R C : Type 0} (m : Means H O G E R C) (orders : ℕ → List C) (s : State O G E R) (k : IsKeptState m orders s) where
  -- now is the start and all that was advanced
  pub now_is : s.now ≡ 20000 + all_advanced (courses s)
  now_is = k.agreement.shared.now ∙ ap (λ a. 20000 + a) (advanced_all s.seats)

  -- the ticket is the length of the history
  pub ticket_is : s.ticket ≡ length s.history
  ticket_is = k.agreement.shared.ticket ∙ (sym (length_map (λ (x : Stamped E R). x.entry) k.agreement.history) ∙ ap length k.agreement.same_entries)

  module _ (w : ℕ) (p : Seat O E R) (at : slice_get s.seats w ≡ Some p) where
    -- a worker that stays in its item, with other lock words, what it holds then, and what it read
    module _ (there : Phase E R) (locks' : List (Option ℕ)) (locked : ℕ → Option ℕ) (held : ℕ → ℕ → Bool) (read : ℕ → Option TimeRead) where
      abbrev pub on_its_way : State O G E R
      on_its_way = record { locks = locks'; words = s.words; ticket = s.ticket; now = s.now; values = s.values; seats = set s.seats w (placed p there); history = s.history }

      abbrev pub view_then : Shared H G E R
      view_then = record {
        locks = locked;
        words = word_of s;
        ticket = s.ticket;
        now = s.now;
        values = s.values;
        hands = map (hand_of_seat m) s.seats;
        holds = held;
        pending = pending s;
        read = read;
        advanced = map (λ (q : Seat O E R). q.advanced) s.seats;
        history = k.agreement.history;
      }

      -- what its state shows
      pub stays_shown : ((l : ℕ) → slice_index_or locks' l None ≡ locked l) → ((v l : ℕ) → lock_held_by (slice_get (set s.seats w (placed p there)) v) l ≡ held v l)
          → ((v : ℕ) → read_by (slice_get (set s.seats w (placed p there)) v) ≡ read v) → Agrees m view_then → Agrees m (shared_of m on_its_way k.agreement.history)
      stays_shown locks_so held_so read_so agrees = subst (Agrees m) (sym (alike_same (shared_of m on_its_way k.agreement.history) view_then (record {
        locks = locks_so;
        words = λ t. refl;
        ticket = refl;
        now = refl;
        values = refl;
        hands = hands_same m s.seats w p (placed p there) at refl;
        holds = held_so;
        pending = λ v. put_seat s.seats w p (placed p there) at pending_by v ∙ sym (put_same (pending s) w p.pending (ap pending_by at) v);
        read = read_so;
        advanced = advanced_same s.seats w p (placed p there) at refl;
        history = refl;
      }))) agrees

    module _ (p' : Seat O E R) (locks' : List (Option ℕ)) (words' : List Word) (ticket' now' : ℕ) (values' : List G) (history' : List (Entry E R)) where
      -- afterwards: the state, in which the worker changed
      abbrev pub afterwards : State O G E R
      afterwards = record { locks = locks'; words = words'; ticket = ticket'; now = now'; values = values'; seats = set s.seats w p'; history = history' }

      module _ (stamped : List (Stamped E R)) (same : unstamped stamped ≡ history') (agrees : Agrees m (shared_of m afterwards stamped)) (seat : IsKeptSeat m orders w p')
          (leaving : (c : WordChange) → p'.pending ≡ Some c → (x : Entry E R) × (latest_of w history' ≡ Some x) × (p'.phase ≡ phase.Leaving x.reply x.now x.locks))
          (way : (e : E) (on : Progress) → p'.phase ≡ phase.Event e on → HasWhatItNeeds m afterwards e on)
          (rests : p'.phase ≡ phase.Finished → (slice_get (orders w) p'.begun ≡ None) × (p'.pending ≡ None) × IsEmpty m (m.hand p'.own))
          (latest : (v : ℕ) → v ≢ w → latest_of v history' ≡ latest_of v s.history)
          (ways : (v : ℕ) (q : Seat O E R) (e : E) (on : Progress) → v ≢ w → slice_get s.seats v ≡ Some q → q.phase ≡ phase.Event e on → HasWhatItNeeds m s e on → HasWhatItNeeds m afterwards e on) where
        here : slice_get (set s.seats w p') w ≡ Some p'
        here = seat_here s.seats w p p' at

        this_agrees : WorkerAgrees m orders afterwards w p'
        this_agrees = record { leaving = leaving; way = way; finished = λ fin. let r = rests fin in record { ended = r.0; free = finished_free afterwards agrees.locks w p' here fin; calm = r.1; empty = r.2 } }

        other_agrees : (v : ℕ) (q : Seat O E R) → v ≢ w → slice_get s.seats v ≡ Some q → WorkerAgrees m orders afterwards v q
        other_agrees v q far is = let r = k.agreement.workers v q is in record {
          leaving = λ c pends. let z = r.leaving c pends in (z.0, latest v far ∙ z.1, z.2);
          way = λ e on stands. ways v q e on far is stands (r.way e on stands);
          finished = λ fin. let z = r.finished fin in record { ended = z.ended; free = finished_free afterwards agrees.locks v q (seat_else s.seats w p p' at v far ∙ is) fin; calm = z.calm; empty = z.empty };
        }

        -- the state is kept
        pub kept_by : length locks' ≡ LOCKS → length words' ≡ THREADS → LegalPlay m orders history' values' (map course_of_seat (set s.seats w p')) → IsKeptState m orders afterwards
        kept_by long wide play = record {
          locks = long;
          words = wide;
          workers = length-set s.seats w p' ∙ k.workers;
          seats = λ v q e. ⊎_elim (λ (z : (v ≡ w) × (p' ≡ q)). subst (λ i. IsKeptSeat m orders i q) (sym z.0) (subst (IsKeptSeat m orders w) z.1 seat)) (λ (z : (v ≢ w) × (slice_get s.seats v ≡ Some q)). k.seats v q z.1) (each_seat s.seats w p p' at v q e);
          agreement = record {
            history = stamped;
            same_entries = same;
            shared = agrees;
            workers = λ v q e. ⊎_elim (λ (z : (v ≡ w) × (p' ≡ q)). subst (λ i. WorkerAgrees m orders afterwards i q) (sym z.0) (subst (WorkerAgrees m orders afterwards w) z.1 this_agrees))
                (λ (z : (v ≢ w) × (slice_get s.seats v ≡ Some q)). other_agrees v q z.0 z.1) (each_seat s.seats w p p' at v q e);
          };
          play = play;
        }
