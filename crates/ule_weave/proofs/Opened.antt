-- The state at the start as a function, and that it and each state after it is sound.
use Rattle.std.proofs.Common.{◌≡◌, ℕ, zero, suc, ◌+◌, ◌<◌, List, [], ◌∷◌, map, length, replicate, Option, Some, None, slice_get, refl, sym, ap, ◌∙◌, arith}
use Rattle.std.specs.Prelude.{slice_index_or}
use Rattle.std.specs.List.{range_with_len}
use Rattle.std.proofs.lemmas.List.FromFn.{length-map-range_with_len}
use Rattle.std.proofs.lemmas.Option.{none-some, same_Some}
use Rattle.ule_types.specs.declared.setup.Setup.{Setup}
use Rattle.ule_micro.specs.declared.locks.TheConstants.{LIMBO, LOCKS, THREADS}
use Rattle.ule_micro.specs.declared.word.Word.TheVariants.{Lock}
use Rattle.ule_micro.specs.Kept.{IsKeptState}
use Rattle.ule_micro.specs.Means.{Means}
use Rattle.ule_micro.specs.States.{State, courses}
use Rattle.ule_micro.specs.Theorem.{IsStart}
use Rattle.ule_micro.specs.Turns.{next_command, seated}
use Rattle.ule_micro.proofs.Lists.{index_get, something}
use Rattle.ule_micro.proofs.Starting.{same_list, start_kept}
use Rattle.ule_micro.proofs.Turning.{worker_turn_kept}
use Rattle.ule_parts.specs.Scheduler.{orders_of, sched_means}
use Rattle.ule_parts.proofs.Lawful.{is_lawful}
use Rattle.ule_parts.proofs.Legality.{plays_are_legal}
use Rattle.ule_parts.proofs.Orders.{are_orders, are_scripts, many_owns}
use Rattle.ule_weave.specs.Start.{seats_from, started}
use Rattle.ule_weave.specs.WeaveText.{IsSound, IsSoundThroughout, SchedState, opened, turned}

-- a free lock among so many
free_at : (n l : ℕ) (free : Option ℕ) → slice_index_or (replicate n free) l free ≡ free
free_at zero l free = refl
free_at (suc n) zero free = refl
free_at (suc n) (suc l) free = free_at n l free

-- so many locks
free_many : (n : ℕ) (free : Option ℕ) → length (replicate n free) ≡ n
free_many zero free = refl
free_many (suc n) free = ap suc (free_many n free)

-- what a function gives of a number, among those from this one on
made_at : {X : Type 0} (f : ℕ → X) (k n i : ℕ) → i < n → slice_get (map f (range_with_len k n)) i ≡ Some (f (k + i))
made_at f k zero i low = absurd (omega arith)
made_at f k (suc n) zero low = let e : k ≡ k + 0 = omega arith in ap (λ j. Some (f j)) e
made_at f k (suc n) (suc i) low = let e : k + 1 + i ≡ k + suc i = omega arith in made_at f (k + 1) n i (omega arith) ∙ ap (λ j. Some (f j)) e

module _ {H O G E R C : Type 0} (m : Means H O G E R C) (orders : ℕ → List C) where
  -- so many workers
  many_seats : (w : ℕ) (os : List O) → length (seats_from m orders w os) ≡ length os
  many_seats w [] = refl
  many_seats w (o ∷ os) = ap suc (many_seats (suc w) os)

  -- a worker among those from this one on
  seat_at : (w i : ℕ) (os : List O) (o : O) → slice_get os i ≡ Some o → slice_get (seats_from m orders w os) i ≡ Some (seated m (next_command m o 0 (orders (w + i))) 0 0)
  seat_at w i [] o at = absurd (none-some o at)
  seat_at w zero (x ∷ os) o at =
      let e : w ≡ w + 0 = omega arith in
      ap (λ y. Some (seated m (next_command m y 0 (orders w)) 0 0)) (same_Some x o at) ∙ ap (λ j. Some (seated m (next_command m o 0 (orders j)) 0 0)) e
  seat_at w (suc i) (x ∷ os) o at =
      let e : suc w + i ≡ w + suc i = omega arith in
      seat_at (suc w) i os o at ∙ ap (λ j. Some (seated m (next_command m o 0 (orders j)) 0 0)) e

  -- the state at the start is one
  pub is_start : IsStart m orders (started m orders)
  is_start = record {
    locks = λ l. free_at LOCKS l None;
    words = λ t low. index_get (map (λ u. Lock (m.word u)) (range_with_len 0 THREADS)) t (Lock LIMBO) (Lock (m.word t)) (made_at (λ u. Lock (m.word u)) 0 THREADS t low ∙ ap (λ u. Some (Lock (m.word u))) (let e : 0 + t ≡ t = omega arith in e));
    ticket = refl;
    now = refl;
    values = refl;
    history = refl;
    workers = many_seats 0 m.owns;
    seats = λ w o at. seat_at 0 w m.owns o at ∙ ap (λ u. Some (seated m (next_command m o 0 (orders u)) 0 0)) (let e : 0 + w ≡ w = omega arith in e);
  }

-- the state at the start is what a start tells
pub start_is_started : {H O G E R C : Type 0} (m : Means H O G E R C) (orders : ℕ → List C) (x : State O G E R) → IsStart m orders x → length x.locks ≡ LOCKS → length x.words ≡ THREADS → x ≡ started m orders
start_is_started {H} {O} {G} {E} {R} {C} m orders x st locks words = λ i. record {
  locks = all_free x.locks LOCKS locks st.locks i;
  words = all_named i;
  ticket = st.ticket i;
  now = st.now i;
  values = st.values i;
  seats = all_seats i;
  history = st.history i;
}
  where
    all_free : (ls : List (Option ℕ)) (n : ℕ) → length ls ≡ n → ((l : ℕ) → slice_index_or ls l None ≡ None) → ls ≡ replicate n None
    all_free [] zero e free = refl
    all_free [] (suc n) e free = absurd (omega arith)
    all_free (o ∷ ls) zero e free = absurd (let f : suc (length ls) ≡ 0 = e in omega arith)
    all_free (o ∷ ls) (suc n) e free = λ i. free 0 i ∷ all_free ls n (let f : suc (length ls) ≡ suc n = e in omega arith) (λ l. free (suc l)) i

    all_named : x.words ≡ map (λ u. Lock (m.word u)) (range_with_len 0 THREADS)
    all_named = same_list x.words (map (λ u. Lock (m.word u)) (range_with_len 0 THREADS)) (words ∙ sym (length-map-range_with_len (λ u. Lock (m.word u)) 0 THREADS))
        (λ t low. let h : t < THREADS = omega arith in let w = something x.words t low in
        let zero_on : 0 + t ≡ t = omega arith in
        w.1 ∙ (ap Some (sym (index_get x.words t (Lock LIMBO) w.0 w.1) ∙ (st.words t h ∙ ap (λ u. Lock (m.word u)) (sym zero_on))) ∙ sym (made_at (λ u. Lock (m.word u)) 0 THREADS t h)))

    all_seats : x.seats ≡ seats_from m orders 0 m.owns
    all_seats = same_list x.seats (seats_from m orders 0 m.owns) (st.workers ∙ sym (many_seats m orders 0 m.owns))
        (λ w low. let h : w < length m.owns = (let a = st.workers in omega arith) in let o = something m.owns w h in
        let zero_on : 0 + w ≡ w = omega arith in
        st.seats w o.0 o.1 ∙ (ap (λ u. Some (seated m (next_command m o.0 0 (orders u)) 0 0)) (sym zero_on) ∙ sym (seat_at m orders 0 w m.owns o.0 o.1)))

-- a setup's state at the start is what a start tells
pub start_is_opened : (s : Setup) (x : SchedState) → IsStart (sched_means s) (orders_of s) x → length x.locks ≡ LOCKS → length x.words ≡ THREADS → x ≡ opened s
unfolding opened
start_is_opened s x st locks words = start_is_started (sched_means s) (orders_of s) x st locks words

-- so many workers at the start
pub opened_workers : (s : Setup) → length (opened s).seats ≡ s.cpus
unfolding opened
opened_workers s = many_seats (sched_means s) (orders_of s) 0 (sched_means s).owns ∙ many_owns s 0 s.cpus

-- ---- every state is sound

-- the state at the start keeps what the step model keeps
opened_kept : (s : Setup) → IsKeptState (sched_means s) (orders_of s) (opened s)
unfolding opened
opened_kept s =
    start_kept (sched_means s) (orders_of s) (is_lawful s) (are_orders s (orders_of s) (are_scripts s)) (opened s) (is_start (sched_means s) (orders_of s))
    (free_many LOCKS None) (length-map-range_with_len (λ u. Lock ((sched_means s).word u)) 0 THREADS)

-- a state that keeps what the step model keeps is sound
kept_sound : (s : Setup) (x : SchedState) → IsKeptState (sched_means s) (orders_of s) x → IsSound s x
kept_sound s x k = record {
  agreement = k.agreement;
  legal = plays_are_legal s s.scripts x.history x.values (courses x) (are_orders s (orders_of s) (are_scripts s)) k.play;
}

-- and so is each state that turns come to
kept_throughout : (s : Setup) (x : SchedState) (ws : List ℕ) → IsKeptState (sched_means s) (orders_of s) x → IsSoundThroughout s x ws
kept_throughout s x [] k = kept_sound s x k
kept_throughout s x (w ∷ ws) k = (kept_sound s x k, kept_throughout s (turned s x w).1 ws (worker_turn_kept (sched_means s) (orders_of s) (is_lawful s) (are_orders s (orders_of s) (are_scripts s)) x w k))

-- every state of a setup's turns is sound
pub weaves_are_sound : (s : Setup) → IsSoundThroughout s (opened s) s.turns
weaves_are_sound s = kept_throughout s (opened s) s.turns (opened_kept s)
