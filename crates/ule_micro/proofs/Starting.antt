-- The state at the start is kept.
use Rattle.std.proofs.Common.{◌≡◌, ℕ, zero, suc, ◌+◌, ◌≤◌, ◌<◌, Bool, true, false, List, [], ◌∷◌, ◌++◌, map, length, set, sym, refl, ap, ◌∙◌, subst, inl, arith, true≢false, length-append}
use Rattle.std.specs.Prelude.{Option, Some, None, Result, Ok, Err, is_ok, is_err, if◌then◌else◌, slice_get, slice_index_or}
use Rattle.std.proofs.lemmas.Option.{none-some, same_Some}
use mathlib.Core.Logic.{dite}
use native.Mathlib.Decide.{dec_lt, ℕ_discrete}
use Rattle.ule_micro.specs.declared.seat.Seat.{Seat}
use Rattle.ule_micro.specs.declared.word.Word.TheVariants.{Lock}
use Rattle.ule_micro.specs.Means.{Means, carried_by, stands_under}
use Rattle.ule_micro.specs.declared.locks.TheConstants.{LIMBO, LOCKS, THREADS}
use Rattle.ule_micro.specs.Standings.{standing_with}
use Rattle.ule_micro.specs.Courses.{WorkerCourse, all_advanced, unbegun, LegalPlay, opens}
use Rattle.ule_micro.specs.Laws.{AreOrders, IsLawful}
use Rattle.ule_micro.specs.Agreement.{ThreadAgrees, under}
use Rattle.ule_micro.specs.Programs.{CanBegin}
use Rattle.ule_micro.specs.Shared.{Agrees}
use Rattle.ule_micro.specs.States.{State, holds, lock_held_by, pending, pending_by, read_by, time_read, course_of_seat, hand_of_seat, courses, shared_of, word_of}
use Rattle.ule_micro.specs.Turns.{Fetched, next_command, seated, phase_with}
use Rattle.ule_micro.specs.Theorem.{IsStart, HasWhatItNeeds, WorkerAgrees}
use Rattle.ule_micro.specs.Kept.{IsKeptState}
use Rattle.ule_micro.specs.declared.entry.Entry.{Entry}
use Rattle.ule_micro.specs.declared.word.Word.{Word}
use Rattle.ule_micro.specs.Opening.{AreFreeLocks, AreFirstWords, AreFirstValues, AreFirstSeats, IsFirstSeat}
use Rattle.ule_micro.proofs.Lists.{set_same, there, something, get_map, map_get, length_map, index_get, index_past}
use Rattle.ule_micro.proofs.Fetches.{IsFetchedWell, commands_well}
use Rattle.ule_micro.proofs.Fresh.{took_nothing, read_nothing, standing_given, given_none, given_open, given_not_leaving}
use Rattle.ule_micro.proofs.Showing.{advanced_all}

module _ {X : Type 0} where
  -- mixed: the first n of one list, and the rest of another
  abbrev pub mixed : ℕ → List X → List X → List X
  mixed zero xs ys = ys
  mixed (suc n) [] ys = ys
  mixed (suc n) (x ∷ xs) [] = []
  mixed (suc n) (x ∷ xs) (y ∷ ys) = x ∷ mixed n xs ys

  mixed_next : (n : ℕ) (xs ys : List X) (x : X) → length xs ≡ length ys → slice_get xs n ≡ Some x → set (mixed n xs ys) n x ≡ mixed (suc n) xs ys
  mixed_next n [] ys x len at = absurd (none-some x at)
  mixed_next n (z ∷ xs) [] x len at = absurd (let e : suc (length xs) ≡ 0 = len in omega arith)
  mixed_next zero (z ∷ xs) (y ∷ ys) x len at = ap (λ i. i ∷ ys) (sym (same_Some z x at))
  mixed_next (suc n) (z ∷ xs) (y ∷ ys) x len at = ap (λ l. z ∷ l) (mixed_next n xs ys x (let e : suc (length xs) ≡ suc (length ys) = len in omega arith) at)

  mixed_rest : (n : ℕ) (xs ys : List X) → length xs ≡ length ys → slice_get (mixed n xs ys) n ≡ slice_get ys n
  mixed_rest zero xs ys len = refl
  mixed_rest (suc n) [] ys len = refl
  mixed_rest (suc n) (x ∷ xs) [] len = refl
  mixed_rest (suc n) (x ∷ xs) (y ∷ ys) len = mixed_rest n xs ys (let e : suc (length xs) ≡ suc (length ys) = len in omega arith)

  mixed_all : (xs ys : List X) → length xs ≡ length ys → mixed (length xs) xs ys ≡ xs
  mixed_all [] [] len = refl
  mixed_all [] (y ∷ ys) len = absurd (let e : 0 ≡ suc (length ys) = len in omega arith)
  mixed_all (x ∷ xs) [] len = absurd (let e : suc (length xs) ≡ 0 = len in omega arith)
  mixed_all (x ∷ xs) (y ∷ ys) len = ap (λ l. x ∷ l) (mixed_all xs ys (let e : suc (length xs) ≡ suc (length ys) = len in omega arith))

  -- two lists that have the same at each place are one
  pub same_list : (xs ys : List X) → length xs ≡ length ys → ((i : ℕ) → i < length xs → slice_get xs i ≡ slice_get ys i) → xs ≡ ys
  same_list [] [] len at = refl
  same_list [] (y ∷ ys) len at = absurd (let e : 0 ≡ suc (length ys) = len in omega arith)
  same_list (x ∷ xs) [] len at = absurd (let e : suc (length xs) ≡ 0 = len in omega arith)
  same_list (x ∷ xs) (y ∷ ys) len at = λ i. same_Some x y (at 0 (omega arith)) i ∷ same_list xs ys (let e : suc (length xs) ≡ suc (length ys) = len in omega arith) (λ j h. at (suc j) (omega arith)) i

  -- a place of a list with one more
  pub snoc_get : (xs : List X) (x : X) (k : ℕ) → k < length xs → slice_get (xs ++ x ∷ []) k ≡ slice_get xs k
  snoc_get [] x k h = absurd (omega arith)
  snoc_get (y ∷ ys) x zero h = refl
  snoc_get (y ∷ ys) x (suc k) h = snoc_get ys x k (omega arith)

  -- the last place of a list with one more
  pub snoc_last : (xs : List X) (x : X) (k : ℕ) → k ≡ length xs → slice_get (xs ++ x ∷ []) k ≡ Some x
  snoc_last [] x zero e = refl
  snoc_last [] x (suc k) e = absurd (omega arith)
  snoc_last (y ∷ ys) x zero e = absurd (omega arith)
  snoc_last (y ∷ ys) x (suc k) e = snoc_last ys x k (omega arith)

  -- a list of defaults with one more default reads as the default
  pub snoc_default : (xs : List X) (d : X) (k : ℕ) → ((i : ℕ) → slice_index_or xs i d ≡ d) → slice_index_or (xs ++ d ∷ []) k d ≡ d
  snoc_default [] d zero all = refl
  snoc_default [] d (suc k) all = refl
  snoc_default (y ∷ ys) d zero all = all 0
  snoc_default (y ∷ ys) d (suc k) all = snoc_default ys d k (λ i. all (suc i))

module _ {H O G E R C : Type 0} (m : Means H O G E R C) (orders : ℕ → List C) (laws : IsLawful m) (lists : AreOrders m orders) where
  -- the first command of a worker may begin, and so on up to its first item
  module _ (cs : List (WorkerCourse O E R)) (play : LegalPlay m orders [] m.values cs) (w : ℕ) (o : O) (at : slice_get cs w ≡ Some (unbegun o)) where
    first_fetch : CanBegin m o (orders w) × IsFetchedWell m orders laws lists [] m.values cs w 0 0 o (there cs w (unbegun o) at) (next_command m o 0 (orders w))
    first_fetch = commands_well m orders laws lists [] m.values cs w 0 0 o (there cs w (unbegun o) at) (orders w) o 0 refl (omega arith) (subst (LegalPlay m orders [] m.values) (sym (set_same cs w (unbegun o) at)) play) refl refl

  -- at the start the commands of a worker may begin, up to its first item
  pub start_can : (w : ℕ) (o : O) → slice_get m.owns w ≡ Some o → CanBegin m o (orders w)
  start_can w o at = (first_fetch (map unbegun m.owns) opens w o (get_map unbegun m.owns w o at)).0

module _ {H O G E R C : Type 0} (m : Means H O G E R C) (orders : ℕ → List C) (laws : IsLawful m) (lists : AreOrders m orders) (s : State O G E R) (st : IsStart m orders s) (locks : length s.locks ≡ LOCKS) (words : length s.words ≡ THREADS) where
  many : length (courses s) ≡ length (map (unbegun {O = O} {E = E} {R = R}) m.owns)
  many = length_map course_of_seat s.seats ∙ (st.workers ∙ sym (length_map unbegun m.owns))

  abbrev first_item : ℕ → O → Fetched O E
  first_item w o = next_command m o 0 (orders w)

  -- a worker at the start is the one that its own part leads to
  each_start : (w : ℕ) (p : Seat O E R) → slice_get s.seats w ≡ Some p → (o : O) × (slice_get m.owns w ≡ Some o) × (p ≡ seated m (first_item w o) 0 0)
  each_start w p at = let h = there s.seats w p at in let o = something m.owns w (let a = st.workers in omega arith) in (o.0, o.1, same_Some p _ (sym at ∙ st.seats w o.0 o.1))

  -- the first n workers came to their first items
  play_mixed : (n : ℕ) → n ≤ length m.owns → LegalPlay m orders [] m.values (mixed n (courses s) (map unbegun m.owns))
  play_mixed zero h = opens
  play_mixed (suc n) h = let o = something m.owns n (omega arith) in
      let before = play_mixed n (omega arith) in
      let at = mixed_rest n (courses s) (map unbegun m.owns) many ∙ get_map unbegun m.owns n o.0 o.1 in
      let well = (first_fetch m orders laws lists (mixed n (courses s) (map unbegun m.owns)) before n o.0 at).1 in
      let f = first_item n o.0 in
      let here = get_map course_of_seat s.seats n _ (st.seats n o.0 o.1) in
      let same : course_of_seat (seated m f 0 0) ≡ record { own = f.own; begun = f.begun; items = 0; advanced = 0; standing = standing_with f.item } = λ i. record { own = f.own; begun = f.begun; items = 0; advanced = 0; standing = standing_given f.item (phase_with f.item) refl i } in
      subst (LegalPlay m orders [] m.values) (mixed_next n (courses s) (map unbegun m.owns) _ many (here ∙ ap Some same)) well.play

  start_play : LegalPlay m orders [] m.values (courses s)
  start_play = subst (LegalPlay m orders [] m.values) (mixed_all (courses s) (map unbegun m.owns) many) (play_mixed (length (courses s)) (let a = length_map course_of_seat s.seats in let b = st.workers in omega arith))

  fetched : (w : ℕ) (o : O) (at : slice_get m.owns w ≡ Some o)
      → IsFetchedWell m orders laws lists [] m.values (map unbegun m.owns) w 0 0 o (there (map unbegun m.owns) w (unbegun o) (get_map unbegun m.owns w o at)) (first_item w o)
  fetched w o at = (first_fetch m orders laws lists (map unbegun m.owns) opens w o (get_map unbegun m.owns w o at)).1

  hand_start : (w : ℕ) (p : Seat O E R) → slice_get s.seats w ≡ Some p → (o : O) × (slice_get m.owns w ≡ Some o) × (m.hand p.own ≡ m.hand o)
  hand_start w p at = let z = each_start w p at in (z.0, z.1, ap (λ (y : Seat O E R). m.hand y.own) z.2 ∙ (fetched w z.0 z.1).hand)

  hands_start : map (hand_of_seat m) s.seats ≡ map m.hand m.owns
  hands_start = same_list (map (hand_of_seat m) s.seats) (map m.hand m.owns) (length_map (hand_of_seat m) s.seats ∙ (st.workers ∙ sym (length_map m.hand m.owns)))
      (λ i h. let p = something s.seats i (let a = length_map (hand_of_seat m) s.seats in omega arith) in let z = hand_start i p.0 p.1 in
      get_map (hand_of_seat m) s.seats i p.0 p.1 ∙ (ap Some z.2 ∙ sym (get_map m.hand m.owns i z.0 z.1)))

  no_change : (w : ℕ) → pending s w ≡ None
  no_change w = by (slice_get s.seats w) refl where
    by : (o : Option (Seat O E R)) → slice_get s.seats w ≡ o → pending s w ≡ None
    by None e = ap pending_by e
    by (Some p) e = ap pending_by e ∙ ap (λ (y : Seat O E R). y.pending) (each_start w p e).2

  no_lock : (w l : ℕ) → holds s w l ≡ false
  no_lock w l = by (slice_get s.seats w) refl where
    by : (o : Option (Seat O E R)) → slice_get s.seats w ≡ o → holds s w l ≡ false
    by None e = ap (λ i. lock_held_by i l) e
    by (Some p) e = let z = each_start w p e in ap (λ i. lock_held_by i l) e ∙ took_nothing (first_item w z.0).item p.phase l (ap (λ (y : Seat O E R). y.phase) z.2)

  no_thread : (t w : ℕ) → m.declared t ≡ true → carried_by m (map (hand_of_seat m) s.seats) w t ≡ false
  no_thread t w dec = ap (λ hs. carried_by m hs w t) hands_start ∙ by (slice_get (map m.hand m.owns) w) refl where
    by : (o : Option H) → slice_get (map m.hand m.owns) w ≡ o → carried_by m (map m.hand m.owns) w t ≡ false
    by None e = ap (λ i. elim i as (λ _. Bool) [ None ↦ false | Some h ↦ m.carried_in h t ]) e
    by (Some h) e = let o = map_get m.hand m.owns w h e in ap (λ i. elim i as (λ _. Bool) [ None ↦ false | Some h ↦ m.carried_in h t ]) e ∙ (ap (λ i. m.carried_in i t) (sym o.2) ∙ laws.settled.empty t w o.0 dec o.1)

  stands_start : (l t : ℕ) → stands_under m s.values l t ≡ stands_under m m.values l t
  stands_start l t = ap (λ vs. stands_under m vs l t) st.values

  thread_start : (t : ℕ) → m.declared t ≡ true → ThreadAgrees (holds s) (pending s) (λ l. stands_under m s.values l t) (λ w. carried_by m (map (hand_of_seat m) s.seats) w t) t (word_of s t)
  thread_start t dec = record {
    place = under (m.word t);
    there = stands_start (m.word t) t ∙ laws.settled.stands t dec;
    only_under = λ l e. ap under (sym (laws.settled.once t l dec (sym (stands_start l t) ∙ e)));
    only_hand = λ w e. absurd (true≢false (sym e ∙ no_thread t w dec));
    word_agrees = inl (st.words t (laws.settled.few t dec), λ w c e _. none-some c (sym (no_change w) ∙ e));
    change_agrees = λ w c e _. absurd (none-some c (sym (no_change w) ∙ e));
  }

  none_advanced : (seats : List (Seat O E R)) → ((w : ℕ) (p : Seat O E R) → slice_get seats w ≡ Some p → p.advanced ≡ 0) → all_advanced (map course_of_seat seats) ≡ 0
  none_advanced [] each = refl
  none_advanced (p ∷ ps) each = let a = each 0 p refl in let b = none_advanced ps (λ w q e. each (suc w) q e) in omega arith

  no_time : (w : ℕ) → time_read s w ≡ None
  no_time w = by (slice_get s.seats w) refl where
    by : (o : Option (Seat O E R)) → slice_get s.seats w ≡ o → time_read s w ≡ None
    by None e = ap read_by e
    by (Some p) e = let z = each_start w p e in ap read_by e ∙ read_nothing (first_item w z.0).item p.phase (ap (λ (y : Seat O E R). y.phase) z.2)

  word_low : (t : ℕ) → m.declared t ≡ false → word_of s t ≡ Lock LIMBO
  word_low t none = dite (dec_lt t THREADS) (λ h. st.words t h ∙ ap Lock (laws.settled.limbo t none)) (λ far. index_past s.words t (Lock LIMBO) (let a = words in let b = far in omega arith))

  -- what the state at the start shows agrees
  start_agrees : Agrees m (shared_of m s [])
  start_agrees = record {
    values = ap length st.values ∙ laws.small.locks;
    locks = λ l. record { named = λ w h. absurd (true≢false (sym h ∙ no_lock w l)); held = λ w e. absurd (none-some w (sym (st.locks l) ∙ e)) };
    threads = thread_start;
    undeclared = word_low;
    changes = λ w c is. absurd (none-some c (sym (no_change w) ∙ is));
    times = λ w r is. absurd (none-some r (sym (no_time w) ∙ is));
    past = λ j x e. absurd (none-some x e);
    now = let a = none_advanced s.seats (λ w p e. ap (λ (y : Seat O E R). y.advanced) (each_start w p e).2) in let b = st.now in let c = advanced_all s.seats in omega arith;
    ticket = st.ticket;
    history = λ i. record { values = st.values i; hands = hands_start i };
  }

  worker_start : (w : ℕ) (p : Seat O E R) → slice_get s.seats w ≡ Some p → WorkerAgrees m orders s w p
  worker_start w p e = let z = each_start w p e in let given = ap (λ (y : Seat O E R). y.phase) z.2 in record {
    leaving = λ c is. absurd (none-some c (sym (no_change w) ∙ (ap pending_by e ∙ is)));
    way = λ a on is. subst (HasWhatItNeeds m s a) (sym (given_open (first_item w z.0).item p.phase a on given is)) tt;
    finished = λ fin. record {
      ended = subst (λ (y : Seat O E R). slice_get (orders w) y.begun ≡ None) (sym z.2) ((fetched w z.0 z.1).ended (given_none (first_item w z.0).item p.phase given fin));
      free = λ l is. none-some w (sym (st.locks l) ∙ is);
      calm = ap (λ (y : Seat O E R). y.pending) z.2;
      empty = λ t dec. let h = hand_start w p e in ap (λ i. m.carried_in i t) h.2 ∙ laws.settled.empty t w h.0 dec h.1;
    };
  }

  -- the state at the start is kept
  pub start_kept : IsKeptState m orders s
  start_kept = record {
    locks = locks;
    words = words;
    workers = st.workers;
    seats = λ w p e. let z = each_start w p e in record {
      number = ap (λ (y : Seat O E R). m.number y.own) z.2 ∙ ((fetched w z.0 z.1).number ∙ laws.small.numbered w z.0 z.1);
      begun = subst (λ (y : Seat O E R). y.begun ≤ length (orders w)) (sym z.2) (fetched w z.0 z.1).low;
      apart = λ reply now held is. absurd (given_not_leaving (first_item w z.0).item p.phase reply now held (ap (λ (y : Seat O E R). y.phase) z.2) is);
    };
    agreement = record { history = []; same_entries = sym st.history; shared = start_agrees; workers = worker_start };
    play = subst (λ h. LegalPlay m orders h s.values (courses s)) (sym st.history) (subst (λ vs. LegalPlay m orders [] vs (courses s)) (sym st.values) start_play);
  }

-- a push that was no error added what was pushed
pub pushed : {X T U : Type 0} (r : Result T U) (e : Bool) (items more less : List X) → e ≡ is_err r → e ≡ false → items ≡ (if is_ok r then more else less) → items ≡ more
pushed (Ok x) e items more less is none same = same
pushed (Err x) e items more less is none same = absurd (true≢false (sym is ∙ none))

-- one more of a list that says this at each place
pub one_more_said : {X : Type 0} (say : ℕ → Option X) (n : ℕ) (xs xs' : List X) (x : X) → (length xs ≡ n) × ((k : ℕ) → k < n → slice_get xs k ≡ say k) → say n ≡ Some x → xs' ≡ xs ++ x ∷ []
    → (length xs' ≡ n + 1) × ((k : ℕ) → k < n + 1 → slice_get xs' k ≡ say k)
one_more_said say n xs xs' x old new is = let c = old.0 in (
  (let a : length xs' ≡ length (xs ++ x ∷ []) = ap length is in let b = length-append xs (x ∷ []) in omega arith),
  λ k h. ap (λ l. slice_get l k) is ∙ dite (ℕ_discrete k n)
      (λ z. snoc_last xs x k (z ∙ sym c) ∙ (sym new ∙ ap say (sym z)))
      (λ far. snoc_get xs x k (omega arith) ∙ old.1 k (omega arith)),
)

module _ {H O G E R C : Type 0} (m : Means H O G E R C) (orders : ℕ → List C) where
  -- one more worker
  pub more_seats : (n : ℕ) (seats seats' : List (Seat O E R)) (p : Seat O E R) → AreFirstSeats m orders n seats → IsFirstSeat m orders n p → seats' ≡ seats ++ p ∷ []
      → AreFirstSeats m orders (n + 1) seats'
  more_seats n seats seats' p old new is = (
    (let a : length seats' ≡ length (seats ++ p ∷ []) = ap length is in let b = length-append seats (p ∷ []) in let c = old.0 in omega arith),
    λ w q at. dite (ℕ_discrete w n)
        (λ z. let same : p ≡ q = same_Some p q (sym (snoc_last seats p w (z ∙ sym old.0)) ∙ (ap (λ l. slice_get l w) (sym is) ∙ at)) in subst (λ (y : Seat O E R). IsFirstSeat m orders w y) same (subst (λ i. IsFirstSeat m orders i p) (sym z) new))
        (λ far. let h : w < length seats' = there seats' w q at in let a : length seats' ≡ length (seats ++ p ∷ []) = ap length is in let b = length-append seats (p ∷ []) in let c = old.0 in
        old.1 w q (sym (snoc_get seats p w (omega arith)) ∙ (ap (λ l. slice_get l w) (sym is) ∙ at))),
  )

  module _ (n : ℕ) (locks : List (Option ℕ)) (words : List Word) (values : List G) (seats : List (Seat O E R)) (history : List (Entry E R)) (laws : IsLawful m) (lists : AreOrders m orders) (many : n ≡ length m.owns)
      (free : AreFreeLocks LOCKS locks) (first_words : AreFirstWords m THREADS words) (first_values : AreFirstValues m LOCKS values) (first_seats : AreFirstSeats m orders n seats) (none : history ≡ []) where
    -- opening state: the state of these parts
    abbrev pub opening_state : State O G E R
    opening_state = record { locks = locks; words = words; ticket = 0; now = 20000; values = values; seats = seats; history = history }

    -- these parts are a start
    pub opening_start : IsStart m orders opening_state
    opening_start = record {
      locks = free.1;
      words = λ t h. index_get words t (Lock LIMBO) (Lock (m.word t)) (first_words.1 t h);
      ticket = refl;
      now = refl;
      values = same_list values m.values (first_values.0 ∙ sym laws.small.locks) (λ i h. first_values.1 i (let a = first_values.0 in omega arith));
      history = none;
      workers = first_seats.0 ∙ many;
      seats = λ w o at. let h = there m.owns w o at in let p = something seats w (let a = first_seats.0 in omega arith) in let z = first_seats.1 w p.0 p.1 in
          let same : z.0 ≡ o = same_Some z.0 o (sym z.1 ∙ at) in p.1 ∙ ap Some (z.2 ∙ ap (λ i. seated m (next_command m i 0 (orders w)) 0 0) same);
    }

    -- the state of these parts is kept
    pub opening_kept : IsKeptState m orders opening_state
    opening_kept = start_kept m orders laws lists opening_state opening_start free.0 first_words.0
