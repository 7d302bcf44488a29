-- What the workers of a scheduler share, as the step model and running threads see it, and that it agrees.
use Rattle.std.specs.Prelude.{◌≡◌, ℕ, ◌+◌, ◌≤◌, ◌==◌, Bool, true, false, List, [], ◌∷◌, length, map, Option, Some, None, slice_get, slice_set, if◌then◌else◌}
use Rattle.ule_micro.specs.declared.entry.Entry.{Entry}
use Rattle.ule_micro.specs.declared.entry.HeldLocks.{HeldLocks}
use Rattle.ule_micro.specs.declared.locks.TheConstants.{LIMBO, LOCKS}
use Rattle.ule_micro.specs.declared.word.Word.{Word}
use Rattle.ule_micro.specs.declared.word.Word.TheVariants.{Lock}
use Rattle.ule_micro.specs.declared.word.WordChange.{WordChange}
use Rattle.ule_micro.specs.Standings.{Acted}
use Rattle.ule_micro.specs.Means.{Means, carried_by, stands_under, thread_of_change}
use Rattle.ule_micro.specs.Histories.{AreLocksFor, IsNoEarlierThanShared, Leads, ValuesAndHands, entry_made, is_lock_among, latest_of, own_entries}
use Rattle.ule_micro.specs.Laws.{values_and_hands_at_start}
use Rattle.ule_micro.specs.Agreement.{NamesOneHolder, ThreadAgrees}

-- stamped: an entry, and the hz ticks that its worker had advanced before it
pub record Stamped (E R : Type 0) : Type 0 where
  pub entry : Entry E R
  pub amount : ℕ

-- time read: a time that a worker read under these locks
pub record TimeRead : Type 0 where
  pub locks : HeldLocks
  pub now : ℕ

-- updated: a function with another value at one number
abbrev pub updated : {X : Type 0} → (ℕ → X) → ℕ → X → ℕ → X
updated f w x v = (if v == w then x else f v)

-- with hold: who holds what, where this worker now holds the lock or does not
abbrev pub with_hold : (ℕ → ℕ → Bool) → ℕ → ℕ → Bool → ℕ → ℕ → Bool
with_hold holds w l b = updated holds w (updated (holds w) l b)

-- together: the sum of these amounts
abbrev pub together : List ℕ → ℕ
together [] = 0
together (a ∷ amounts) = a + together amounts

-- shared: the lock words, the threads' words, the ticket, now, the values under the locks and the workers' hands; of each worker the locks that it holds, its pending change, a time that it read under them, and what it advanced; and the history, the newest entry first
pub record Shared (H G E R : Type 0) : Type 0 where
  pub locks : ℕ → Option ℕ
  pub words : ℕ → Word
  pub ticket : ℕ
  pub now : ℕ
  pub values : List G
  pub hands : List H
  pub holds : ℕ → ℕ → Bool
  pub pending : ℕ → Option WordChange
  pub read : ℕ → Option TimeRead
  pub advanced : List ℕ
  pub history : List (Stamped E R)

-- unstamped: the entries of a stamped history
abbrev pub unstamped : {E R : Type 0} → List (Stamped E R) → List (Entry E R)
unstamped history = map (λ x. x.entry) history

module _ {H G E R : Type 0} (s : Shared H G E R) where
  -- as it stands: the values and the hands
  abbrev pub as_it_stands : ValuesAndHands H G
  as_it_stands = record { values = s.values; hands = s.hands }

  -- is timely: a time that a worker read under locks that it holds is no later than now, and no earlier than the start and what it advanced, nor than an entry of its own or under one of these locks
  pub record IsTimely (w : ℕ) (r : TimeRead) : Type 0 where
    pub holds : (l : ℕ) → is_lock_among r.locks l ≡ true → s.holds w l ≡ true
    pub past : r.now ≤ s.now
    pub own : (a : ℕ) → slice_get s.advanced w ≡ Some a → 20000 + a ≤ r.now
    pub no_earlier : IsNoEarlierThanShared (unstamped s.history) w r.locks r.now

  -- holds its locks: a worker holds every lock of its last entry
  abbrev pub HoldsItsLocks : ℕ → Type 0
  HoldsItsLocks w = (x : Entry E R) × (latest_of w (unstamped s.history) ≡ Some x) × ((l : ℕ) → is_lock_among x.locks l ≡ true → s.holds w l ≡ true)

module _ {H O G E R C : Type 0} (m : Means H O G E R C) where
  -- agrees: what the workers share agrees
  pub record Agrees (s : Shared H G E R) : Type 0 where
    -- there is a value for each lock
    pub values : length s.values ≡ LOCKS
    -- each lock word is free or names the one worker that holds the lock
    pub locks : (l : ℕ) → NamesOneHolder (s.locks l) (λ w. s.holds w l)
    -- each thread has one place, under a lock or in a hand, and its word and the pending changes of its word agree with it
    pub threads : (t : ℕ) → m.declared t ≡ true → ThreadAgrees s.holds s.pending (λ l. stands_under m s.values l t) (λ w. carried_by m s.hands w t) t (s.words t)
    -- the word of a number that no thread has names limbo
    pub undeclared : (t : ℕ) → m.declared t ≡ false → s.words t ≡ Lock LIMBO
    -- a pending change is of a thread that there is, and its worker holds every lock of its event until the change is stored
    pub changes : (w : ℕ) (c : WordChange) → s.pending w ≡ Some c → (m.declared (thread_of_change c) ≡ true) × HoldsItsLocks s w
    -- a time that a worker read under its locks is no earlier than what happened under them and to itself
    pub times : (w : ℕ) (r : TimeRead) → s.read w ≡ Some r → IsTimely s w r
    -- no entry is earlier than the start and what its worker had advanced before it, or later than now, which is the start and all that was advanced
    pub past : (j : ℕ) (x : Stamped E R) → slice_get s.history j ≡ Some x → (20000 + x.amount ≤ x.entry.now) × (x.entry.now ≤ s.now)
    pub now : s.now ≡ 20000 + together s.advanced
    -- the ticket is the length of the history, each entry was asked for and follows from the values before it and the hand of its worker, and what the history leaves is what stands
    pub ticket : s.ticket ≡ length s.history
    pub history : Leads m (values_and_hands_at_start m) (unstamped s.history) (as_it_stands s)

  -- can commit: a worker without a pending change read a time under the locks of an event that it asks for
  pub record CanCommit (s : Shared H G E R) (w : ℕ) (e : E) (hand : H) (held : HeldLocks) (now amount : ℕ) : Type 0 where
    pub calm : s.pending w ≡ None
    pub read : s.read w ≡ Some (record { locks = held; now = now })
    pub hand_is : slice_get s.hands w ≡ Some hand
    pub advanced : slice_get s.advanced w ≡ Some amount
    pub asks : m.asks w (own_entries w (unstamped s.history)) hand e
    pub needs : AreLocksFor m s.values held (m.needs e)

  -- committed: the worker's event took effect, and its entry is the newest
  abbrev pub committed : Shared H G E R → ℕ → E → HeldLocks → ℕ → ℕ → Acted H G R → Shared H G E R
  committed s w e held now amount after = record {
    locks = s.locks;
    words = s.words;
    ticket = s.ticket + 1;
    now = s.now;
    values = after.values;
    hands = slice_set s.hands w after.hand;
    holds = s.holds;
    pending = updated s.pending w (m.change e after.reply);
    read = updated s.read w None;
    advanced = s.advanced;
    history = record { entry = entry_made w e held now after.reply; amount = amount } ∷ s.history;
  }

module _ {H G E R : Type 0} (s : Shared H G E R) (w : ℕ) where
  -- shared with: with these lock words, threads' words, time, holders, pending changes, times read and amounts advanced
  abbrev pub shared_with : (ℕ → Option ℕ) → (ℕ → Word) → ℕ → (ℕ → ℕ → Bool) → (ℕ → Option WordChange) → (ℕ → Option TimeRead) → List ℕ → Shared H G E R
  shared_with locks words now holds pending read advanced = record {
    locks = locks;
    words = words;
    ticket = s.ticket;
    now = now;
    values = s.values;
    hands = s.hands;
    holds = holds;
    pending = pending;
    read = read;
    advanced = advanced;
    history = s.history;
  }

  -- lock taken: the worker took the lock, and forgets the time that it read
  abbrev pub lock_taken : ℕ → Shared H G E R
  lock_taken l = shared_with (updated s.locks l (Some w)) s.words s.now (with_hold s.holds w l true) s.pending (updated s.read w None) s.advanced

  -- lock released: the worker gave the lock back, and forgets the time that it read
  abbrev pub lock_released : ℕ → Shared H G E R
  lock_released l = shared_with (updated s.locks l None) s.words s.now (with_hold s.holds w l false) s.pending (updated s.read w None) s.advanced

  -- word stored: the worker stored its pending change of the thread's word, which is now this
  abbrev pub word_stored : ℕ → Word → Shared H G E R
  word_stored t word = shared_with s.locks (updated s.words t word) s.now s.holds (updated s.pending w None) s.read s.advanced

  -- now read: the worker read now under these locks
  abbrev pub now_read : HeldLocks → Shared H G E R
  now_read held = shared_with s.locks s.words s.now s.holds s.pending (updated s.read w (Some (record { locks = held; now = s.now }))) s.advanced

  -- now advanced: the worker, which had advanced this amount, advanced now by k hz ticks, and forgets the time that it read
  abbrev pub now_advanced : ℕ → ℕ → Shared H G E R
  now_advanced amount k = shared_with s.locks s.words (s.now + k) s.holds s.pending (updated s.read w None) (slice_set s.advanced w (amount + k))
