-- The laws that the parts of a scheduler keep.
use Rattle.std.specs.Prelude.{◌≡◌, ◌≢◌, ℕ, ◌+◌, ◌^◌, ◌<◌, ◌≤◌, ◌⊎◌, ◌==◌, ◌||◌, Bool, true, false, List, [], ◌∷◌, length, map, Option, Some, None, slice_get}
use Rattle.std.specs.List.{AllByRecursion}
use Rattle.ule_micro.specs.declared.entry.Entry.{Entry}
use Rattle.ule_micro.specs.declared.entry.HeldLocks.{HeldLocks}
use Rattle.ule_micro.specs.declared.entry.HeldLocks.TheVariants.{One, Two}
use Rattle.ule_micro.specs.declared.locks.TheConstants.{LIMBO, LOCKS, THREADS}
use Rattle.ule_micro.specs.declared.todo.Todo.TheVariants.{Event, Advance}
use Rattle.ule_micro.specs.declared.word.WordChange.{WordChange}
use Rattle.ule_micro.specs.declared.word.WordChange.TheVariants.{Block, Point}
use Rattle.ule_micro.specs.Standings.{asks, has, rests, standing_with, Journal, blank, with_given, with_made}
use Rattle.ule_micro.specs.Means.{Means, Needs, one, both, lock_of, thread_of_change, budgets, stands_under}
use Rattle.ule_micro.specs.Histories.{ValuesAndHands, is_lock_among, AreLocksFor, values_under, IsNoEarlierThanShared, Leads, own_entries}

-- has true: whether one of these is true
abbrev pub has_true : List Bool → Bool
has_true [] = false
has_true (b ∷ []) = b
has_true (b ∷ c ∷ bs) = b || has_true (c ∷ bs)

-- at lock: of these locks, which is the one
abbrev pub at_lock : HeldLocks → ℕ → List Bool
at_lock (One a) k = (a == k) ∷ []
at_lock (Two a b) k = (a == k) ∷ (b == k) ∷ []

-- lock count: how many locks these are
abbrev pub lock_count : HeldLocks → ℕ
lock_count (One a) = 1
lock_count (Two a b) = 2

-- are in rising order: of two locks the first has the lower number
abbrev pub AreInRisingOrder : HeldLocks → Type 0
AreInRisingOrder (One a) = Unit {0}
AreInRisingOrder (Two a b) = a < b

-- are rising: the locks that a need names are among those that there are, and of two the first is lower
abbrev pub AreRising : Needs → Type 0
AreRising (one a) = a < LOCKS
AreRising (both a b) = (a < b) × (b < LOCKS)
AreRising (lock_of t) = Unit {0}

-- leaves: a change of a word, if any, is of another thread
abbrev pub Leaves : Option WordChange → ℕ → Type 0
Leaves change t = (c : WordChange) → change ≡ Some c → thread_of_change c ≢ t

-- total charge: the greatest number of items of these commands
abbrev pub total_charge : {C : Type 0} → (C → ℕ) → List C → ℕ
total_charge charge [] = 0
total_charge charge (c ∷ cs) = charge c + total_charge charge cs

module _ {H O G E R C : Type 0} (m : Means H O G E R C) where
  -- is empty: a hand has none of the threads
  abbrev pub IsEmpty : H → Type 0
  IsEmpty h = (t : ℕ) → m.declared t ≡ true → m.carried_in h t ≡ false

  -- places: under which of these values a thread stands
  abbrev pub places : List G → ℕ → List Bool
  places guarded t = map (λ v. m.stands_in v t) guarded

  -- are its locks: these are the locks that the need names, of which a sought thread stands under the value of the one
  abbrev pub AreItsLocks : HeldLocks → List G → Needs → Type 0
  AreItsLocks held guarded (one a) = held ≡ One a
  AreItsLocks held guarded (both a b) = held ≡ Two a b
  AreItsLocks held guarded (lock_of t) = (l : ℕ) × (held ≡ One l) × (has_true (places guarded t) ≡ true)

  -- the workers and their budgets are few
  pub record StartsSmall : Type 0 where
    pub locks : length m.values ≡ LOCKS
    pub workers : length m.owns ≤ 255
    pub small : budgets m.budget (length m.owns) ≤ 65536
    pub numbered : (w : ℕ) (o : O) → slice_get m.owns w ≡ Some o → m.number o ≡ w

  -- at the start each thread stands under the lock that its word names, under no other, and in no hand; the word of a number that no thread has names limbo
  pub record StartsSettled : Type 0 where
    pub few : (t : ℕ) → m.declared t ≡ true → t < THREADS
    pub low : (t : ℕ) → m.word t < LOCKS
    pub limbo : (t : ℕ) → m.declared t ≡ false → m.word t ≡ LIMBO
    pub stands : (t : ℕ) → m.declared t ≡ true → stands_under m m.values (m.word t) t ≡ true
    pub once : (t l : ℕ) → m.declared t ≡ true → stands_under m m.values l t ≡ true → l ≡ m.word t
    pub empty : (t w : ℕ) (o : O) → m.declared t ≡ true → slice_get m.owns w ≡ Some o → m.carried_in (m.hand o) t ≡ false

  -- moves: an event moves at most the thread of its word change, which there is, from one of its locks into the hand, or from the hand or one of its locks to one of its locks
  pub record Moves (held : HeldLocks) (hand : H) (guarded : List G) (change : Option WordChange) (hand' : H) (guarded' : List G) : Type 0 where
    pub count : length guarded' ≡ length guarded
    pub of_declared : (c : WordChange) → change ≡ Some c → m.declared (thread_of_change c) ≡ true
    pub others : (t : ℕ) → m.declared t ≡ true → Leaves change t → (places guarded' t ≡ places guarded t) × (m.carried_in hand' t ≡ m.carried_in hand t)
    pub blocks : (t : ℕ) → change ≡ Some (Block t) → (has_true (places guarded t) ≡ true) × (has_true (places guarded' t) ≡ false) × (m.carried_in hand' t ≡ true)
    pub points : (t k : ℕ) → change ≡ Some (Point t k) → ((m.carried_in hand t ≡ true) ⊎ (has_true (places guarded t) ≡ true))
        × (is_lock_among held k ≡ true) × (places guarded' t ≡ at_lock held k) × (m.carried_in hand' t ≡ false)

  -- moves little: each event that may be performed moves at most the thread of its word change
  abbrev pub MovesLittle : Type 0
  MovesLittle = (w : ℕ) (e : E) (now : ℕ) (hand : H) (held : HeldLocks) (guarded : List G) → m.may w e now hand guarded → AreInRisingOrder held
      → length guarded ≡ lock_count held → AreItsLocks held guarded (m.needs e)
      → Moves held hand guarded (m.change e (m.act w e now hand guarded).reply) (m.act w e now hand guarded).hand (m.act w e now hand guarded).values

  -- keeps hands: a hand that is put is the hand, and leaves all else; commands and items leave the hand, and the worker stays
  pub record KeepsHands : Type 0 where
    pub put : (o : O) (h : H) → m.hand (m.with_hand o h) ≡ h
    pub put_own : (o : O) → m.with_hand o (m.hand o) ≡ o
    pub put_twice : (o : O) (h k : H) → m.with_hand (m.with_hand o h) k ≡ m.with_hand o k
    pub put_number : (o : O) (h : H) → m.number (m.with_hand o h) ≡ m.number o
    pub begin : (o : O) (c : C) → m.hand (m.begin o c) ≡ m.hand o
    pub begin_number : (o : O) (c : C) → m.number (m.begin o c) ≡ m.number o
    pub next : (o : O) (told : Option (R × ℕ)) → m.hand (m.next o told).1 ≡ m.hand o
    pub next_number : (o : O) (told : Option (R × ℕ)) → m.number (m.next o told).1 ≡ m.number o

  -- asks soundly: an event that is asked for has rising locks, or seeks a thread that there is, with an empty hand
  pub record AsksSoundly : Type 0 where
    pub rising : (w : ℕ) (mine : List (Entry E R)) (h : H) (e : E) → m.asks w mine h e → AreRising (m.needs e)
    pub seeks : (w : ℕ) (mine : List (Entry E R)) (h : H) (e : E) (t : ℕ) → m.asks w mine h e → m.needs e ≡ lock_of t → (m.declared t ≡ true) × IsEmpty h

  -- keeps standing: what an own part keeps where its worker stands, whatever valid commands are begun
  pub record KeepsStanding : Type 0 where
    -- it holds at the start, where no item is left
    pub opens : (w : ℕ) (o : O) → slice_get m.owns w ≡ Some o → m.stands blank o rests × (m.left o rests ≡ 0)
    -- a valid command may begin, and brings at most as many items as are charged for it
    pub begins : (j : Journal E R C) (o : O) (c : C) → m.stands j o rests → m.valid (m.number o) j.given c
        → m.begins o c × m.stands (with_given c j) (m.begin o c) (asks None) × (m.left (m.begin o c) (asks None) ≤ m.charge (m.number o) c)
    -- the next item may be asked for, and brings no items more
    pub goes_on : (j : Journal E R C) (o : O) (told : Option (R × ℕ)) → m.stands j o (asks told)
        → m.goes_on o told × m.stands j (m.next o told).1 (standing_with (m.next o told).0) × (m.left (m.next o told).1 (standing_with (m.next o told).0) ≤ m.left o (asks told))
    -- an advance is by 1 to 1,000,000, and is one item
    pub advances : (j : Journal E R C) (o : O) (k : ℕ) → m.stands j o (has (Advance k))
        → (1 ≤ k) × (k ≤ 1000000) × m.stands j o (asks None) × (m.left o (asks None) + 1 ≤ m.left o (has (Advance k)))
    -- an event is asked for
    pub asks_for : (j : Journal E R C) (o : O) (e : E) → m.stands j o (has (Event e)) → m.asks (m.number o) j.mine (m.hand o) e
    -- an event that is performed where it may be, no earlier than the worker's entries before it, is one item
    pub performs : (j : Journal E R C) (o : O) (x : Entry E R) (guarded : List G) → m.stands j o (has (Event x.event)) → x.worker ≡ m.number o
        → m.may x.worker x.event x.now (m.hand o) guarded → AreItsLocks x.locks guarded (m.needs x.event)
        → length guarded ≡ lock_count x.locks → x.reply ≡ (m.act x.worker x.event x.now (m.hand o) guarded).reply → AllByRecursion (λ y. y.now ≤ x.now) j.mine
        → m.stands (with_made x j) (m.with_hand o (m.act x.worker x.event x.now (m.hand o) guarded).hand) (asks (Some (x.reply, x.now)))
        × (m.left (m.with_hand o (m.act x.worker x.event x.now (m.hand o) guarded).hand) (asks (Some (x.reply, x.now))) + 1 ≤ m.left o (has (Event x.event)))
    -- between two commands the hand is empty
    pub ends : (j : Journal E R C) (o : O) → m.stands j o rests → IsEmpty (m.hand o)

  -- values and hands at start: the value under each lock and the hand of each worker at the start
  abbrev pub values_and_hands_at_start : ValuesAndHands H G
  values_and_hands_at_start = record { values = m.values; hands = map m.hand m.owns }

  -- readies events: after every history in order whose entries were asked for, an event that is asked for may be performed under its locks, at a time that the rules of time allow
  abbrev pub ReadiesEvents : Type 0
  ReadiesEvents = (h : List (Entry E R)) (y : ValuesAndHands H G) (w : ℕ) (e : E) (now : ℕ) (hand : H) (held : HeldLocks) (guarded : List G)
      → Leads m values_and_hands_at_start h y → slice_get y.hands w ≡ Some hand → m.asks w (own_entries w h) hand e
      → AreLocksFor m y.values held (m.needs e) → values_under held y.values ≡ Some guarded → IsNoEarlierThanShared h w held now → now < 2 ^ 36
      → m.may w e now hand guarded

  -- is lawful: the laws of what the parts of a scheduler mean
  pub record IsLawful : Type 0 where
    pub small : StartsSmall
    pub settled : StartsSettled
    pub moves : MovesLittle
    pub hands : KeepsHands
    pub sound : AsksSoundly
    pub standing : KeepsStanding
    pub ready : ReadiesEvents

  -- are valid: each of these commands is valid for a worker behind those before it
  abbrev pub AreValid : ℕ → List C → List C → Type 0
  AreValid w given [] = Unit {0}
  AreValid w given (c ∷ cs) = m.valid w given c × AreValid w (c ∷ given) cs

  -- are orders: lists of commands, each within its worker's budget, and valid one behind the other
  pub record AreOrders (orders : ℕ → List C) : Type 0 where
    pub few : (w : ℕ) → length (orders w) + 1 < 2 ^ 32
    pub charged : (w : ℕ) → total_charge (m.charge w) (orders w) ≤ m.budget w
    pub valid : (w : ℕ) → w < length m.owns → AreValid w [] (orders w)
