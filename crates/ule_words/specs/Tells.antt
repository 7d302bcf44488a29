-- What each step on the table tells the worker that makes it.
use Rattle.std.specs.Prelude.{◌≡◌, ◌≢◌, ℕ, ◌+◌, ◌<◌, ◌≤◌, List, [], ◌∷◌, ◌++◌, length, take, drop, Option, Some, None}
use Rattle.std.specs.List.{AllByRecursion}
use Rattle.atomic_table.specs.Table.{Me, rest}
use Rattle.ule_micro.specs.declared.entry.HeldLocks.{HeldLocks}
use Rattle.ule_micro.specs.declared.locks.TheConstants.{LOCKS}
use Rattle.ule_micro.specs.declared.todo.Todo.TheVariants.{Event}
use Rattle.ule_micro.specs.declared.word.Word.{Word}
use Rattle.ule_micro.specs.declared.word.Word.TheVariants.{Lock, Blocked}
use Rattle.ule_micro.specs.Laws.{AreItsLocks}
use Rattle.ule_micro.specs.Means.{Means}
use Rattle.ule_micro.specs.Shared.{Agrees, Shared}
use Rattle.ule_micro.specs.Standings.{asks, has}
use Rattle.ule_words.specs.Held.{held_values, locks_of, value_held}
use Rattle.ule_words.specs.Passes.{PassState}
use Rattle.ule_words.specs.Programs.{StandsAt}
use Rattle.ule_words.specs.Workers.{KnowsItsPart, act_of, advancing, calm, committing, entries_in, one, releasing, taking, timed}
use Rattle.ule_words.specs.Rule.{thread_word}
use Rattle.ule_words.specs.declared.view.View.{View}
use Rattle.ule_words.specs.declared.view.Worker.{Worker}

-- is low: a word that names a lock names one that there is
abbrev pub IsLow : Word → Type 0
IsLow Blocked = Unit {0}
IsLow (Lock l) = l < LOCKS

module _ {H O G E R C : Type 0} (m : Means H O G E R C) where
  -- is word of: in a state that agrees, and in which the worker knows its part, the thread's word is this
  pub record IsWordOf (p : Worker H G E R) (t : ℕ) (word : Word) : Type 0 where
    pub state : Shared H G E R
    pub agrees : Agrees m state
    pub knows : KnowsItsPart state p
    pub is : state.words t ≡ word

  -- is holder of: in a state that agrees, and in which the worker knows its part, the lock's word names this worker, which there is
  pub record IsHolderOf (p : Worker H G E R) (l w : ℕ) : Type 0 where
    pub state : Shared H G E R
    pub agrees : Agrees m state
    pub knows : KnowsItsPart state p
    pub is : state.locks l ≡ Some w
    pub there_is : w < length m.owns

  -- reads: a read of a word of the table, which is a thread's, found this number
  abbrev pub Reads : ℕ → Me (Option G) (View H G E R) → ℕ → Me (Option G) (View H G E R) → Type 0
  Reads i me found me' = (me' ≡ me) × ((p : Worker H G E R) (t : ℕ) → me.0 ≡ one p → i ≡ LOCKS + t → (word : Word) × (found ≡ thread_word word) × IsLow word × IsWordOf p t word)

  -- takes: a try to take a lock found this number, and took the lock where it was 0
  abbrev pub Takes : ℕ → Me (Option G) (View H G E R) → ℕ → Me (Option G) (View H G E R) → Type 0
  Takes l me found me' = (p : Worker H G E R) → me.0 ≡ one p
      → (found ≡ 0 → (v : G) × (me' ≡ (one (taking p l v), (l, Some v) ∷ me.1)) × (value_held p.held l ≡ None))
      × (found ≢ 0 → (me' ≡ me) × ((w : ℕ) × (found ≡ w + 1) × IsHolderOf p l w))

module _ {H O G E R C : Type 0} (m : Means H O G E R C) where
  -- can commit: a worker without a pending change, with an allowance, that read this time under the locks that it holds, which are those of an event that it asks for
  pub record CanCommit (p : Worker H G E R) (e : E) (locks : HeldLocks) (now : ℕ) : Type 0 where
    pub calm : p.pending ≡ None
    pub left : 0 < p.allowance
    pub read : p.read ≡ Some (locks, now)
    pub holds : locks_of p.held ≡ Some locks
    pub needs : AreItsLocks m locks (held_values p.held) (m.needs e)
    pub asks : m.asks p.number (entries_in p.mine) p.hand e

  -- commits: the ticket was raised from this number for an event, which may be performed at a time that none of the worker's entries is later than
  abbrev pub Commits : E → Me (Option G) (View H G E R) → ℕ → Me (Option G) (View H G E R) → Type 0
  Commits e me found me' = (p : Worker H G E R) (locks : HeldLocks) (now : ℕ) → me.0 ≡ one p → CanCommit p e locks now
      → (me' ≡ (one (committing m p e locks now (found + 1)), me.1)) × (found < 65536) × (p.seen ≤ found) × m.may p.number e now p.hand (held_values p.held) × AllByRecursion (λ y. y.now ≤ now) (entries_in p.mine)

  -- is ready: the one worker that a seat knows can commit the event, and holds at most two locks
  pub record IsReady (me : Me (Option G) (View H G E R)) (e : E) : Type 0 where
    pub worker : Worker H G E R
    pub knows : me.0 ≡ one worker
    pub locks : HeldLocks
    pub now : ℕ
    pub can : CanCommit worker e locks now
    pub few : length worker.held ≤ 2

  -- has committed: the event took effect under the locks that the pass holds, at the time that it read; its entry has a number above all that the pass had seen, and its reply is that of the event
  pub record HasCommitted (p : PassState O H G E R) (e : E) (reply : R) (q : PassState O H G E R) : Type 0 where
    pub locks : HeldLocks
    pub now : ℕ
    pub read : p.worker.read ≡ Some (locks, now)
    pub may : m.may p.worker.number e now p.worker.hand (held_values p.worker.held)
    pub ticket : ℕ
    pub above : p.worker.seen < ticket
    pub worker : q.worker ≡ committing m p.worker e locks now ticket
    pub own : q.own ≡ m.with_hand p.own (act_of m p.worker e now).hand
    pub is_reply : reply ≡ (act_of m p.worker e now).reply
    pub table : q.table ≡ p.table
    -- where the event was the worker's item, it now asks for its next one, with one less to come
    pub stands : (given : List C) → StandsAt m given p (has (Event e)) → StandsAt m given q (asks (Some (reply, now))) × (m.left q.own (asks (Some (reply, now))) + 1 ≤ m.left p.own (has (Event e)))

module _ {H G E R : Type 0} where
  -- releases: the lock was given back, with its value
  abbrev pub Releases : ℕ → Me (Option G) (View H G E R) → Me (Option G) (View H G E R) → Type 0
  Releases l me me' = (p : Worker H G E R) → me.0 ≡ one p → me' ≡ (one (releasing p l), rest me.1)

  -- calms: the pending change was stored
  abbrev pub Calms : Me (Option G) (View H G E R) → Me (Option G) (View H G E R) → Type 0
  Calms me me' = (p : Worker H G E R) → me.0 ≡ one p → me' ≡ (one (calm p), me.1)

  -- times: now was read
  abbrev pub Times : Me (Option G) (View H G E R) → ℕ → Me (Option G) (View H G E R) → Type 0
  Times me found me' = (p : Worker H G E R) → me.0 ≡ one p → me' ≡ (one (timed p found), me.1)

  -- advances: now was advanced by k hz ticks
  abbrev pub Advances : ℕ → Me (Option G) (View H G E R) → Me (Option G) (View H G E R) → Type 0
  Advances k me me' = (p : Worker H G E R) → me.0 ≡ one p → me' ≡ (one (advancing p k), me.1)

  -- first of: what is known of the first worker
  abbrev pub first_of : View H G E R → View H G E R
  first_of v = record { workers = take 1 v.workers }

  -- rest of: what is known of the other workers
  abbrev pub rest_of : View H G E R → View H G E R
  rest_of v = record { workers = drop 1 v.workers }

  -- both of: what is known of the workers of two seats, the second one's first
  abbrev pub both_of : View H G E R → View H G E R → View H G E R
  both_of v w = record { workers = w.workers ++ v.workers }

  -- none known: nothing is known of any worker
  abbrev pub none_known : View H G E R
  none_known = record { workers = [] }
