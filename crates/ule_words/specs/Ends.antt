-- The end of a play: when all passes are back, what they leave, and what is told of it.
use Rattle.std.specs.Prelude.{◌≡◌, ℕ, zero, suc, ◌+◌, ◌<◌, ◌≤◌, List, [], ◌∷◌, ◌++◌, length, map, reverse, Option, Some, None, slice_get, slice_index}
use Rattle.atomic_table.specs.Seated.{TableId}
use Rattle.atomic_table.specs.Table.{Me}
use Rattle.ule_micro.specs.declared.entry.Entry.{Entry}
use Rattle.ule_micro.specs.declared.locks.TheConstants.{LOCKS, THREADS}
use Rattle.ule_micro.specs.declared.word.Word.{Word}
use Rattle.ule_micro.specs.declared.word.Word.TheVariants.{Lock, Blocked}
use Rattle.ule_micro.specs.Means.{Means, budgets}
use Rattle.ule_micro.specs.Notes.{Notes}
use Rattle.ule_micro.specs.Shared.{Agrees, Shared, Stamped, together, unstamped}
use Rattle.ule_words.specs.Merge.{IsDealt, in_order}
use Rattle.ule_words.specs.Passes.{PassState}
use Rattle.ule_words.specs.Rule.{ShowsWords, thread_word}
use Rattle.ule_words.specs.Tells.{IsLow}
use Rattle.ule_words.specs.Theorem.{IsInOneList}
use Rattle.ule_words.specs.Workers.{KnowsItsPart, numbered_in}
use Rattle.ule_words.specs.declared.log.Numbered.{Numbered}
use Rattle.ule_words.specs.declared.view.View.{View}

-- lock named: the lock that a word names; none where it is blocked
abbrev pub lock_named : Word → Option ℕ
lock_named Blocked = None
lock_named (Lock l) = Some l

-- are threads' words: these are the words of the threads, of which each that names a lock names one that there is
pub record AreThreadsWords (found : List ℕ) (words : ℕ → Word) : Type 0 where
  pub each : (t : ℕ) → t < THREADS → slice_index found (LOCKS + t) ≡ thread_word (words t)
  pub low : (t : ℕ) → IsLow (words t)

module _ {X G E R : Type 0} (n : Notes X G E R) where
  -- entry noted: an entry was told
  abbrev pub entry_noted : X → Entry E R → X
  entry_noted x e = n.entry x e.worker e.now e.event e.reply

  -- entries noted: the entries of a history, the newest first, were told from the oldest on
  abbrev pub entries_noted : List (Entry E R) → X → X
  entries_noted [] x = x
  entries_noted (e ∷ h) x = entry_noted (entries_noted h x) e

  -- values noted: the values of the locks from l on were told
  abbrev pub values_noted : ℕ → List G → X → X
  values_noted l [] x = x
  values_noted l (v ∷ vs) x = values_noted (l + 1) vs (n.value x l v)

  -- words noted: the words of the threads below t were told
  unfoldable pub words_noted : ℕ → (ℕ → Word) → X → X
  words_noted zero words x = x
  words_noted (suc t) words x = n.word (words_noted t words x) t (lock_named (words t))

  -- end noted: the end of what the workers share was told, which is the entries in rising number, each lock's value, each thread's word, and now
  abbrev pub end_noted : {H : Type 0} → Shared H G E R → X → X
  end_noted s x = n.now (words_noted THREADS s.words (values_noted 0 s.values (entries_noted (unstamped s.history) x))) s.now

  -- numbered noted: numbered entries were told, the first one first
  abbrev pub numbered_noted : List (Numbered E R) → X → X
  numbered_noted [] x = x
  numbered_noted (e ∷ es) x = numbered_noted es (entry_noted x e.entry)

module _ {H O G E R C : Type 0} (m : Means H O G E R C) where
  -- are back: the passes of all workers on this table, in rising number, none of which holds a lock or has a change pending
  pub record AreBack (table : TableId) (passes : List (PassState O H G E R)) : Type 0 where
    pub count : length passes ≡ length m.owns
    pub each : (w : ℕ) (p : PassState O H G E R) → slice_get passes w ≡ Some p → (p.table ≡ table) × (p.worker.number ≡ w) × (p.worker.held ≡ []) × (p.worker.pending ≡ None)

  -- is left: the passes leave this state
  pub record IsLeft (passes : List (PassState O H G E R)) (s : Shared H G E R) : Type 0 where
    -- it agrees: its history is one that the ticket counts, in which each entry was asked for and follows from the values before it, in order of time
    pub agrees : Agrees m s
    -- every lock is free, and every change of a word is stored
    pub free : (l : ℕ) → s.locks l ≡ None
    pub calm : (w : ℕ) → s.pending w ≡ None
    -- each pass's own entries are those that the history has of its worker, at their numbers, and each entry is of one of the workers
    pub knows : (w : ℕ) (p : PassState O H G E R) → slice_get passes w ≡ Some p → KnowsItsPart s p.worker
    pub makers : (j : ℕ) (x : Stamped E R) → slice_get s.history j ≡ Some x → x.entry.worker < length passes
    -- each number from 1 to the ticket is that of one entry, in the list of one worker
    pub once : (n : ℕ) → 0 < n → n ≤ s.ticket → IsInOneList s.history n
    -- the entries and the allowances that are left are together no more than the budgets
    pub items : together (map (λ p. p.worker.allowance) passes) + s.ticket ≤ budgets m.budget (length m.owns)
    -- what was advanced is kept of each worker
    pub amounts : length s.advanced ≡ length m.owns

  -- told: the end that the passes leave was told
  pub record Told {X : Type 0} (n : Notes X G E R) (passes : List (PassState O H G E R)) (x y : X) : Type 0 where
    pub state : Shared H G E R
    pub left : IsLeft passes state
    pub out : y ≡ end_noted n state x

  -- lies: what lies in memory at the end is the state: its words, each lock's value in its slot, and its history in the tapes
  pub record Lies (s : Shared H G E R) (found : List ℕ) (homes : List (Option G)) (tapes : List (List (Numbered E R))) : Type 0 where
    pub words : ShowsWords found s
    pub low : (t : ℕ) → IsLow (s.words t)
    pub slots : homes ≡ map (λ v. Some v) s.values
    pub count : length s.values ≡ LOCKS
    pub dealt : IsDealt (length m.owns) 0 (in_order s.history) tapes
    pub ticket : s.ticket ≡ length s.history
    pub few : s.ticket ≤ budgets m.budget (length m.owns)

module _ {O H G E R : Type 0} where
  -- list of: a pass's own entries, the oldest first
  abbrev pub list_of : PassState O H G E R → List (Numbered E R)
  list_of p = reverse (map numbered_in p.worker.mine)

  -- lists back: the passes' own lists, the last pass's first
  abbrev pub lists_back : List (PassState O H G E R) → List (List (Numbered E R))
  lists_back [] = []
  lists_back (p ∷ passes) = lists_back passes ++ list_of p ∷ []

  -- are gathered: of all passes but these one seat knows the workers, and the tapes have their lists
  abbrev pub AreGathered : List (PassState O H G E R) → List (PassState O H G E R) → Me (Option G) (View H G E R) → List (List (Numbered E R)) → Type 0
  AreGathered all rest me tapes = (gathered : List (PassState O H G E R)) × (all ≡ rest ++ gathered) × (me ≡ (record { workers = map (λ p. p.worker) gathered }, [])) × (tapes ≡ lists_back gathered)
