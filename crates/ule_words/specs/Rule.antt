-- What holds between any two steps: the table's words, the values at home and what the passes know show a state that agrees.
use Rattle.std.specs.Prelude.{◌≡◌, ℕ, ◌+◌, ◌≤◌, ◌<◌, true, false, List, [], length, map, Option, Some, None, slice_get, slice_index}
use lib.ListN.{get_elem?}
use mathlib.Core.Option.{some, none}
use mathlib.Core.Option as maybe
use Rattle.atomic_table.specs.Table.{State}
use Rattle.ule_micro.specs.declared.locks.TheConstants.{LOCKS, THREADS}
use Rattle.ule_micro.specs.declared.word.Word.{Word}
use Rattle.ule_micro.specs.declared.word.Word.TheVariants.{Lock, Blocked}
use Rattle.ule_micro.specs.Means.{Means, budgets}
use Rattle.ule_micro.specs.Shared.{Agrees, Shared, together}
use Rattle.ule_words.specs.Workers.{KnowsItsPart, first_workers}
use Rattle.ule_words.specs.declared.view.TheConstants.{NOW, TICKET, WORDS}
use Rattle.ule_words.specs.declared.view.View.{View}
use Rattle.ule_words.specs.declared.view.Worker.{Worker}

-- lock word: the number in a lock's word, which is 0 where the lock is free, and else its holder's number and 1
abbrev pub lock_word : Option ℕ → ℕ
lock_word None = 0
lock_word (Some w) = w + 1

-- thread word: the number in a thread's word, which is 0 where it is blocked, and else the number of the lock that it names and 1
abbrev pub thread_word : Word → ℕ
thread_word Blocked = 0
thread_word (Lock l) = l + 1

-- is kept: the value of a free lock is at home, and that of a lock that is held is out, with its holder
abbrev pub IsKept : {G : Type 0} → maybe.Option (maybe.Option (Option G)) → G → Option ℕ → Type 0
IsKept home v None = home ≡ some (some (Some v))
IsKept home v (Some w) = home ≡ some none

module _ {H G E R : Type 0} where
  -- shows words: the words are those of the state
  pub record ShowsWords (words : List ℕ) (s : Shared H G E R) : Type 0 where
    pub count : length words ≡ WORDS
    pub locks : (l : ℕ) → l < LOCKS → slice_index words l ≡ lock_word (s.locks l)
    pub threads : (t : ℕ) → t < THREADS → slice_index words (LOCKS + t) ≡ thread_word (s.words t)
    pub ticket : slice_index words TICKET ≡ s.ticket
    pub now : slice_index words NOW ≡ s.now

  -- shows values: each value is at home, or out with the lock's holder
  pub record ShowsValues (homes : List (maybe.Option (Option G))) (s : Shared H G E R) : Type 0 where
    pub count : length homes ≡ LOCKS
    pub home : (l : ℕ) (v : G) → slice_get s.values l ≡ Some v → IsKept (get_elem? homes l) v (s.locks l)

module _ {H O G E R C : Type 0} (m : Means H O G E R C) where
  -- keeps budget: now is the start and all advances, each by 1 to 1,000,000; the entries, the advances and the allowances that are left are together no more than the workers' budgets;
  -- what was advanced is kept of each worker
  pub record KeepsBudget (s : Shared H G E R) (allowances advances : List ℕ) : Type 0 where
    pub each : (j k : ℕ) → slice_get advances j ≡ Some k → (1 ≤ k) × (k ≤ 1000000)
    pub now : s.now ≡ 20000 + together advances
    pub items : together allowances + s.ticket + length advances ≤ budgets m.budget (length m.owns)
    pub amounts : length s.advanced ≡ length m.owns

  -- is worker: a worker that there is, with what it knows and the allowance that it has left
  pub record IsWorker (s : Shared H G E R) (allowances : List ℕ) (p : Worker H G E R) : Type 0 where
    pub number : p.number < length m.owns
    pub knows : KnowsItsPart s p
    pub left : slice_get allowances p.number ≡ Some p.allowance

  -- shows workers: what is known of each worker agrees with the state, and lies with one seat, at one spot of what it knows
  pub record ShowsWorkers (views : List (View H G E R)) (s : Shared H G E R) (allowances : List ℕ) : Type 0 where
    pub seat : ℕ → ℕ
    pub spot : ℕ → ℕ
    pub lies : (k j : ℕ) (v : View H G E R) (p : Worker H G E R) → get_elem? views k ≡ some v → slice_get v.workers j ≡ Some p
        → IsWorker s allowances p × (seat p.number ≡ k) × (spot p.number ≡ j)

  -- shows: a table shows a state that agrees, in which only workers hold locks, and only those that there are
  pub record Shows (t : State (Option G) (View H G E R)) : Type 0 where
    pub state : Shared H G E R
    pub agrees : Agrees m state
    pub holders : (w l : ℕ) → state.holds w l ≡ true → (w < length m.owns) × (l < LOCKS)
    pub words : ShowsWords t.words state
    pub values : ShowsValues t.homes state
    pub allowances : List ℕ
    pub workers : ShowsWorkers t.views state allowances
    pub advances : List ℕ
    pub budget : KeepsBudget state allowances advances

  -- first view: what the first seat knows, which is all workers at the start
  abbrev pub first_view : View H G E R
  first_view = record { workers = first_workers m 0 m.owns }

  -- first state: the state at the start
  abbrev pub first_state : Shared H G E R
  first_state = record {
    locks = λ l. None;
    words = λ t. Lock (m.word t);
    ticket = 0;
    now = 20000;
    values = m.values;
    hands = map m.hand m.owns;
    holds = λ w l. false;
    pending = λ w. None;
    read = λ w. None;
    advanced = map (λ own. 0) m.owns;
    history = [];
  }
