-- What the parts of a scheduler mean: the values under its locks, its workers' own parts, its events and its programs.
use Rattle.std.specs.Prelude.{ℕ, zero, suc, ◌+◌, Bool, false, List, Option, Some, None, slice_get}
use Rattle.ule_micro.specs.declared.entry.Entry.{Entry}
use Rattle.ule_micro.specs.declared.entry.HeldLocks.{HeldLocks}
use Rattle.ule_micro.specs.declared.entry.HeldLocks.TheVariants.{One, Two}
use Rattle.ule_micro.specs.declared.todo.Todo.{Todo}
use Rattle.ule_micro.specs.declared.word.WordChange.{WordChange}
use Rattle.ule_micro.specs.declared.word.WordChange.TheVariants.{Block, Point}
use Rattle.ule_micro.specs.Standings.{Standing, Acted, Journal}

-- needs: what has to be held before an event is performed, which is one lock, two locks, or the lock of the place where a thread stands
pub data Needs : Type 0 where
  one : ℕ → Needs
  both : ℕ → ℕ → Needs
  lock_of : ℕ → Needs

-- thread sought by: the thread that a seeking event seeks
abbrev pub thread_sought_by : Needs → Option ℕ
thread_sought_by (one a) = None
thread_sought_by (both a b) = None
thread_sought_by (lock_of t) = Some t

-- fixed by: the rising locks of an event that doesn't seek
abbrev pub fixed_by : Needs → Option HeldLocks
fixed_by (one a) = Some (One a)
fixed_by (both a b) = Some (Two a b)
fixed_by (lock_of t) = None

-- thread of change: the thread whose word a change is about
abbrev pub thread_of_change : WordChange → ℕ
thread_of_change (Block t) = t
thread_of_change (Point t l) = t

-- means: all that the step model knows of a scheduler, where H is a hand, O a worker's own part, G the value under a lock, E an event, R a reply and C a command
pub record Means (H O G E R C : Type 0) : Type 1 where
  -- the threads that there are
  pub declared : ℕ → Bool
  -- whether a thread stands under the lock of a value, and whether a hand has it
  pub stands_in : G → ℕ → Bool
  pub carried_in : H → ℕ → Bool
  -- the start: the value under each lock, each worker's own part, the lock that each thread's word names
  pub values : List G
  pub owns : List O
  pub word : ℕ → ℕ
  -- the greatest number of items of each worker
  pub budget : ℕ → ℕ
  -- an own part: the number of its worker, its hand, and the same part with another hand
  pub number : O → ℕ
  pub hand : O → H
  pub with_hand : O → H → O
  -- an event: what it needs, and whether a worker with these own entries, the newest first, and with this hand may ask for it
  pub needs : E → Needs
  pub asks : ℕ → List (Entry E R) → H → E → Type 0
  -- whether a worker may perform an event at a time with this hand on the values under its locks, and what it leaves then
  pub may : ℕ → E → ℕ → H → List G → Type 0
  pub act : ℕ → E → ℕ → H → List G → Acted H G R
  pub change : E → R → Option WordChange
  -- a command: whether it is valid for a worker behind those begun before, the newest first, and its greatest number of items
  pub valid : ℕ → List C → C → Type 0
  pub charge : ℕ → C → ℕ
  -- what an own part keeps where its worker stands, and the greatest number of items that are left of the command
  pub stands : Journal E R C → O → Standing E R → Type 0
  pub left : O → Standing E R → ℕ
  -- a program: whether a command may begin, what beginning it leaves, whether the next item may be asked for, and what it is and leaves
  pub begins : O → C → Type 0
  pub begin : O → C → O
  pub goes_on : O → Option (R × ℕ) → Type 0
  pub next : O → Option (R × ℕ) → Option (Todo E) × O

-- budgets: the budgets of n workers together
abbrev pub budgets : (ℕ → ℕ) → ℕ → ℕ
budgets b zero = 0
budgets b (suc n) = budgets b n + b n

module _ {H O G E R C : Type 0} (m : Means H O G E R C) where
  -- stands under: whether a thread stands under a lock, where these are the values under all locks
  abbrev pub stands_under : List G → ℕ → ℕ → Bool
  stands_under values l t = elim (slice_get values l) as (λ _. Bool) [ None ↦ false | Some v ↦ m.stands_in v t ]

  -- carried by: whether a worker has a thread in hand, where these are the hands of all workers
  abbrev pub carried_by : List H → ℕ → ℕ → Bool
  carried_by hands w t = elim (slice_get hands w) as (λ _. Bool) [ None ↦ false | Some h ↦ m.carried_in h t ]
