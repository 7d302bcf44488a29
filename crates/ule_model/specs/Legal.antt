-- Legal histories of a setup and a list of commands for each worker: which lists of entries the
-- sequential scheduler can make. What each says of replies, of programs and of times stands alone.
use Rattle.std.specs.Prelude.{◌≡◌, ℕ, ◌+◌, ◌<◌, ◌≤◌, Bool, true, ◌==◌, ◌||◌, List, [], ◌∷◌, filter, map, slice_index_or, sum_by, Some, None}
use Rattle.std.specs.List.{AllByRecursion, list_any}
use Rattle.ule_types.specs.Commands.{is_among}
pub use Rattle.ule_types.specs.Commands.{amount_of}
use Rattle.ule_types.specs.declared.command.Command.{Command}
use Rattle.ule_types.specs.declared.event.Entry.{Entry}
use Rattle.ule_types.specs.declared.event.Item.TheVariants as item
use Rattle.ule_types.specs.declared.setup.Setup.{Setup}
use Rattle.ule_program.specs.Courses.{Course, course_of, next_step}
use Rattle.ule_program.specs.Program.{own_of_setup}
use Rattle.ule_model.specs.Events.{has_thread, is_ready, locks_of}
use Rattle.ule_model.specs.Start.{world_at_start, starting_time}
use Rattle.ule_model.specs.Step.{step}
use Rattle.ule_model.specs.World.{World}

-- ---- replies

-- the world after an entry
abbrev pub after_entry : World → Entry → World
after_entry w e = (step w e.worker e.event e.now).0

-- the world after some entries
unfoldable pub replayed : World → List Entry → World
replayed w [] = w
replayed w (e ∷ es) = replayed (after_entry w e) es

-- an entry that the world can make: its event is ready, its thread stands where it must, its reply is the step's
pub record IsEntryOf (w : World) (e : Entry) : Type 0 where
  pub ready : is_ready w e.worker e.event ≡ true
  pub thread : has_thread w e.worker e.event ≡ true
  pub reply : e.reply ≡ (step w e.worker e.event e.now).1

-- each entry is one that the world can make after those before it
unfoldable pub IsReplayed : World → List Entry → Type 0
IsReplayed w [] = Unit {0}
IsReplayed w (e ∷ es) = IsEntryOf w e × IsReplayed (after_entry w e) es

-- ---- programs

-- an entry, with the time that its worker's list added before it
pub record Timed : Type 0 where
  pub entry : Entry
  pub amount : ℕ

-- a worker that stands at a course, when its list has added an amount of time, makes these entries and
-- stands at another course then, when its list has added a total
pub data Performs : Course → ℕ → List Timed → Course → ℕ → Type 0 where
  stays : (course : Course) (amount : ℕ) → Performs course amount [] course amount
  advances : (course after end : Course) (amount k total : ℕ) (es : List Timed) →
      next_step course ≡ Some (item.Advance k, after) → Performs after (amount + k) es end total →
      Performs course amount es end total
  acts : (course after end : Course) (amount total : ℕ) (e : Entry) (es : List Timed) →
      next_step course ≡ Some (item.Event e.event, after) →
      Performs (record after { last = Some (e.reply, e.now) }) amount es end total →
      Performs course amount (record { entry = e; amount = amount } ∷ es) end total

-- one worker's entries
abbrev pub entries_of : ℕ → List Timed → List Timed
entries_of worker es = filter (λ x. x.entry.worker == worker) es

-- a worker before the first command of its list
abbrev pub opening_of : Setup → List (List Command) → ℕ → Course
opening_of s lists worker = course_of (own_of_setup s worker) (slice_index_or lists worker [])

-- a worker's entries are the first of the program of its list
pub record BeginsProgram (s : Setup) (lists : List (List Command)) (es : List Timed) (worker : ℕ) : Type 0 where
  pub end : Course
  pub total : ℕ
  pub performs : Performs (opening_of s lists worker) 0 (entries_of worker es) end total

-- a worker's entries are those of the whole program of its list
pub record Completes (s : Setup) (lists : List (List Command)) (es : List Timed) (worker : ℕ) : Type 0 where
  pub begins : BeginsProgram s lists es worker
  pub finished : next_step begins.end ≡ None

-- ---- times

-- an entry with the locks of its event
pub record Locked : Type 0 where
  pub entry : Entry
  pub locks : List ℕ

-- the entries with their locks, each by the world before it
unfoldable pub with_locks : World → List Entry → List Locked
with_locks w [] = []
with_locks w (e ∷ es) = record { entry = e; locks = locks_of w e.event } ∷ with_locks (after_entry w e) es

-- whether two entries share a lock or the worker
abbrev pub share : Locked → Locked → Bool
share x y = (x.entry.worker == y.entry.worker) || list_any (λ l. is_among y.locks l) x.locks

-- no entry is earlier than one before it that shares a lock or the worker with it
unfoldable pub IsInTime : List Locked → Type 0
IsInTime [] = Unit {0}
IsInTime (x ∷ xs) = AllByRecursion (λ y. share x y ≡ true → x.entry.now ≤ y.entry.now) xs × IsInTime xs

-- the three rules of time, over entries with the amounts before them and the total of all amounts
pub record KeepsTime (w : World) (es : List Timed) (total : ℕ) : Type 0 where
  pub in_order : IsInTime (with_locks w (map (λ x. x.entry) es))
  pub after_own : AllByRecursion (λ x. starting_time + x.amount ≤ x.entry.now) es
  pub by_the_end : AllByRecursion (λ x. x.entry.now ≤ starting_time + total) es

-- the time that a list of commands adds, and that all lists add
abbrev pub amount_in : List Command → ℕ
amount_in list = sum_by amount_of list

abbrev pub amount_in_all : List (List Command) → ℕ
amount_in_all lists = sum_by amount_in lists

-- ---- histories

-- a legal history of a setup and a list of commands for each worker
pub record IsLegal (s : Setup) (lists : List (List Command)) (es : List Entry) : Type 0 where
  pub timed : List Timed
  pub entries : map (λ x. x.entry) timed ≡ es
  pub workers : AllByRecursion (λ e. e.worker < s.cpus) es
  pub replies : IsReplayed (world_at_start s) es
  pub programs : (worker : ℕ) → worker < s.cpus → BeginsProgram s lists timed worker
  pub times : KeepsTime (world_at_start s) timed (amount_in_all lists)

-- a whole history: every worker's list is done to its end
pub record IsWhole (s : Setup) (lists : List (List Command)) (es : List Entry) : Type 0 where
  pub timed : List Timed
  pub entries : map (λ x. x.entry) timed ≡ es
  pub programs : (worker : ℕ) → worker < s.cpus → Completes s lists timed worker
