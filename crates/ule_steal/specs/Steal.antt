-- The steal rule, after tdq_steal, runq_steal and runq_steal_from: which thread a queue gives to another CPU.
use Rattle.std.specs.Prelude.{◌≡◌, ◌≢◌, ℕ, ◌<◌, Bool, false, if◌then◌else◌, Option, Some, None, List, [], ◌∷◌, ◌++◌, slice_get, filter}
use Rattle.std.specs.List.{concat}
use Rattle.std.specs.Option.{option_map}
use Rattle.ule_runq.specs.Runq.{times, first_from, threads_from}
use Rattle.ule_calendar.specs.Calendar.{Dial}
pub use Rattle.ule_model.specs.Steal.{calendar_pick, first_movable, plain_pick, with_first_last}

-- a calendar gives the first movable thread, where the thread that its own CPU would choose comes last
abbrev pub batch_pick : (ℕ → Bool) → Dial → Option ℕ
batch_pick movable d = calendar_pick movable d.lists d.ridx

-- the thread that the calendar's own CPU would choose
abbrev pub first_thread : Dial → Option ℕ
first_thread d = option_map (λ f. f.1) (first_from d.lists d.ridx)

-- if t is that thread, no other thread of the calendar is movable
abbrev pub SparesFirst : (ℕ → Bool) → Dial → ℕ → Type 0
SparesFirst movable d t = first_thread d ≡ Some t → (u : ℕ) → u ≢ t → 0 < times d.lists u → movable u ≡ false

-- a thread, if it is movable
abbrev pub if_movable : (ℕ → Bool) → Option ℕ → Option ℕ
if_movable movable None = None
if_movable movable (Some t) = if movable t then Some t else None

-- no thread of the queue is movable
abbrev pub HasNoMovable : (ℕ → Bool) → List (List ℕ) → Type 0
HasNoMovable movable q = (t : ℕ) → 0 < times q t → movable t ≡ false
