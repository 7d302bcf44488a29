-- The world of the sequential scheduler: one list of threads, and the numbers of each CPU.
use Rattle.std.specs.Prelude.{ℕ, ℤ, Bool, not, ◌==◌, Option, List, filter, find, map, slice_set, slice_index_or, if◌then◌else◌}
use Rattle.ule_score.specs.Changes.{RecordChange, record_after}
use Rattle.ule_score.specs.declared.place.Place.{Place}
use Rattle.ule_score.specs.declared.record.CpuLine.{CpuLine}
use Rattle.ule_score.specs.declared.record.Settings.{Settings}
use Rattle.ule_score.specs.declared.record.ThreadRecord.{ThreadRecord}
use Rattle.ule_threads.specs.declared.standing.Standing.{Standing}
use Rattle.ule_types.specs.declared.event.Reply.{Reply}
use Rattle.ule_model.specs.Places.{runs_on}

-- a thread of the world: its record, its place, and where it is queued its order in the bucket
pub record Member : Type 0 where
  pub thread : ThreadRecord
  pub place : Place
  pub order : ℤ

-- a thread of the world with its place
abbrev pub standing_of : Member → Standing
standing_of m = record { thread = m.thread; place = m.place }

-- the world: the threads have distinct numbers, and CPU c's numbers stand at place c
pub record World : Type 0 where
  pub settings : Settings
  pub members : List Member
  pub lines : List CpuLine
  pub balance_word : ℕ

-- what an event under one CPU's queue lock reads and changes
pub record Side : Type 0 where
  pub settings : Settings
  pub members : List Member
  pub line : CpuLine
  pub balance_word : ℕ

-- the numbers of a CPU that has not begun
abbrev pub fresh_line : CpuLine
fresh_line = record { idx = 0; ridx = 0; resched = Bool.false; slice_end = Bool.false; switches = 0; old_switches = 0; balance = 0 }

-- CPU c's side of the world
abbrev pub side_of : ℕ → World → Side
side_of c w = record { settings = w.settings; members = w.members; line = slice_index_or w.lines c fresh_line; balance_word = w.balance_word }

-- the world with this side of CPU c
abbrev pub with_side : ℕ → Side → World → World
with_side c s w = record w { members = s.members; lines = slice_set w.lines c s.line; balance_word = s.balance_word }

-- whether a thread has this number
abbrev pub is_numbered : ℕ → Member → Bool
is_numbered t m = m.thread.id == t

-- the thread with this number
abbrev pub thread_of : ℕ → List Member → Option Member
thread_of t members = find (is_numbered t) members

-- the current thread of CPU c
abbrev pub current_of : ℕ → List Member → Option Member
current_of c members = find (λ m. runs_on c m.place) members

-- the threads with thread t at another place
abbrev pub moved_to : ℕ → Place → ℤ → List Member → List Member
moved_to t place order members =
    map (λ m. if is_numbered t m then record m { place = place; order = order } else m) members

-- the threads with thread t's record changed
abbrev pub with_record : ℕ → (ThreadRecord → ThreadRecord) → List Member → List Member
with_record t change members =
    map (λ m. if is_numbered t m then record m { thread = change m.thread } else m) members

-- the threads with thread t's record changed by an event at this time
abbrev pub with_change : Settings → ℕ → ℕ → RecordChange → List Member → List Member
with_change settings now t change members = with_record t (record_after settings now change) members

-- the threads but thread t
abbrev pub others : ℕ → List Member → List Member
others t members = filter (λ m. not (is_numbered t m)) members

-- ---- the parts that steps change

-- a step under the queue lock of CPU c
abbrev pub on_side : ℕ → (Side → Side × Reply) → World → World × Reply
on_side c change w = let done = change (side_of c w) in (with_side c done.0 w, done.1)

-- a step that moves a thread to or from a place on no CPU
abbrev pub on_members : (List Member → List Member × Reply) → World → World × Reply
on_members change w = let done = change w.members in (record w { members = done.0 }, done.1)
