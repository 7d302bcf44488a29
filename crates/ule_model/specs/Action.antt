-- What an event does under a lock and with the worker's hand, told as data: parts that are done one after another, and the
-- reply. And what each part does to the side of a lock.
use Rattle.std.specs.Prelude.{ℕ, pos, Bool, List, [], ◌∷◌, Option, None}
use Rattle.ule_score.specs.Changes.{RecordChange}
use Rattle.ule_score.specs.declared.place.Place.{Place}
use Rattle.ule_types.specs.declared.event.Reply.{Reply}
use Rattle.ule_model.specs.Insertion.{Insertion, queued}
use Rattle.ule_model.specs.Landing.{marked_if}
use Rattle.ule_model.specs.Switch.{after_leaving, choosing_next, counted, unmarked}
use Rattle.ule_model.specs.Tick.{clocked, marked_at_end}
use Rattle.ule_model.specs.World.{Side, moved_to, others, with_change}

-- one part of what an event does
pub data Part : Type 0 where
  -- this thread's record changes at this place, where the thread stands
  note : ℕ → Place → RecordChange → Part
  -- this thread leaves a place, by the index rule, for another that is in no queue
  move : ℕ → Place → Place → Part
  -- this thread leaves a place, by the index rule, and is queued on the CPU
  insert : ℕ → Place → Insertion → Part
  -- the queued thread whose turn comes first runs
  choose : Part
  -- both marks are cleared
  clear_marks : Part
  -- the switch count grows by one
  count_switch : Part
  -- the mark that asks for a switch is set, if so
  mark_if : Bool → Part
  -- both marks are set, if so
  end_slice_if : Bool → Part
  -- the CPU's own numbers go on by a tick
  clock : Part

-- what an event does, and what it replies by the thread that was chosen, if one was
pub record Action : Type 0 where
  pub parts : List Part
  pub reply : Option ℕ → Reply

-- what an event under two locks does: these parts under the first lock that it names, and then those under the second, and
-- what it replies. A thread that goes from one to the other is in the worker's hand between them
pub record PairAction : Type 0 where
  pub from : List Part
  pub to : List Part
  pub reply : Reply

-- nothing is done, and this is replied
abbrev pub answers : Reply → Action
answers r = record { parts = []; reply = λ into. r }

-- under two locks
abbrev pub pair_answers : Reply → PairAction
pair_answers r = record { from = []; to = []; reply = r }

-- ---- on the side of a lock

-- the side of lock c where thread t has left this place, by the index rule
abbrev pub leaving : Place → ℕ → ℕ → Side → Side
leaving from c t s = record s { line = after_leaving from c s.line (others t s.members) }

-- a part on the side of lock c, and the thread that was chosen so far
abbrev pub part_done : ℕ → ℕ → Part → Side × Option ℕ → Side × Option ℕ
part_done c now (note t place change) (s, into) = (record s { members = with_change s.settings now t change s.members }, into)
part_done c now (move t from to) (s, into) = (record (leaving from c t s) { members = moved_to t to (pos 0) s.members }, into)
part_done c now (insert t from how) (s, into) = (queued how c t (leaving from c t s), into)
part_done c now choose (s, into) = choosing_next c now s
part_done c now clear_marks (s, into) = (unmarked s, into)
part_done c now count_switch (s, into) = (counted s, into)
part_done c now (mark_if takes) (s, into) = (record s { line = marked_if takes s.line }, into)
part_done c now (end_slice_if ended) (s, into) = (record s { line = marked_at_end ended s.line }, into)
part_done c now clock (s, into) = (clocked c s, into)

-- parts, one after another
abbrev pub parts_done : ℕ → ℕ → List Part → Side × Option ℕ → Side × Option ℕ
parts_done c now [] at = at
parts_done c now (p ∷ ps) at = parts_done c now ps (part_done c now p at)

-- an action on the side of lock c
abbrev pub action_done : ℕ → ℕ → Action → Side → Side × Reply
action_done c now a s = let done = parts_done c now a.parts (s, None) in (done.0, a.reply done.1)
