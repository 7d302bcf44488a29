-- What the history of rounds is: a legal and whole history of its setup's scripts.
use Rattle.std.specs.Prelude.{◌≡◌, ◌≢◌, ℕ, ◌<◌, ◌≤◌, ◌⊎◌, length, slice_get, Some, None}
use Rattle.std.specs.List.{AllByRecursion}
use Rattle.ule_score.specs.Bounds.{KeepsBounds}
use Rattle.ule_types.specs.declared.setup.Setup.{Setup}
use Rattle.ule_model.specs.CalendarPromise.{HasCalendarPromise}
use Rattle.ule_model.specs.Ends.{end_time, end_world}
use Rattle.ule_model.specs.Legal.{IsLegal, IsWhole}
use Rattle.ule_model.specs.Places.{hand_of}
use Rattle.ule_program.specs.Courses.{Course, next_step}
use Rattle.ule_model.specs.Rounds.{Play, greatest_rounds, opening, play_of, round, rounds}
use Rattle.ule_model.specs.Start.{world_at_start}
use Rattle.ule_model.specs.Throughout.{HoldsThroughout}
use Rattle.ule_model.specs.WellMade.{IsWellMadeWorld}
use Rattle.ule_model.specs.World.{World}

-- ---- every world of a history

-- each record of a world keeps its bounds
abbrev pub KeepsRecords : World → Type 0
KeepsRecords w = AllByRecursion (λ m. KeepsBounds m.thread) w.members

-- no thread of a world is in a hand
abbrev pub HasEmptyHands : World → Type 0
HasEmptyHands w = AllByRecursion (λ m. hand_of m.place ≡ None) w.members

-- ---- the history of rounds

-- the entries of a play are a legal and whole history of a setup's scripts, and its world and time are those at
-- their end, where no thread is in a hand; it keeps the calendar promise
pub record IsHistoryOf (s : Setup) (p : Play) : Type 0 where
  pub legal : IsLegal s s.scripts p.entries
  pub whole : IsWhole s s.scripts p.entries
  pub world : end_world s p.entries ≡ p.world
  pub time : p.now ≡ end_time s.scripts
  pub count : length p.entries ≤ greatest_rounds
  pub bounds : HoldsThroughout KeepsRecords (world_at_start s) p.entries
  pub made : HoldsThroughout IsWellMadeWorld (world_at_start s) p.entries
  pub hands : HasEmptyHands p.world
  pub promise : HasCalendarPromise (world_at_start s) p.entries

-- the rounds of every setup make a legal and whole history of it
abbrev pub RoundsAreLegal : Type 0
RoundsAreLegal = (s : Setup) → IsHistoryOf s (play_of s)

-- a play went on: an event was entered, or time advanced
abbrev pub GoesOn : Play → Play → Type 0
GoesOn p q = (length p.entries < length q.entries) ⊎ (p.now < q.now)

-- each round performs an item where a worker has a further one
abbrev pub RoundsGoOn : Type 0
RoundsGoOn =
    (s : Setup) (n worker : ℕ) (course : Course) →
    slice_get (rounds n (opening s)).courses worker ≡ Some course → next_step course ≢ None →
    GoesOn (rounds n (opening s)) (round (rounds n (opening s)))
