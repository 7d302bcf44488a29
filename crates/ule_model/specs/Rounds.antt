-- The history of rounds: in each round every unfinished worker has one turn, in rising number.
use Rattle.std.specs.Prelude.{ℕ, ◌+◌, zero, suc, List, [], ◌∷◌, ◌++◌, length, map, fold, take, slice_get, slice_set, Option, Some, None, option_and_then, if◌then◌else◌}
use Rattle.std.specs.List.{range_with_len, enumerate_from}
use Rattle.ule_types.specs.declared.event.Entry.{Entry}
use Rattle.ule_types.specs.declared.event.Event.{Event}
use Rattle.ule_types.specs.declared.event.Item.{Item}
use Rattle.ule_types.specs.declared.event.Item.TheVariants as item
use Rattle.ule_types.specs.declared.setup.Setup.{Setup}
use Rattle.ule_program.specs.Courses.{Course, course_of, next_step}
use Rattle.ule_program.specs.Program.{own_of_setup}
use Rattle.ule_model.specs.Events.{is_ready}
use Rattle.ule_model.specs.Start.{world_at_start, starting_time}
use Rattle.ule_model.specs.Step.{step}
use Rattle.ule_model.specs.World.{World}

-- a play: the world, where each worker stands, the time, and the entries so far
pub record Play : Type 0 where
  pub world : World
  pub courses : List Course
  pub now : ℕ
  pub entries : List Entry

-- the entry that a step makes
abbrev pub entry_of : Play → ℕ → Event → Entry
entry_of p worker e = record { worker = worker; event = e; now = p.now; reply = (step p.world worker e p.now).1 }

-- the play after an event
abbrev pub performed : ℕ → Event → Course → Play → Play
performed worker e course p = record p {
  world = (step p.world worker e p.now).0;
  courses = slice_set p.courses worker (record course { last = Some ((step p.world worker e p.now).1, p.now) });
  entries = p.entries ++ entry_of p worker e ∷ [];
}

-- the play after an item; a turn that seeks a thread in another worker's hand is lost
abbrev pub after_item : ℕ → Item → Course → Play → Play
after_item worker (item.Event e) course p = if is_ready p.world worker e then performed worker e course p else p
after_item worker (item.Advance k) course p = record p { now = p.now + k; courses = slice_set p.courses worker course }

-- the play after a turn that found this next step
abbrev pub after_step : ℕ → Option (Item × Course) → Play → Play
after_step worker None p = p
after_step worker (Some found) p = after_item worker found.0 found.1 p

-- the play after one worker's turn
abbrev pub turn : Play → ℕ → Play
turn p worker = after_step worker (option_and_then next_step (slice_get p.courses worker)) p

-- the play after a round
abbrev pub round : Play → Play
round p = fold turn p (range_with_len 0 (length p.courses))

-- the play after so many rounds
unfoldable pub rounds : ℕ → Play → Play
rounds zero p = p
rounds (suc n) p = rounds n (round p)

-- the greatest number of items of all scripts, and so of rounds
abbrev pub greatest_rounds : ℕ
greatest_rounds = 65536

-- each worker before its first command
abbrev pub opening_courses : Setup → List Course
opening_courses s = map (λ e. course_of (own_of_setup s e.0) e.1) (enumerate_from 0 (take s.cpus s.scripts))

-- the play before its first round
abbrev pub opening : Setup → Play
opening s = record { world = world_at_start s; courses = opening_courses s; now = starting_time; entries = [] }

-- the play of a setup
abbrev pub play_of : Setup → Play
play_of s = rounds greatest_rounds (opening s)
