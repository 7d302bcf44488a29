-- A worker's seat of the code as the definition has it.
use Rattle.std.specs.Prelude.{ℕ, ◌+◌, List, [], ◌∷◌, drop, Option, Some, None}
use Rattle.std.specs.Option.{option_map}
use Rattle.ule_types.specs.declared.command.Command.{Command}
use Rattle.ule_types.specs.declared.event.Event.{Event}
use Rattle.ule_types.specs.declared.event.Item.{Item}
use Rattle.ule_types.specs.declared.event.Item.TheVariants as item
use Rattle.ule_types.specs.declared.event.Reply.{Reply}
use Rattle.ule_types.specs.declared.setup.Setup.{Setup}
use Rattle.ule_program.specs.Courses.{Course}
use Rattle.ule_program.specs.Laws.{time_at}
use Rattle.ule_program.specs.Program.{begun, told_last}
use Rattle.ule_program.specs.declared.own.Own.{Own}
use Rattle.ule_model.specs.Legal.{amount_in}
use Rattle.ule_seq.specs.Playing.{script_of}
use Rattle.ule_check.specs.Judge.{Due, next_event}
use Rattle.ule_check.specs.declared.seat.Seat.{Seat}

-- where a worker stands, told this of its last entry
abbrev pub course_at : Setup → ℕ → Seat → Option (Reply × ℕ) → Course
course_at s worker x last = record { script = drop x.next (script_of s worker); own = x.program; last = last }

-- what is due where a seat has come to an event
abbrev pub due_by : Setup → ℕ → Seat → Event → Due
due_by s worker x e = record { event = e; course = course_at s worker x None; amount = x.amount }

abbrev pub due_in : Setup → ℕ → Seat → Option Due
due_in s worker x = option_map (due_by s worker x) x.event

-- the event that an item is, and the time that it adds
abbrev pub event_in : Option Item → Option Event
event_in None = None
event_in (Some (item.Event e)) = Some e
event_in (Some (item.Advance k)) = None

abbrev pub ticks_in : Option Item → ℕ
ticks_in None = 0
ticks_in (Some (item.Event e)) = 0
ticks_in (Some (item.Advance k)) = k

-- what is due of the commands not begun
abbrev pub later_due : List Command → Own → ℕ → Option Due
later_due [] own amount = None
later_due (c ∷ cs) own amount = next_event cs (begun c own) None amount

-- the first of two that there is
abbrev pub due_or : Option Due → Option Due → Option Due
due_or None other = other
due_or (Some d) other = Some d

-- what a seat comes to: its event, or else one of the commands not begun
abbrev pub comes_next : Setup → ℕ → Seat → Option Due
comes_next s worker x = due_or (due_in s worker x) (later_due (drop x.next (script_of s worker)) x.program x.amount)

-- the time that a worker's list has added, with that of the commands not begun
abbrev pub time_ahead : Setup → ℕ → Seat → ℕ
time_ahead s worker x = x.amount + amount_in (drop x.next (script_of s worker))

-- the same, with what the command begun still adds once it is told this
abbrev pub time_behind : Setup → ℕ → Seat → Option (Reply × ℕ) → ℕ
time_behind s worker x last = time_at (told_last last x.program).stage + time_ahead s worker x
