-- The program of a worker over its list of commands: one command after another.
use Rattle.std.specs.Prelude.{ℕ, List, [], ◌∷◌, Option, Some, None}
use Rattle.ule_types.specs.declared.command.Command.{Command}
use Rattle.ule_types.specs.declared.event.Item.{Item}
use Rattle.ule_types.specs.declared.event.Reply.{Reply}
use Rattle.ule_program.specs.Program.{Own, begun, next_of}

-- where a worker stands in its list: the commands not begun, its own part, and what the last event told
pub record Course : Type 0 where
  pub script : List Command
  pub own : Own
  pub last : Option (Reply × ℕ)

-- a worker before the first command of its list
abbrev pub course_of : Own → List Command → Course
course_of own script = record { script = script; own = own; last = None }

-- a step of a program: its item, and the course after it
abbrev pub stepped : List Command → Option Item → Own → Option (Item × Course)
stepped script None own = None
stepped script (Some i) own = Some (i, record { script = script; own = own; last = None })

-- the first of two that there is
abbrev pub or_else : Option (Item × Course) → Option (Item × Course) → Option (Item × Course)
or_else None other = other
or_else (Some found) other = Some found

-- the next item of a command begun, or of the commands not begun
unfoldable pub next_in : List Command → Own → Option (Reply × ℕ) → Option (Item × Course)
next_in [] own last = stepped [] (next_of last own).0 (next_of last own).1
next_in (c ∷ cs) own last =
    or_else (stepped (c ∷ cs) (next_of last own).0 (next_of last own).1) (next_in cs (begun c (next_of last own).1) None)

-- the next item of a program; none where it is at its end
abbrev pub next_step : Course → Option (Item × Course)
next_step course = next_in course.script course.own course.last
