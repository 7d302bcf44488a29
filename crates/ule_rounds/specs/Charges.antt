-- The items of commands: what a worker's program gives, whatever replies its events have, and that they are no more than the commands are
-- charged.
use Rattle.std.specs.Prelude.{◌≡◌, ℕ, ◌≤◌, Bool, true, List, [], ◌∷◌, length, Some}
use Rattle.std.specs.List.{list_all}
use Rattle.ule_types.specs.Commands.{is_among, is_command}
use Rattle.ule_types.specs.declared.command.Command.{Command}
use Rattle.ule_types.specs.declared.event.Event.{Event}
use Rattle.ule_types.specs.declared.event.Item.{Item}
use Rattle.ule_types.specs.declared.event.Item.TheVariants as item
use Rattle.ule_types.specs.declared.event.Reply.{Reply}
use Rattle.ule_program.specs.Courses.{Course, course_of, next_step}
use Rattle.ule_program.specs.Hearing.{IsReplyTo, IsSeat}
use Rattle.ule_program.specs.Program.{stops}
use Rattle.ule_program.specs.declared.own.Own.{Own}
use Rattle.ule_courses.specs.Charge.{greatest_in}

-- a worker that stands at a course at a time gives these items, one after another: each event is told a reply that it can have, at a time
-- no earlier than the one before
pub data GivesItems (declared : ℕ → Bool) (cpus : ℕ) : ℕ → Course → List Item → Type 0 where
  stays : (now : ℕ) (course : Course) → GivesItems declared cpus now course []
  advances : (now k : ℕ) (course after : Course) (items : List Item) →
      next_step course ≡ Some (item.Advance k, after) → GivesItems declared cpus now after items →
      GivesItems declared cpus now course (item.Advance k ∷ items)
  acts : (now later : ℕ) (course after : Course) (e : Event) (r : Reply) (items : List Item) →
      next_step course ≡ Some (item.Event e, after) → now ≤ later → IsReplyTo declared cpus later e r →
      GivesItems declared cpus later (record after { last = Some (r, later) }) items →
      GivesItems declared cpus now course (item.Event e ∷ items)

-- the law of charges: a worker gives no more items of valid commands than these are charged
abbrev pub CommandsKeepToTheirCharges : Type 0
CommandsKeepToTheirCharges =
    (ids : List ℕ) (own : Own) (now : ℕ) (list : List Command) (items : List Item) → IsSeat own.worker own.topology →
    list_all (is_command ids own.topology.cpus) list ≡ true → GivesItems (is_among ids) own.topology.cpus now (course_of (stops own) list) items →
    length items ≤ greatest_in own.topology.cpus own.worker list
