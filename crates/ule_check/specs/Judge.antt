-- The judge of a history: what it knows behind some entries, and the faults of the next one in their order.
use Rattle.std.specs.Prelude.{ℕ, ◌+◌, ◌==◌, ◌&&◌, nat_le, Bool, List, [], ◌∷◌, slice_get, slice_set, Option, Some, None, option_and_then, if◌then◌else◌}
use Rattle.std.specs.List.{list_all}
use Rattle.ule_types.specs.Commands.{is_among}
use Rattle.ule_types.specs.declared.command.Command.{Command}
use Rattle.ule_types.specs.declared.event.Entry.{Entry}
use Rattle.ule_types.specs.declared.event.Event.{Event}
use Rattle.ule_types.specs.declared.event.Item.{Item}
use Rattle.ule_types.specs.declared.event.Item.TheVariants as item
use Rattle.ule_types.specs.declared.event.Reply.{Reply}
use Rattle.ule_types.specs.declared.setup.Setup.{Setup}
use Rattle.ule_program.specs.Courses.{Course}
use Rattle.ule_program.specs.Program.{begun, next_of}
use Rattle.ule_program.specs.declared.own.Own.{Own}
use Rattle.ule_model.specs.Events.{holder_of, locks_of, sought_by}
use Rattle.ule_model.specs.Legal.{after_entry}
use Rattle.ule_model.specs.Rounds.{opening_courses}
use Rattle.ule_model.specs.Start.{starting_time, world_at_start}
use Rattle.ule_model.specs.Step.{step}
use Rattle.ule_model.specs.World.{World}
use Rattle.ule_check.specs.Same.{is_same_event, is_same_reply}
use Rattle.ule_check.specs.declared.verdicts.Fault.{Fault}
use Rattle.ule_check.specs.declared.verdicts.Fault.TheVariants as fault

-- ---- what the judge knows

-- the world; where each worker stands in its program; by worker, the time that its list has added and the time of its last entry; by lock, the time of the last entry under it
pub record Judge : Type 0 where
  pub world : World
  pub courses : List Course
  pub amount : ℕ → ℕ
  pub own : ℕ → ℕ
  pub latest : ℕ → ℕ

-- before the first entry
abbrev pub judge_at_start : Setup → Judge
judge_at_start s = record {
  world = world_at_start s;
  courses = opening_courses s;
  amount = λ worker. 0;
  own = λ worker. starting_time;
  latest = λ l. starting_time;
}

-- ---- a worker's next event

-- a worker's next event, where the worker stands once it is given, and the time that its list has added before it
pub record Due : Type 0 where
  pub event : Event
  pub course : Course
  pub amount : ℕ

-- the event that an item is; behind an advance of time, and where there is no item, what comes next
abbrev pub event_or : List Command → Own → ℕ → Option Item → (ℕ → Option Due) → Option Due
event_or script own amount None further = further amount
event_or script own amount (Some (item.Advance k)) further = further (amount + k)
event_or script own amount (Some (item.Event e)) further =
    Some (record { event = e; course = record { script = script; own = own; last = None }; amount = amount })

-- the next event of the command begun, or else of the commands not begun; advances of time are performed on the way
unfoldable pub next_event : List Command → Own → Option (Reply × ℕ) → ℕ → Option Due
next_event [] own last amount = event_or [] (next_of last own).1 amount (next_of last own).0 (λ passed. None)
next_event (c ∷ cs) own last amount =
    event_or (c ∷ cs) (next_of last own).1 amount (next_of last own).0 (λ passed. next_event cs (begun c (next_of last own).1) None passed)

-- the next event of a worker that stands here, when its list has added this time
abbrev pub due_of : ℕ → Course → Option Due
due_of amount course = next_event course.script course.own course.last amount

-- the next event of a worker; none where there is no such worker, or where its program has no further event
abbrev pub due_at : Judge → ℕ → Option Due
due_at j worker = option_and_then (due_of (j.amount worker)) (slice_get j.courses worker)

-- ---- the faults of an entry

-- the first of some faults that stands
abbrev pub first_fault : List (Option Fault) → Option Fault
first_fault [] = None
first_fault (None ∷ rest) = first_fault rest
first_fault (Some why ∷ rest) = Some why

-- another event than the worker's next one
abbrev pub event_fault : Event → Event → Option Fault
event_fault due found = if is_same_event due found then None else Some (fault.Event due)

-- the thread that the event seeks, in another worker's hand
abbrev pub held_fault : ℕ → Option ℕ → Option Fault
held_fault worker None = None
held_fault worker (Some holder) = if holder == worker then None else Some (fault.Hand holder)

abbrev pub hand_fault : World → Entry → Option Fault
hand_fault w e = held_fault e.worker (option_and_then (holder_of w.members) (sought_by e.event))

-- the three rules of time: no earlier than the last entry under each of its locks and that of its worker, no earlier than its worker's list says, and no later than all lists say
abbrev pub keeps_time : ℕ → Judge → ℕ → Entry → Bool
keeps_time total j amount e =
    list_all (λ l. nat_le (j.latest l) e.now) (locks_of j.world e.event) && nat_le (j.own e.worker) e.now &&
    nat_le (starting_time + amount) e.now && nat_le e.now (starting_time + total)

abbrev pub time_fault : Bool → Option Fault
time_fault kept = if kept then None else Some fault.Now

-- another reply than that of the sequential scheduler
abbrev pub reply_fault : Reply → Reply → Option Fault
reply_fault expected found = if is_same_reply expected found then None else Some (fault.Reply expected found)

-- the faults of an entry whose worker has a next event, in their order
abbrev pub faults_of : ℕ → Judge → Due → Entry → List (Option Fault)
faults_of total j due e =
    event_fault due.event e.event ∷
    hand_fault j.world e ∷
    time_fault (keeps_time total j due.amount e) ∷
    reply_fault (step j.world e.worker e.event e.now).1 e.reply ∷ []

-- ---- behind an entry

-- the times with this one at a number
abbrev pub with_time : ℕ → ℕ → (ℕ → ℕ) → ℕ → ℕ
with_time at now times n = if n == at then now else times n

-- the times with this one at some numbers
abbrev pub with_times : List ℕ → ℕ → (ℕ → ℕ) → ℕ → ℕ
with_times at now times n = if is_among at n then now else times n

-- the judge behind an entry of a worker whose next event it was
abbrev pub behind : Judge → Due → Entry → Judge
behind j due e = record {
  world = after_entry j.world e;
  courses = slice_set j.courses e.worker (record due.course { last = Some (e.reply, e.now) });
  amount = with_time e.worker due.amount j.amount;
  own = with_time e.worker e.now j.own;
  latest = with_times (locks_of j.world e.event) e.now j.latest;
}
