-- Which event words spell: the words of each, behind its name.
use Rattle.std.specs.Prelude.{Option, Some, None, if◌then◌else◌, List, codes, bytes_eq}
use Rattle.ule_text.specs.Words.{Word}
use Rattle.ule_trace.specs.Parts.{Spelled, taken, next, form1, form2, form3}
use Rattle.ule_trace.specs.Fields.{cpu, thread, priority, channel, amount, nice, why_named, move_why_named}
use Rattle.ule_trace.specs.declared.event_form.EventName.{EventName}
use Rattle.ule_trace.specs.declared.event_form.EventName.TheVariants as name
use Rattle.ule_types.specs.declared.event.Event.{Event}
use Rattle.ule_types.specs.declared.event.Event.TheVariants as event

-- the name of an event whose first word is a thread
abbrev pub thread_event_named : Word → Option EventName
thread_event_named word =
    if bytes_eq word (codes "bed") then Some name.Bed else (
    if bytes_eq word (codes "wake") then Some name.Wake else (
    if bytes_eq word (codes "land") then Some name.Land else (
    if bytes_eq word (codes "lend") then Some name.Lend else (
    if bytes_eq word (codes "unlend") then Some name.Unlend else (
    if bytes_eq word (codes "renice") then Some name.Renice else (
    if bytes_eq word (codes "hatch") then Some name.Hatch else (
    if bytes_eq word (codes "return") then Some name.Return else (
    if bytes_eq word (codes "bury") then Some name.Bury else (
    if bytes_eq word (codes "inherit") then Some name.Inherit else (
    None))))))))))

-- the name that a word is
abbrev pub event_named : Word → Option EventName
event_named word =
    if bytes_eq word (codes "tick") then Some name.Tick else (
    if bytes_eq word (codes "switch") then Some name.Switch else (
    if bytes_eq word (codes "drop") then Some name.Drop else (
    if bytes_eq word (codes "look") then Some name.Look else (
    if bytes_eq word (codes "move") then Some name.Move else (
    if bytes_eq word (codes "fork") then Some name.Fork else (
    if bytes_eq word (codes "exit") then Some name.Exit else (
    thread_event_named word)))))))

-- the words behind a name
abbrev pub event_behind : EventName → List Word → Spelled Event
event_behind name.Tick ws = form1 event.Tick cpu ws
event_behind name.Switch ws = form2 event.Switch cpu why_named ws
event_behind name.Drop ws = form2 event.Drop cpu channel ws
event_behind name.Bed ws = form2 event.Bed thread channel ws
event_behind name.Wake ws = form1 event.Wake thread ws
event_behind name.Look ws = form1 event.Look cpu ws
event_behind name.Land ws = form2 event.Land thread cpu ws
event_behind name.Move ws = form3 event.Move cpu cpu move_why_named ws
event_behind name.Lend ws = form2 event.Lend thread priority ws
event_behind name.Unlend ws = form1 event.Unlend thread ws
event_behind name.Renice ws = form2 event.Renice thread nice ws
event_behind name.Hatch ws = form1 event.Hatch thread ws
event_behind name.Fork ws = form2 event.Fork cpu thread ws
event_behind name.Return ws = form1 event.Return thread ws
event_behind name.Exit ws = form1 event.Exit cpu ws
event_behind name.Bury ws = form1 event.Bury thread ws
event_behind name.Inherit ws = form2 event.Inherit thread amount ws

-- an event
abbrev pub event_form : List Word → Spelled Event
event_form ws = next (taken event_named ws) event_behind
