-- The actions of a CPU's events on its side, each under a name of its own: what the calls of a CPU are told by.
use Rattle.std.specs.Prelude.{ℕ, ℤ, Option, None}
use Rattle.std.specs.Option.{option_map}
use Rattle.ule_score.specs.Changes.{RecordChange, record_after}
use Rattle.ule_score.specs.declared.place.Place.{Place}
use Rattle.ule_score.specs.declared.record.Change.{Change}
use Rattle.ule_score.specs.declared.record.ThreadRecord.{ThreadRecord}
use Rattle.ule_score.specs.declared.record.Why.{Why}
use Rattle.ule_types.specs.declared.event.Reply.{Reply}
use Rattle.ule_model.specs.Action.{action_done, leaving}
use Rattle.ule_model.specs.Actions.{change_action, fork_action, land_action, leave_action, switch_action, tick_action}
use Rattle.ule_model.specs.ActionStep.{seen_on}
use Rattle.ule_model.specs.Landing.{current_record}
use Rattle.ule_model.specs.World.{Member, Side, moved_to, standing_of, thread_of}

-- a tick of CPU c, after sched_clock
abbrev pub ticked : ℕ → ℕ → Side → Side × Reply
ticked c now s = action_done c now (tick_action (current_record c s.members) (seen_on c c now None s)) s

-- a switch of CPU c, after sched_switch
abbrev pub switched : ℕ → Why → ℕ → Side → Side × Reply
switched c why now s = action_done c now (switch_action why (seen_on c c now None s)) s

-- every event by which the current thread of CPU c leaves it for a worker's hand, its record changed so: this replies, by
-- the record that left and the thread that runs now
abbrev pub departed : RecordChange → (ThreadRecord → Option ℕ → Reply) → ℕ → ℕ → ℕ → Side → Side × Reply
departed change reply c worker now s =
    action_done c now (leave_action change (λ r into. reply (record_after s.settings now change r) into) (current_record c s.members) (seen_on c worker now None s)) s

-- a landing of thread t on CPU c, asked for by a worker, after sched_add
abbrev pub landed : ℕ → ℕ → ℕ → ℕ → Side → Side × Reply
landed t c worker now s =
    action_done c now (land_action t (option_map standing_of (thread_of t s.members)) (seen_on c worker now (thread_of t s.members) s)) s

-- a change of the priority of thread t on CPU c, asked for by a worker, after sched_thread_priority: it notes no time
abbrev pub priority_changed : ℕ → Change → ℕ → ℕ → Side → Side × Reply
priority_changed t change c worker s =
    action_done c 0 (change_action change t (option_map standing_of (thread_of t s.members)) (seen_on c worker 0 (thread_of t s.members) s)) s

-- a fork of thread t by CPU c's current thread, after sched_fork
abbrev pub forked_on : ℕ → ℕ → ℕ → Side → Side × Reply
forked_on c t now s =
    action_done c now (fork_action t (current_record c s.members) (option_map standing_of (thread_of t s.members)) (seen_on c c now (thread_of t s.members) s)) s

-- the side of CPU c where this thread left its place, by the index rule, for another place, after sched_rem
abbrev pub carried_off : ℕ → Member → Place → ℤ → Side → Side
carried_off c m place order s = record (leaving m.place c m.thread.id s) { members = moved_to m.thread.id place order s.members }
