-- How the thread in a worker's hand comes to a CPU, after sched_add.
use Rattle.std.specs.Prelude.{ℕ, Bool, not, ◌==◌, ◌||◌, List, Option, Some, None}
use Rattle.std.specs.Option.{option_map}
use Rattle.ule_prio.specs.Preemption.{takes_over}
use Rattle.ule_score.specs.declared.record.CpuLine.{CpuLine}
use Rattle.ule_score.specs.declared.record.ThreadRecord.{ThreadRecord}
use Rattle.ule_model.specs.World.{Member, Side, current_of}

-- the priority that a new thread is compared with: the current thread's, or 255 where there is none
abbrev pub current_priority : Option ThreadRecord → ℕ
current_priority None = 255
current_priority (Some r) = r.priority

-- the numbers of a CPU with the mark that asks for a switch set where the preemption test said yes
abbrev pub marked_if : Bool → CpuLine → CpuLine
marked_if takes line = record line { resched = line.resched || takes }

-- the record of CPU c's current thread
abbrev pub current_record : ℕ → List Member → Option ThreadRecord
current_record c members = option_map (λ m. m.thread) (current_of c members)

-- whether a thread of priority p takes over from CPU c's current thread, asked by a worker
abbrev pub is_taking_over : ℕ → ℕ → ℕ → Side → Bool
is_taking_over p c worker s = takes_over p (current_priority (current_record c s.members)) (not (worker == c)) s.settings.preempt
