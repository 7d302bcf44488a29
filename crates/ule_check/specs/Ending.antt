-- The faults behind the last entry: a worker that has a further event, and the final lines.
use Rattle.std.specs.Prelude.{ℕ, ◌+◌, min, ◌==◌, is_some, List, [], ◌∷◌, Option, Some, None, if◌then◌else◌}
use Rattle.ule_score.specs.declared.record.CpuLine.{CpuLine}
use Rattle.ule_types.specs.Outcome.{OutcomeValue}
use Rattle.ule_types.specs.declared.outcome.ThreadLine.{ThreadLine}
use Rattle.ule_program.specs.Courses.{Course}
use Rattle.ule_model.specs.Finals.{thread_lines}
use Rattle.ule_model.specs.Start.{starting_time}
use Rattle.ule_check.specs.Judge.{Judge, due_of}
use Rattle.ule_check.specs.Same.{is_same_cpu_line, is_same_thread_line}
use Rattle.ule_check.specs.declared.verdicts.Fault.{Fault}
use Rattle.ule_check.specs.declared.verdicts.Fault.TheVariants as fault
use Rattle.ule_check.specs.declared.verdicts.FinalName.TheVariants as name

-- the least worker, of those from this one on, that has a further event
abbrev pub missing_from : (ℕ → ℕ) → ℕ → List Course → Option Fault
missing_from amount worker [] = None
missing_from amount worker (course ∷ courses) =
    if is_some (due_of (amount worker) course) then Some (fault.Missing worker) else missing_from amount (worker + 1) courses

-- another line than the one that is expected first
abbrev pub first_thread_fault : ThreadLine → ThreadLine → Option Fault
first_thread_fault x y = if is_same_thread_line x y then None else Some (fault.Final (name.Thread (min x.id y.id)))

abbrev pub first_cpu_fault : ℕ → CpuLine → CpuLine → Option Fault
first_cpu_fault c x y = if is_same_cpu_line x y then None else Some (fault.Final (name.Cpu c))

-- the first thread line that differs, is missing, or should not be there, where the lines on both sides rise: the expected ones stand first
abbrev pub thread_fault : List ThreadLine → List ThreadLine → Option Fault
thread_fault [] [] = None
thread_fault [] (y ∷ ys) = Some (fault.Final (name.Thread y.id))
thread_fault (x ∷ xs) [] = Some (fault.Final (name.Thread x.id))
thread_fault (x ∷ xs) (y ∷ ys) = if is_same_thread_line x y then thread_fault xs ys else Some (fault.Final (name.Thread (min x.id y.id)))

-- the same of the lines of the CPUs from this one on
abbrev pub cpu_fault : ℕ → List CpuLine → List CpuLine → Option Fault
cpu_fault c [] [] = None
cpu_fault c [] (y ∷ ys) = Some (fault.Final (name.Cpu c))
cpu_fault c (x ∷ xs) [] = Some (fault.Final (name.Cpu c))
cpu_fault c (x ∷ xs) (y ∷ ys) = if is_same_cpu_line x y then cpu_fault (c + 1) xs ys else Some (fault.Final (name.Cpu c))

-- another time at the end
abbrev pub end_fault : ℕ → ℕ → Option Fault
end_fault expected found = if expected == found then None else Some (fault.Final name.Now)

-- the faults behind the last entry, in their order
abbrev pub ending_faults : ℕ → OutcomeValue → Judge → List (Option Fault)
ending_faults total o j =
    missing_from j.amount 0 j.courses ∷
    thread_fault (thread_lines j.world.members) o.threads ∷
    cpu_fault 0 j.world.lines o.cpus ∷
    end_fault (starting_time + total) o.now ∷ []
