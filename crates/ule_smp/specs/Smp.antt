-- The shared scheduler of a setup, and the passes of its workers.
use Rattle.std.specs.Prelude.{◌≡◌, ◌≤◌, ℕ, true, List, [], reverse, length, Option, Some, slice_get}
use Rattle.atomic_table.specs.Seated.{TableId}
use Rattle.ule_score.specs.declared.record.ThreadRecord.{ThreadRecord}
use Rattle.ule_types.specs.declared.command.Command.{Command}
use Rattle.ule_types.specs.declared.event.Event.{Event}
use Rattle.ule_types.specs.declared.event.Reply.{Reply}
use Rattle.ule_types.specs.declared.setup.Setup.{Setup}
use Rattle.ule_model.specs.LockValue.{LockValue, has_under}
use Rattle.ule_parts.specs.Plays.{list_of}
use Rattle.ule_parts.specs.Scheduler.{budget_of, sched_means}
use Rattle.ule_parts.specs.Workers.{IsValid, Worker}
use Rattle.ule_seq.specs.StepStates.{place_under}
use Rattle.ule_words.specs.Passes.{PassState}
use Rattle.ule_words.specs.Workers.{taking}
use Rattle.ule_smp.specs.Rests.{IsAtRest}
use Rattle.ule_smp.specs.declared.hold.Held.{Held}

-- smp value: what a contract sees of a shared scheduler, which is its setup and the table of its words
pub record SmpValue : Type 0 where
  pub setup : Setup
  pub table : TableId

-- sched pass: what a contract sees of a pass of a worker of the scheduler
abbrev pub SchedPass : Type 0
SchedPass = PassState Worker (Option ThreadRecord) LockValue Event Reply

module _ (s : Setup) where
  -- rests after: the pass is at rest behind these commands, the newest first
  abbrev pub RestsAfter : List Command → SchedPass → Type 0
  RestsAfter given p = IsAtRest (sched_means s) given p

  -- can run: the pass is at rest behind these commands, and the command is valid behind them
  abbrev pub CanRun : List Command → Command → SchedPass → Type 0
  CanRun given c p = RestsAfter given p × IsValid s p.worker.number given c

  -- is fresh: a pass of this worker on this table, at the start, with the whole budget of its script
  pub record IsFresh (table : TableId) (w : ℕ) (p : SchedPass) : Type 0 where
    pub table_is : p.table ≡ table
    pub number : p.worker.number ≡ w
    pub rest : RestsAfter [] p
    pub left : p.worker.allowance ≡ budget_of s w

  -- are fresh: the passes of all workers on this table at the start, in rising number
  pub record AreFresh (table : TableId) (passes : List SchedPass) : Type 0 where
    pub count : length passes ≡ s.cpus
    pub each : (w : ℕ) (p : SchedPass) → slice_get passes w ≡ Some p → IsFresh table w p

  -- is done: a pass of this worker on this table, at rest behind the commands of its list
  pub record IsDone (table : TableId) (list : List Command) (w : ℕ) (p : SchedPass) : Type 0 where
    pub table_is : p.table ≡ table
    pub number : p.worker.number ≡ w
    pub rest : RestsAfter (reverse list) p

  -- are done: the passes of all workers on this table, in rising number, each at rest behind its list of commands; no other list has a command
  pub record AreDone (table : TableId) (lists : List (List Command)) (passes : List SchedPass) : Type 0 where
    pub count : length passes ≡ s.cpus
    pub each : (w : ℕ) (p : SchedPass) → slice_get passes w ≡ Some p → IsDone table (list_of lists w) w p
    pub others : (w : ℕ) → s.cpus ≤ w → list_of lists w ≡ []

-- has locked: the pass took the lock, and the thread's record is under it, in the value that the pass now holds, at this place
pub record HasLocked (t : ℕ) (p : SchedPass) (h : Held) (q : SchedPass) : Type 0 where
  pub value : LockValue
  pub after : q ≡ record p { worker = taking p.worker h.lock value }
  pub stands : has_under value t ≡ true
  pub place : place_under value t ≡ Some h.place
  pub thread : h.thread ≡ t
