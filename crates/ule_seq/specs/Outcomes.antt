-- What is told of a world at the end of a play.
use Rattle.std.specs.Prelude.{◌≡◌, ℕ, List, [], Option, Some, None}
use Rattle.std.specs.List.{filter_map}
use Rattle.ule_score.specs.declared.record.CpuLine.{CpuLine}
use Rattle.ule_types.specs.Outcome.{OutcomeValue}
use Rattle.ule_types.specs.declared.setup.Setup.{Setup}
use Rattle.ule_model.specs.Ends.{outcome_of}
use Rattle.ule_model.specs.Finals.{thread_lines}
use Rattle.ule_model.specs.LockValue.{LockValue, chain, limbo, nothing, queue}
use Rattle.ule_model.specs.Rounds.{play_of}
use Rattle.ule_model.specs.World.{World}
use Rattle.ule_model.specs.WorldValue.{Shows, WorldValue}

-- ---- the lines of the CPUs

-- the line of the CPU that a lock guards, if it guards one
abbrev pub queue_line : LockValue → Option CpuLine
queue_line (queue v) = Some v.line
queue_line (chain v) = None
queue_line (limbo v) = None
queue_line nothing = None

-- the lines of the CPUs that these locks guard, in the order of the locks
abbrev pub queue_lines : List LockValue → List CpuLine
queue_lines values = filter_map queue_line values

-- ---- outcomes

-- an outcome has no final lines yet
pub record IsBare (o : OutcomeValue) : Type 0 where
  pub threads : o.threads ≡ []
  pub cpus : o.cpus ≡ []

-- an outcome has the final lines of a world at a time
pub record HasLines (o : OutcomeValue) (w : World) (time : ℕ) : Type 0 where
  pub threads : o.threads ≡ thread_lines w.members
  pub cpus : o.cpus ≡ w.lines
  pub end : o.now ≡ time

-- the new outcome has the entries of the old, and the final lines of each world that the scheduler shows
pub record HasFinals (v : WorldValue) (old new : OutcomeValue) (time : ℕ) : Type 0 where
  pub entries : new.entries ≡ old.entries
  pub lines : (w : World) → Shows v w → HasLines new w time

-- an outcome is that of the play of a setup in rounds, whatever room it has left
abbrev pub IsOutcomeOf : Setup → OutcomeValue → Type 0
IsOutcomeOf s o = record o { room = 0 } ≡ outcome_of s s.scripts (play_of s).entries
