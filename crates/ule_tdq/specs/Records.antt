-- What becomes of a record whose thread leaves its CPU.
use Rattle.std.specs.Prelude.{Bool, true, false}
use Rattle.ule_score.specs.Changes.{RecordChange, ran, sleeps}

-- a thread that goes to sleep notes when
abbrev pub leaving : Bool → RecordChange
leaving true = sleeps
leaving false = ran
