-- What giving a whole source to a reader comes to.
use Rattle.std.specs.Prelude.{ℕ, List, ◌++◌, Result, Ok, Err}
use Rattle.ule_io.specs.Source.{SourceState, ReadAll}
use Rattle.ule_io.specs.declared.reading.ReadAllFault.{ReadAllFault}
use Rattle.ule_scenario.specs.ReaderKept.{HasRead}
use Rattle.ule_scenario.specs.ReaderValue.{ReaderValue}

-- the source is read to its end, up to a limit; where it was, the reader has read what was left of it behind what it had read before
abbrev pub FeedsAll : SourceState → SourceState → ℕ → ReaderValue → ReaderValue → Result Unit ReadAllFault → Type 0
FeedsAll old new limit r0 r1 (Ok u) =
    (bytes : List ℕ) × ReadAll old new limit (Ok bytes) × ((before : List ℕ) → HasRead r0 before → HasRead r1 (before ++ bytes))
FeedsAll old new limit r0 r1 (Err e) = ReadAll old new limit (Err e)
