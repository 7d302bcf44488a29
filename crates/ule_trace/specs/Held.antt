-- Bytes that are held back until they are written.
use Rattle.std.specs.Prelude.{◌≡◌, List, ℕ, ◌++◌, Result}
use Rattle.ule_io.specs.Sink.{SinkState, WroteWhole}
use Rattle.ule_io.specs.declared.writing.WriteFault.{WriteFault}

-- what is held loses the front that was written
pub record Moves (old new : SinkState) (held left : List ℕ) (result : Result Unit WriteFault) : Type 0 where
  pub moved : List ℕ
  pub parts : held ≡ moved ++ left
  pub written : WroteWhole old new moved result
