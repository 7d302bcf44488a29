-- How a text goes out behind bytes that are held back.
use Rattle.std.specs.Prelude.{ℕ, List, ◌++◌, Result, Ok, Err}
use Rattle.ule_io.specs.Sink.{SinkState, WroteWhole}
use Rattle.ule_io.specs.declared.writing.WriteFault.{WriteFault}
use Rattle.ule_trace.specs.Held.{Moves}

-- a text behind what was held: a front of both was written, and the rest is left; after a fault a front of both was written
abbrev pub HasSent : SinkState → SinkState → List ℕ → List ℕ → List ℕ → Result Unit WriteFault → Type 0
HasSent old new held text left (Ok u) = Moves old new (held ++ text) left (Ok u)
HasSent old new held text left (Err e) = WroteWhole old new (held ++ text) (Err e)
