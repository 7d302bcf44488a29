use Rattle.std.proofs.Common.{◌≡◌, length}
use Rattle.ule_trace.specs.Reading.{read_bytes, read_lines}
use Rattle.ule_trace.proofs.reading.read_trace.Given as goal

-- what is left says of the lines so far what the bytes spell
abbrev pub invariant-loop-part : goal.invariant-loop-part
invariant-loop-part l = read_lines l.reading l.parts ≡ read_bytes l.bytes

-- each round takes a part
abbrev pub decreases-loop-part : goal.decreases-loop-part
decreases-loop-part l = length l.parts
