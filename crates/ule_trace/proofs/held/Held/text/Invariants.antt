-- The bytes so far stand behind what was held.
use Rattle.std.proofs.Common.{◌≡◌, ◌++◌, take}
use Rattle.ule_trace.proofs.held.Held.text.Given as goal

abbrev pub invariant-loop-b : goal.invariant-loop-b
invariant-loop-b l = l.self ≡ l.initial.self ++ take l.b-index l.bytes
