use Rattle.std.proofs.Common.{◌≡◌, min, take}
use Rattle.ule_text.specs.Numerals.{value_of_digits}
use Rattle.ule_trace.proofs.field.value_of.Given as goal

-- the value of the digits so far
abbrev pub invariant-loop-b : goal.invariant-loop-b
invariant-loop-b l = l.value ≡ min (value_of_digits (take l.b-index l.word)) 18446744073709551616
