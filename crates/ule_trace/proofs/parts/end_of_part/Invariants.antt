use Rattle.std.proofs.Common.{◌≡◌, ◌+◌, drop}
use Rattle.std.specs.Prelude.{◌==◌}
use Rattle.std.specs.List.{position_or_len}
use Rattle.ule_trace.proofs.parts.end_of_part.Given as goal

-- the first separator is as far behind this byte as among the bytes from it on
abbrev pub invariant-loop-at : goal.invariant-loop-at
invariant-loop-at l = l.at + position_or_len (λ b. b == l.separator) (drop l.at l.text) ≡ position_or_len (λ b. b == l.separator) l.text
