use Rattle.std.proofs.Common.{◌≡◌, ◌+◌, nat_le, drop}
use Rattle.std.specs.List.{position_or_len}
use Rattle.ule_types.proofs.outcome.first_from.Given as goal

-- the place is as far behind this line as among the lines from it on
abbrev pub invariant-loop-at : goal.invariant-loop-at
invariant-loop-at l =
    l.at + position_or_len (λ m. nat_le l.id m.id) (drop l.at l.lines) ≡ position_or_len (λ m. nat_le l.id m.id) l.lines
