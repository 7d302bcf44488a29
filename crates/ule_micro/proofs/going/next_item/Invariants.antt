use Rattle.std.proofs.Common.{◌≡◌, ◌-◌, ◌≤◌, length, drop}
use Rattle.ule_micro.specs.Programs.{CanBegin}
use Rattle.ule_micro.specs.Turns.{next_command}
use Rattle.ule_micro.proofs.going.next_item.Given as goal

-- what is left of the way to the next item is the same as before, and it may be gone
abbrev pub invariant-loop-order : goal.invariant-loop-order
invariant-loop-order g l = record {
  same : next_command (g.P.Parts.means l.parts) l.own l.begun (drop l.begun (g.P.Parts.orders l.parts l.worker))
      ≡ next_command (g.P.Parts.means l.parts) l.fn.own l.fn.begun (drop l.fn.begun (g.P.Parts.orders l.parts l.worker));
  low : l.begun ≤ length (g.P.Parts.orders l.parts l.worker);
  can : CanBegin (g.P.Parts.means l.parts) l.own (drop l.begun (g.P.Parts.orders l.parts l.worker));
}

abbrev pub decreases-loop-order : goal.decreases-loop-order
decreases-loop-order g l = length (g.P.Parts.orders l.parts l.worker) - l.begun
