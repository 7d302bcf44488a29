use Rattle.std.proofs.Common.{◌≡◌, ◌+◌, ◌*◌, ◌≤◌, ◌++◌, length, map, take}
use Rattle.std.specs.Fmt.{decimal}
use Rattle.ule_trace.specs.Line.{spaced}
use Rattle.ule_plain.proofs.line.spell_turns.Given as goal

-- the turns so far stand behind what was held
abbrev pub invariant-loop-w : goal.invariant-loop-w
invariant-loop-w l = record {
  text : l.held ≡ l.initial.held ++ spaced (map decimal (take l.w-index l.turns));
  growth : length l.held ≤ length l.initial.held + 4 * l.w-index;
}
