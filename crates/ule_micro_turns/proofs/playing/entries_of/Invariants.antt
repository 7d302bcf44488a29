use Rattle.std.proofs.Common.{◌≤◌, ◌*◌}
use Rattle.ule_micro_turns.proofs.playing.entries_of.Given as goal

-- no turn of the plays so far made more than one entry
abbrev pub invariant-loop-play : goal.invariant-loop-play
invariant-loop-play l = (l.entries ≤ l.turns * l._play) × (l.turns * l._play ≤ 65536 * l._play)
