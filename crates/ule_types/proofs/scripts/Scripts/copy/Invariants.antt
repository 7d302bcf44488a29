-- The copies are of the scripts so far.
use Rattle.std.proofs.Common.{◌≡◌, take, vec_len}
use Rattle.ule_types.proofs.scripts.Scripts.copy.Given as goal

abbrev pub invariant-loop-script : goal.invariant-loop-script
invariant-loop-script l = (l.scripts.items ≡ take l.script-index l.self) × (vec_len l.scripts ≡ l.script-index)
