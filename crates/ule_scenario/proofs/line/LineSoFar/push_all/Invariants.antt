use Rattle.std.proofs.Common.{◌≡◌, ◌++◌, List, ℕ, take}
use Rattle.ule_scenario.specs.WordsKept.{line_kept}
use Rattle.ule_scenario.proofs.line.LineSoFar.push_all.Given as goal

abbrev pub invariant-loop-b : goal.invariant-loop-b
invariant-loop-b l = (bytes : List ℕ) → l.fn.self ≡ line_kept bytes → l.self ≡ line_kept (bytes ++ take l.b-index l.more)
