use Rattle.std.proofs.Common.{◌≡◌, ◌++◌, take}
use Rattle.ule_scenario.proofs.draft.append_all.Given as goal

abbrev pub invariant-loop-w : goal.invariant-loop-w
invariant-loop-w l = l.turns ≡ l.fn.turns ++ take l.w-index l.more
