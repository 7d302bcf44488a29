use Rattle.std.proofs.Common.{◌++◌, List, ℕ, take}
use Rattle.ule_scenario.specs.FedKept.{HasFed}
use Rattle.ule_scenario.proofs.fed.Fed.push_all.Given as goal

abbrev pub invariant-loop-b : goal.invariant-loop-b
invariant-loop-b l = (bytes : List ℕ) → HasFed l.fn.self.count l.fn.self.text bytes → HasFed l.self.count l.self.text (bytes ++ take l.b-index l.more)
