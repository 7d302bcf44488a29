use Rattle.std.proofs.Common.{◌≡◌, ◌++◌, List, ℕ, length}
use Rattle.ule_scenario.specs.FedKept.{HasFed}
use Rattle.ule_scenario.proofs.fed.Fed.feed.Given as goal

-- the lines so far were read, and the rest is left
abbrev pub invariant-loop-line : goal.invariant-loop-line
invariant-loop-line l = record {
  done : List ℕ;
  whole : done ++ l.rest ≡ l.piece;
  fed : (bytes : List ℕ) → HasFed l.fn.self.count l.fn.self.text bytes → HasFed l.self.count l.self.text (bytes ++ done);
}

abbrev pub decreases-loop-line : goal.decreases-loop-line
decreases-loop-line l = length l.rest
