use Rattle.std.proofs.Common.{◌≡◌, ◌++◌, List, ℕ, length}
use Rattle.ule_scenario.proofs.Fronts.{IsOpen}
use Rattle.ule_scenario.proofs.front.front_length.Given as goal

-- the scenario hasn't ended with the lines so far, and the rest is left
abbrev pub invariant-loop-line : goal.invariant-loop-line
invariant-loop-line l = record { done : List ℕ; whole : done ++ l.rest ≡ l.text; opened : IsOpen done }

abbrev pub decreases-loop-line : goal.decreases-loop-line
decreases-loop-line l = length l.rest
