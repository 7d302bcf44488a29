-- Tables with a slot for each thread number.
use Rattle.std.specs.Prelude.{ℕ, ◌-◌, List, ◌++◌, length, replicate, Option, None}

-- the slots of all 256 numbers, where those behind these ones are empty
abbrev pub all_slots : {X : Type 0} → List (Option X) → List (Option X)
all_slots slots = slots ++ replicate (256 - length slots) None
