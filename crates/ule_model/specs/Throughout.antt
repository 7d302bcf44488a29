-- What holds all along a history: of each world in it, or of each entry and the world before it.
use Rattle.std.specs.Prelude.{List, [], ◌∷◌}
use Rattle.ule_types.specs.declared.event.Entry.{Entry}
use Rattle.ule_model.specs.Legal.{after_entry}
use Rattle.ule_model.specs.World.{World}

-- what holds of a world, and of the world after each of these entries
unfoldable pub HoldsThroughout : (World → Type 0) → World → List Entry → Type 0
HoldsThroughout P w [] = P w
HoldsThroughout P w (e ∷ es) = P w × HoldsThroughout P (after_entry w e) es

-- what holds of each of these entries and the world before it
unfoldable pub HoldsOfEach : (World → Entry → Type 0) → World → List Entry → Type 0
HoldsOfEach P w [] = Unit {0}
HoldsOfEach P w (e ∷ es) = P w e × HoldsOfEach P (after_entry w e) es
