-- Where a worker stands in its program, what it began and made so far, and what an event of it leaves.
use Rattle.std.specs.Prelude.{ℕ, List, [], ◌∷◌, Option, Some, None}
use Rattle.ule_micro.specs.declared.entry.Entry.{Entry}
use Rattle.ule_micro.specs.declared.todo.Todo.{Todo}

-- standing: a worker is to ask for its next item, telling the reply and the time of the event before it if it was one, or it has an item, or the command that it began last has no further item
pub data Standing (E R : Type 0) : Type 0 where
  asks : Option (R × ℕ) → Standing E R
  has : Todo E → Standing E R
  rests : Standing E R

-- standing with: where a worker stands that was given this item, if any
abbrev pub standing_with : {E R : Type 0} → Option (Todo E) → Standing E R
standing_with None = rests
standing_with (Some x) = has x

-- acted: what an event leaves in the hand and in values, and its reply
pub record Acted (H G R : Type 0) : Type 0 where
  pub hand : H
  pub values : List G
  pub reply : R

-- journal: the commands that a worker began and the entries that it made so far, the newest first
pub record Journal (E R C : Type 0) : Type 0 where
  pub given : List C
  pub mine : List (Entry E R)

module _ {E R C : Type 0} where
  -- blank: nothing was begun and nothing made
  abbrev pub blank : Journal E R C
  blank = record { given = []; mine = [] }

  -- with given: one more command was begun
  abbrev pub with_given : C → Journal E R C → Journal E R C
  with_given c j = record { given = c ∷ j.given; mine = j.mine }

  -- with made: one more entry was made
  abbrev pub with_made : Entry E R → Journal E R C → Journal E R C
  with_made x j = record { given = j.given; mine = x ∷ j.mine }
