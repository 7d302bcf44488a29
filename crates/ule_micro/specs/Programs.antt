-- When a worker may go through its commands, up to its next item.
use Rattle.std.specs.Prelude.{◌≡◌, ℕ, List, [], ◌∷◌, Option, None}
use Rattle.ule_micro.specs.Means.{Means}

module _ {H O G E R C : Type 0} (m : Means H O G E R C) where
  -- can begin: each of these commands may begin, as long as those before it had no item
  abbrev pub CanBegin : O → List C → Type 0
  CanBegin own [] = Unit {0}
  CanBegin own (c ∷ cs) = m.begins own c × m.goes_on (m.begin own c) None × ((m.next (m.begin own c) None).0 ≡ None → CanBegin (m.next (m.begin own c) None).1 cs)

  -- can go on: the next item may be asked for, and if there is none these commands may begin
  abbrev pub CanGoOn : O → Option (R × ℕ) → List C → Type 0
  CanGoOn own told orders = m.goes_on own told × ((m.next own told).0 ≡ None → CanBegin (m.next own told).1 orders)
