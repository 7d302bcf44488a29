-- Locks that a worker holds, each with the value under it, the lock that was taken last first.
use Rattle.std.specs.Prelude.{ℕ, ◌==◌, Bool, List, [], ◌∷◌, Option, Some, None, is_some, nat_lt, if◌then◌else◌}
use Rattle.ule_micro.specs.declared.entry.HeldLocks.{HeldLocks}
use Rattle.ule_micro.specs.declared.entry.HeldLocks.TheVariants.{One, Two}

module _ {G : Type 0} where
  -- value held: the value under a lock, if the lock is among those that are held
  abbrev pub value_held : List (ℕ × G) → ℕ → Option G
  value_held [] l = None
  value_held (x ∷ held) l = (if x.0 == l then Some x.1 else value_held held l)

  -- is held: whether a lock is among those that are held
  abbrev pub is_held : List (ℕ × G) → ℕ → Bool
  is_held held l = is_some (value_held held l)

  -- held but: what is held beside a lock
  abbrev pub held_but : ℕ → List (ℕ × G) → List (ℕ × G)
  held_but l [] = []
  held_but l (x ∷ held) = (if x.0 == l then held_but l held else x ∷ held_but l held)

-- in rising order: two locks, the lower one first
abbrev pub in_rising_order : ℕ → ℕ → HeldLocks
in_rising_order a b = (if nat_lt a b then Two a b else Two b a)

-- locks of: the one or two locks that are held, in rising order
abbrev pub locks_of : {G : Type 0} → List (ℕ × G) → Option HeldLocks
locks_of [] = None
locks_of (x ∷ []) = Some (One x.0)
locks_of (x ∷ y ∷ held) = Some (in_rising_order x.0 y.0)

module _ {G : Type 0} where
  -- held values: the values under the one or two locks that are held, in rising order of the locks
  abbrev pub held_values : List (ℕ × G) → List G
  held_values [] = []
  held_values (x ∷ []) = x.1 ∷ []
  held_values (x ∷ y ∷ held) = (if nat_lt x.0 y.0 then x.1 ∷ y.1 ∷ [] else y.1 ∷ x.1 ∷ [])

  -- held with: the same locks, with these values under them, in rising order of the locks
  abbrev pub held_with : List (ℕ × G) → List G → List (ℕ × G)
  held_with [] vs = []
  held_with (x ∷ []) [] = x ∷ []
  held_with (x ∷ []) (v ∷ vs) = (x.0, v) ∷ []
  held_with (x ∷ y ∷ held) [] = x ∷ y ∷ held
  held_with (x ∷ y ∷ held) (v ∷ []) = x ∷ y ∷ held
  held_with (x ∷ y ∷ held) (v ∷ u ∷ us) = (x.0, (if nat_lt x.0 y.0 then v else u)) ∷ (y.0, (if nat_lt x.0 y.0 then u else v)) ∷ held
