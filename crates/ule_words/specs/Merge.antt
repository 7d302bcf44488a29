-- The passes' own lists of entries, of which each worker's is its part of one history.
use Rattle.std.specs.Prelude.{◌≡◌, ℕ, ◌+◌, ◌-◌, ◌<◌, ◌==◌, List, [], ◌∷◌, ◌++◌, length, Some, slice_get, if◌then◌else◌}
use Rattle.ule_micro.specs.Shared.{Stamped}
use Rattle.ule_words.specs.declared.log.Numbered.{Numbered}

module _ {E R : Type 0} where
  -- in order: the entries of a history with their numbers, the oldest first
  abbrev pub in_order : List (Stamped E R) → List (Numbered E R)
  in_order [] = []
  in_order (x ∷ h) = in_order h ++ record { number = length h + 1; entry = x.entry } ∷ []

  -- only: those of one worker
  abbrev pub only : ℕ → List (Numbered E R) → List (Numbered E R)
  only w [] = []
  only w (x ∷ es) = (if x.entry.worker == w then x ∷ only w es else only w es)

  -- are numbered from: their numbers rise by one, from this one on
  abbrev pub AreNumberedFrom : ℕ → List (Numbered E R) → Type 0
  AreNumberedFrom a [] = Unit {0}
  AreNumberedFrom a (x ∷ es) = (x.number ≡ a) × AreNumberedFrom (a + 1) es

  -- is dealt: of the entries that stand behind the number k each tape has those of one of n workers, the last worker's first
  pub record IsDealt (n k : ℕ) (es : List (Numbered E R)) (tapes : List (List (Numbered E R))) : Type 0 where
    pub count : length tapes ≡ n
    pub rising : AreNumberedFrom (k + 1) es
    pub makers : (j : ℕ) (x : Numbered E R) → slice_get es j ≡ Some x → x.entry.worker < n
    pub dealt : (j : ℕ) (tape : List (Numbered E R)) → slice_get tapes j ≡ Some tape → tape ≡ only (n - (j + 1)) es

  -- begins with: the first entry of a tape has this number
  abbrev pub BeginsWith : ℕ → List (Numbered E R) → Type 0
  BeginsWith number tape = (x : Numbered E R) × (rest : List (Numbered E R)) × (tape ≡ x ∷ rest) × (x.number ≡ number)
