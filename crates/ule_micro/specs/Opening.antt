-- What the parts of the state are at the start.
use Rattle.std.specs.Prelude.{◌≡◌, ℕ, ◌<◌, List, length, Option, Some, None, slice_get, slice_index_or}
use Rattle.ule_micro.specs.declared.seat.Seat.{Seat}
use Rattle.ule_micro.specs.declared.word.Word.{Word}
use Rattle.ule_micro.specs.declared.word.Word.TheVariants.{Lock}
use Rattle.ule_micro.specs.Means.{Means}
use Rattle.ule_micro.specs.Turns.{seated, next_command}

-- are free locks: these many locks, all free
abbrev pub AreFreeLocks : ℕ → List (Option ℕ) → Type 0
AreFreeLocks n locks = (length locks ≡ n) × ((l : ℕ) → slice_index_or locks l None ≡ None)

module _ {H O G E R C : Type 0} (m : Means H O G E R C) where
  -- are first words: the words of the first n threads, each of which names the lock of its thread's place
  abbrev pub AreFirstWords : ℕ → List Word → Type 0
  AreFirstWords n words = (length words ≡ n) × ((t : ℕ) → t < n → slice_get words t ≡ Some (Lock (m.word t)))

  -- are first values: the values under the first n locks
  abbrev pub AreFirstValues : ℕ → List G → Type 0
  AreFirstValues n values = (length values ≡ n) × ((l : ℕ) → l < n → slice_get values l ≡ slice_get m.values l)

  -- with these commands of the workers
  module _ (orders : ℕ → List C) where
    -- is first seat: the worker has the first item of its program
    abbrev pub IsFirstSeat : ℕ → Seat O E R → Type 0
    IsFirstSeat w p = (o : O) × (slice_get m.owns w ≡ Some o) × (p ≡ seated m (next_command m o 0 (orders w)) 0 0)

    -- are first seats: the first n workers, each with the first item of its program
    abbrev pub AreFirstSeats : ℕ → List (Seat O E R) → Type 0
    AreFirstSeats n seats = (length seats ≡ n) × ((w : ℕ) (p : Seat O E R) → slice_get seats w ≡ Some p → IsFirstSeat w p)
