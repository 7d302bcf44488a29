-- What a reader has read.
use Rattle.std.specs.Prelude.{ℕ, ◌≡◌, true, false, List}
use Rattle.ule_scenario.specs.FedKept.{HasFed}
use Rattle.ule_scenario.specs.ReaderValue.{ReaderValue}

-- a reader has read these bytes
pub record HasRead (r : ReaderValue) (bytes : List ℕ) : Type 0 where
  pub sound : r.broken ≡ false
  pub fed : HasFed r.count r.text bytes

-- memory ran out for a byte that a reader was given
abbrev pub IsBroken : ReaderValue → Type 0
IsBroken r = r.broken ≡ true
