-- A reader as its fields have it.
use Rattle.std.specs.Prelude.{ℕ, ◌≡◌, false, List}
use Rattle.ule_scenario.specs.ReaderValue.{ReaderValue}
use Rattle.ule_scenario.specs.FedKept.{HasFed}
use Rattle.ule_scenario.specs.declared.reader.Reader.TheInside.{Inside}

-- what the fields show of a reader
abbrev pub reader_shown : Inside → ReaderValue
reader_shown a = record { count = a.fed.count; text = a.fed.text; broken = a.broken }

-- a reader has read some bytes, unless memory ran out
abbrev pub HasSome : Inside → Type 0
HasSome a = a.broken ≡ false → (bytes : List ℕ) × HasFed a.fed.count a.fed.text bytes
