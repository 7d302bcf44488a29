-- A reading as its fields have it.
use Rattle.std.specs.Prelude.{◌≡◌, ◌+◌, ◌≤◌, length}
use Rattle.ule_trace.specs.Reading.{Reading}
use Rattle.ule_trace.specs.declared.reading.Reading.TheInside.{Inside}

-- what the fields show
abbrev pub reading_shown : Inside → Reading
reading_shown a = record { place = a.place; entries = a.outcome.entries; threads = a.outcome.threads; cpus = a.outcome.cpus; now = a.outcome.now }

-- there is room for 65,536 entries in all; the place is that of a line; there is no more than a line of each thread and CPU
pub record KeepsRoom (a : Inside) : Type 0 where
  pub room : length a.outcome.entries + a.outcome.room ≡ 65536
  pub place : a.place ≤ 5
