-- Threads that are marked in a table by number.
use Rattle.std.specs.Prelude.{ℕ, ◌≡◌, Bool, false, List, length, slice_index_or}
use Rattle.ule_types.specs.Commands.{is_among}

-- the table marks these threads and no others
pub record AreMarks (table : List Bool) (ids : List ℕ) : Type 0 where
  pub size : length table ≡ 256
  pub each : (t : ℕ) → slice_index_or table t false ≡ is_among ids t
