-- Counts of a u64, as sources and sinks keep them: they stand still at the type's last value.
use Rattle.std.specs.Prelude.{◌≡◌, ℕ, ◌+◌, ◌-◌, ◌^◌, ◌<◌, min, ◌⊎◌}

-- the last value of a count
abbrev pub last_count : ℕ
last_count = 2 ^ 64 - 1

-- the count after one more
abbrev pub one_more : ℕ → ℕ
one_more n = min (n + 1) last_count

-- the count rose, or stands at its last value, which counts as risen; so it didn't fall
abbrev pub Rose : ℕ → ℕ → Type 0
Rose old new = (old < new) ⊎ ((old ≡ last_count) × (new ≡ last_count))
