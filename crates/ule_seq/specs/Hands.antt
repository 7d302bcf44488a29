-- Whether a thread is the one in a hand.
use Rattle.std.specs.Prelude.{ℕ, Bool, false, ◌==◌, Option, Some, None}
use Rattle.ule_score.specs.declared.record.ThreadRecord.{ThreadRecord}

-- whether this is thread t
abbrev pub is_held : Option ThreadRecord → ℕ → Bool
is_held None t = false
is_held (Some r) t = r.id == t
