-- The word of a thread at the start, by the setup's threads alone.
use Rattle.std.specs.Prelude.{ℕ, List, find, ◌==◌}
use Rattle.std.specs.Option.{option_map}
use Rattle.ule_types.specs.declared.setup.ThreadSpec.{ThreadSpec}
use Rattle.ule_parts.specs.Scheduler.{lock_or_limbo}

-- declared word: the lock of the CPU on which one of these threads is declared, or limbo's for another number
abbrev pub declared_word : List ThreadSpec → ℕ → ℕ
declared_word specs t = lock_or_limbo (option_map (λ spec. spec.cpu) (find (λ spec. spec.id == t) specs))
