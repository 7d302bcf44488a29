-- What one lock guards, as a value: a CPU, a sleep chain, limbo, or nothing where the CPU of its number
-- isn't there; and the look-ups in it.
use Rattle.std.specs.Prelude.{ℕ, is_some, Bool, Option, None, option_and_then}
use Rattle.std.specs.Option.{option_map}
use Rattle.ule_sleep.specs.Chain.{ChainValue, standing_in}
use Rattle.ule_sleep.specs.Limbo.{LimboValue}
use Rattle.ule_threads.specs.declared.standing.Standing.{Standing}
use Rattle.ule_types.specs.declared.outcome.ThreadLine.{ThreadLine}
use Rattle.ule_model.specs.CpuValue.{CpuValue, thread_in, value_line, value_place}
use Rattle.ule_model.specs.Finals.{line_of}

pub data LockValue : Type 0 where
  -- lock c: CPU c's threads
  queue : CpuValue → LockValue
  -- lock 16 + k: the sleepers of chain k
  chain : ChainValue → LockValue
  -- lock 24: the unborn and the gone threads
  limbo : LimboValue → LockValue
  -- the lock of a CPU that there isn't
  nothing : LockValue

-- ---- look-ups

-- thread t with its place, if it is on the CPU
abbrev pub found_on : CpuValue → ℕ → Option Standing
found_on v t = option_and_then (λ r. option_map (λ at. record { thread = r; place = at.0 }) (value_place v t)) (thread_in v t)

-- thread t with its place, if it is under this lock
abbrev pub found_in : LockValue → ℕ → Option Standing
found_in (queue v) t = found_on v t
found_in (chain v) t = standing_in v.slots t
found_in (limbo v) t = standing_in v.slots t
found_in nothing t = None

-- whether thread t is under this lock
abbrev pub has_under : LockValue → ℕ → Bool
has_under (queue v) t = is_some (thread_in v t)
has_under (chain v) t = is_some (standing_in v.slots t)
has_under (limbo v) t = is_some (standing_in v.slots t)
has_under nothing t = Bool.false

-- the final line of a thread that stands on no CPU
abbrev pub standing_line : Standing → ThreadLine
standing_line s = line_of s.thread s.place 0

-- the final line of thread t, if it is under this lock
abbrev pub line_under : LockValue → ℕ → Option ThreadLine
line_under (queue v) t = value_line v t
line_under (chain v) t = option_map standing_line (standing_in v.slots t)
line_under (limbo v) t = option_map standing_line (standing_in v.slots t)
line_under nothing t = None
