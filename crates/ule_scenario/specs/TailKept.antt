-- What is kept of the words of a line of which there may be many: the turns of a line of turns, the CPUs of a group.
use Rattle.std.specs.Prelude.{ℕ, ◌+◌, min, max, nat_lt, Option, Some, None, List, [], ◌∷◌, length, map, fold, take}
use Rattle.ule_scenario.specs.Forms.{num, nums, number_fault, first_fault, cpu_faults}
use Rattle.ule_scenario.specs.Effects.{bits_of}
use Rattle.ule_scenario.specs.TailValue.{TurnsValue}
use Rattle.ule_scenario.specs.declared.token.Token.{Token}
use Rattle.ule_scenario.specs.declared.tail.CpuTail.{CpuTail}

-- the greatest of some numbers, 0 of none
abbrev pub most_of : List ℕ → ℕ
most_of ns = fold max 0 ns

-- the first k of some numbers, 255 in place of a greater one
unfoldable pub first_clamped : ℕ → List ℕ → List ℕ
first_clamped k ns = take k (map (λ n. min n 255) ns)

-- the first 4,097
abbrev pub clamped : List ℕ → List ℕ
clamped ns = first_clamped 4097 ns

-- what is kept of turns
unfoldable pub turns_kept : List Token → TurnsValue
turns_kept ts = record { any = nat_lt 0 (length ts); fault = first_fault (map (number_fault 0 15) ts); most = most_of (nums ts); first = clamped (nums ts) }

-- the least CPU that may come after these
abbrev pub next_cpu : ℕ → List Token → ℕ
next_cpu from ts = fold (λ n t. num (t ∷ []) 0 + 1) from ts

-- the bits of CPUs, or none where there is a reason against them
abbrev pub bits_unless : Option ℕ → List ℕ → ℕ
bits_unless None cpus = bits_of cpus
bits_unless (Some n) cpus = 0

-- what is kept of CPUs
unfoldable pub cpus_kept : List Token → CpuTail
cpus_kept ts = record {
  fault = first_fault (cpu_faults 0 ts);
  any = nat_lt 0 (length ts);
  next = next_cpu 0 ts;
  most = most_of (nums ts);
  bits = bits_unless (first_fault (cpu_faults 0 ts)) (nums ts);
}
