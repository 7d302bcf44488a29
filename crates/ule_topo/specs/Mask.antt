-- Sets of CPUs as masks: bit c for CPU c.
use Rattle.std.specs.Prelude.{ℕ, zero, suc, ◌-◌, ◌^◌, Bool, not, ◌==◌, bit_and, List, [], ◌∷◌, ◌++◌}
use Rattle.std.specs.Int.{bit_at, bit_not, w16}

-- whether a CPU is in a mask
unfoldable pub has_cpu : ℕ → ℕ → Bool
has_cpu mask c = bit_at mask c == 1

-- the mask of the first n CPUs
abbrev pub all_cpus : ℕ → ℕ
all_cpus n = 2 ^ n - 1

-- a mask without a CPU
unfoldable pub without_cpu : ℕ → ℕ → ℕ
without_cpu c mask = bit_and mask (bit_not w16 (2 ^ c))

-- whether each CPU of a mask is in another one
unfoldable pub is_inside : ℕ → ℕ → Bool
is_inside inner outer = bit_and inner outer == inner

-- whether two masks have a CPU in common
unfoldable pub meets : ℕ → ℕ → Bool
meets one other = not (bit_and one other == 0)

-- the numbers below n, rising
unfoldable pub below : ℕ → List ℕ
below zero = []
below (suc n) = below n ++ n ∷ []
