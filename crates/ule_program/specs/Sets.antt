-- How many CPUs a mask has.
use Rattle.std.specs.Prelude.{ℕ, zero, suc, ◌+◌, Bool, true, false}
use Rattle.ule_topo.specs.Mask.{has_cpu}

-- 1 where it is so
abbrev pub one_if : Bool → ℕ
one_if true = 1
one_if false = 0

-- how many of the first n CPUs a mask has
unfoldable pub cpus_in : ℕ → ℕ → ℕ
cpus_in zero mask = 0
cpus_in (suc n) mask = cpus_in n mask + one_if (has_cpu mask n)
