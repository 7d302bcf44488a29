use Rattle.std.proofs.Common.{ℕ, ◌-◌, ◌/◌, ◌≤◌, min, max, arith}
use Rattle.std.proofs.Math.Nat.{mul-le-mul_left, div-le_self}
use Rattle.std.proofs.lemmas.Nat.{le-div}
use Rattle.ule_slice.specs.Slice.{min_slice_of, slice_of, SliceIsBounded}

-- a share among 1 to 6 is at least a sixth
sixth-le : (full parts : ℕ) → 1 ≤ parts → parts ≤ 6 → full / 6 ≤ full / parts
sixth-le full parts some few = le-div (full / 6) full parts some (omega (arith, mul-le-mul_left (full / 6) few))

-- a slice lies between the least one, which is not 0, and the full one
pub slice_of-bounds : SliceIsBounded
unfolding min_slice_of slice_of
slice_of-bounds load full some =
    let parts : ℕ = min 6 (max 1 (load - 1)) in
    (omega arith, sixth-le full parts (omega arith) (omega arith), div-le_self full parts)
