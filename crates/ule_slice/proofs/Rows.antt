-- Worked values of the slice, by computing.
use Rattle.std.proofs.Common.{◌≡◌, refl}
use Rattle.ule_slice.specs.Slice.{min_slice_of, slice_of}

-- a thread that is alone on its CPU, or not counted there yet, has the full slice of 12
full_slice : (slice_of 0 12 ≡ 12) × (slice_of 1 12 ≡ 12)
unfolding slice_of
full_slice = (refl, refl)

-- three threads have half of the full slice of 12, since each shares with two others
shared_slice : slice_of 3 12 ≡ 6
unfolding slice_of
shared_slice = refl

-- six threads have a fifth of the full slice of 12, rounded down, which is the sixth that seven have
least_slices : (slice_of 6 12 ≡ 2) × (slice_of 7 12 ≡ 2)
unfolding slice_of
least_slices = (refl, refl)

-- the least slice is a sixth of the full one of 12
least_of_twelve : min_slice_of 12 ≡ 2
unfolding min_slice_of
least_of_twelve = refl
