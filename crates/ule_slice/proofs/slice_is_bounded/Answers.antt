use Rattle.ule_slice.proofs.SliceLemmas.{slice_of-bounds}
use Rattle.ule_slice.proofs.slice_is_bounded.Goals as goal

pub returns : goal.returns
returns c = slice_of-bounds
