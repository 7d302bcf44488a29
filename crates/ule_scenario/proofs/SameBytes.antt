-- Two texts of one length that have the same byte at each place.
use Rattle.std.proofs.Common.{◌≡◌, ℕ, ◌<◌, true, List, length, sym, subst, slice_index}
use Rattle.std.specs.Prelude.{bytes_eq}
use Rattle.std.proofs.lemmas.List.{ext_get_or}
use Rattle.std.proofs.lemmas.Slice.Eq.{bytes_eq-Decides}

-- they are equal
pub same_bytes : (xs ys : List ℕ) → length xs ≡ length ys → ((k : ℕ) → k < length ys → slice_index xs k ≡ slice_index ys k) → true ≡ bytes_eq xs ys
same_bytes xs ys long same =
    sym ((bytes_eq-Decides xs ys).1 (ext_get_or 0 xs ys long (λ k below. same k (subst (λ (n : ℕ). k < n) long below))))
