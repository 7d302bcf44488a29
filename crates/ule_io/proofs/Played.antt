-- A read from memory is a read.
use Rattle.std.proofs.Common.{◌≡◌, ℕ, ◌+◌, ◌<◌, ◌≤◌, List, ◌++◌, length, take, drop, min, Some, refl, sym, ap, arith}
use Rattle.std.proofs.lemmas.Grind.{common_steps}
use Rattle.std.proofs.lemmas.List.{take-append-drop, take_at, length-take-le, drop-drop}
use Rattle.ule_io.specs.Source.{Reads}
use Rattle.ule_io.specs.Playback.{ends_after}

-- the first n of the bytes left went to the front of the buffer, as many as most, buffer and bytes allow
reads_front : (left buffer : List ℕ) (most n faults ends : ℕ) → 0 < most → n ≡ min (min most (length buffer)) (length left) →
    Reads (record { left = Some left; faults = faults; ends = ends }) (record { left = Some (drop n left); faults = faults; ends = ends_after ends (length buffer) n }) (take n left ++ drop n buffer) n
reads_front left buffer most n faults ends some is =
    let fits : n ≤ length left = omega arith in
    let front : length (take n left) ≡ n = length-take-le n left fits in
    record {
      within = grind (arith, common_steps);
      given = ap (λ xs. Some xs) (sym (rw (take_at (take n left) (drop n buffer) n front) (take-append-drop n left)));
      end = λ none room rest e. grind (arith, common_steps);
      met_end = λ none room. grind (arith, common_steps);
      else_open = λ moved. grind (arith, common_steps);
      no_room = λ none. grind (arith, common_steps);
      faults = refl;
    }

-- the first n of the bytes behind a place went to the front of the buffer, as many as most, buffer and those bytes allow
pub reads_on : (bytes buffer : List ℕ) (next most n faults ends : ℕ) → 0 < most → n ≡ min (min most (length buffer)) (length (drop next bytes)) →
    Reads (record { left = Some (drop next bytes); faults = faults; ends = ends }) (record { left = Some (drop (next + n) bytes); faults = faults; ends = ends_after ends (length buffer) n }) (take n (drop next bytes) ++ drop n buffer) n
reads_on bytes buffer next most n faults ends some is =
    rw (← drop-drop n next bytes) (reads_front (drop next bytes) buffer most n faults ends some is)
