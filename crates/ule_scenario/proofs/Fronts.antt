-- A front of a text, line by line.
use Rattle.std.proofs.Common.{◌≡◌, ℕ, ◌+◌, ◌-◌, ◌==◌, true, false, List, [], ◌∷◌, ◌++◌, length, fold, refl, sym, ap, ◌∙◌, append_assoc, arith}
use Rattle.std.specs.List.{list_any}
use Rattle.std.proofs.lemmas.Bool.{or_parts}
use Rattle.std.proofs.lemmas.Grind.{fold-append}
use Rattle.std.proofs.lemmas.List.{append-nil, length-append}
use Rattle.ule_scenario.specs.FirstLine.{is_newline}
use Rattle.ule_scenario.specs.Front.{FrontSoFar, after_front, front_length, is_end_line, no_front}

-- a scenario that has ended goes on no more
ended_stays : (s : FrontSoFar) (bytes : List ℕ) → s.ended ≡ true → fold after_front s bytes ≡ s
ended_stays s [] e = refl
ended_stays s (b ∷ bytes) e = ap (λ (u : FrontSoFar). fold after_front u bytes) (rw e refl) ∙ ended_stays s bytes e

-- bytes that end no line
open_line : (n : ℕ) (line more : List ℕ) → list_any is_newline more ≡ false →
    fold after_front (record { count = n; line = line; ended = false }) more ≡ record { count = n + length more; line = line ++ more; ended = false }
open_line n line [] none = rw (append-nil line) (ap (λ (k : ℕ). record { count = k; line = line; ended = false }) (omega arith))
open_line n line (b ∷ more) none =
    let parts = or_parts (b == 10) (list_any is_newline more) none in
    let s : FrontSoFar = record { count = n; line = line; ended = false } in
    let t : FrontSoFar = record { count = n + 1; line = line ++ b ∷ []; ended = false } in
    let one : after_front s b ≡ t = rw parts.0 refl in
    let size : n + 1 + length more ≡ n + length (b ∷ more) = omega arith in
    ap (λ (u : FrontSoFar). fold after_front u more) one ∙ open_line (n + 1) (line ++ b ∷ []) more parts.1
    ∙ ap (λ (l : List ℕ). record { count = n + 1 + length more; line = l; ended = false }) (append_assoc line (b ∷ []) more)
    ∙ ap (λ (k : ℕ). record { count = k; line = line ++ b ∷ more; ended = false }) size

-- the scenario hasn't ended with some lines
pub record IsOpen (done : List ℕ) : Type 0 where
  pub is : fold after_front no_front done ≡ record { count = length done; line = []; ended = false }

-- none
pub open_none : IsOpen []
open_none = record { is = refl }

-- some lines and one more
one_more : (done line : List ℕ) → IsOpen done → list_any is_newline line ≡ false → fold after_front no_front (done ++ (line ++ 10 ∷ [])) ≡ record { count = length done + length line + 1; line = []; ended = is_end_line line }
one_more done line o none =
    let s : FrontSoFar = record { count = length done; line = []; ended = false } in
    fold-append after_front no_front done (line ++ 10 ∷ [])
    ∙ ap (λ (u : FrontSoFar). fold after_front u (line ++ 10 ∷ [])) o.is
    ∙ fold-append after_front s line (10 ∷ [])
    ∙ ap (λ (u : FrontSoFar). fold after_front u (10 ∷ [])) (open_line (length done) [] line none)

-- the size of lines with one more
size_more : (done line : List ℕ) → length (done ++ (line ++ 10 ∷ [])) ≡ length done + length line + 1
size_more done line = omega (arith, length-append done (line ++ 10 ∷ []), length-append line (10 ∷ []))

-- a line that isn't `end`
pub open_more : (done line : List ℕ) → IsOpen done → list_any is_newline line ≡ false → is_end_line line ≡ false → IsOpen (done ++ (line ++ 10 ∷ []))
open_more done line o none other = record {
  is = one_more done line o none ∙ rw (other, size_more done line) refl;
}

-- a line `end`
pub ends_there : (text done line behind : List ℕ) → IsOpen done → list_any is_newline line ≡ false → is_end_line line ≡ true → (done ++ (line ++ 10 ∷ [])) ++ behind ≡ text → front_length text ≡ length text - length behind
ends_there text done line behind o none ends whole =
    let s : FrontSoFar = record { count = length done + length line + 1; line = []; ended = true } in
    let at : fold after_front no_front (done ++ (line ++ 10 ∷ [])) ≡ s = one_more done line o none ∙ rw ends refl in
    let front : front_length text ≡ length done + length line + 1 =
    ap (λ (u : FrontSoFar). u.count)
    (ap (fold after_front no_front) (sym whole) ∙ fold-append after_front no_front (done ++ (line ++ 10 ∷ [])) behind
    ∙ ap (λ (u : FrontSoFar). fold after_front u behind) at ∙ ended_stays s behind refl) in
    let size : length text ≡ length (done ++ (line ++ 10 ∷ [])) + length behind = ap length (sym whole) ∙ length-append (done ++ (line ++ 10 ∷ [])) behind in
    omega (arith, front, size, size_more done line)

-- a text without a line `end`
pub ends_nowhere : (text done rest : List ℕ) → IsOpen done → list_any is_newline rest ≡ false → done ++ rest ≡ text → front_length text ≡ length text
ends_nowhere text done rest o none whole =
    ap (λ (u : FrontSoFar). u.count)
    (ap (fold after_front no_front) (sym whole) ∙ fold-append after_front no_front done rest
    ∙ ap (λ (u : FrontSoFar). fold after_front u rest) o.is ∙ open_line (length done) [] rest none)
    ∙ sym (ap length (sym whole) ∙ length-append done rest)
