-- What is read of one more line, and of the last.
use Rattle.std.proofs.Common.{◌≡◌, ℕ, ◌+◌, true, false, List, [], ◌∷◌, ◌++◌, length, refl, arith, rules, nat_lt, ◌≤◌}
use Rattle.std.specs.Prelude.{Some, None, Ok, Err, ◌==◌, ◌&&◌, if◌then◌else◌, filter}
use Rattle.std.specs.List.{list_all}
use Rattle.std.proofs.lemmas.Bool.{and_parts}
use Rattle.ule_trace.specs.Reading.{Reading, after_line, is_behind_header, lines_in, read_lines, with_thread}
use Rattle.ule_types.proofs.Placed.{length-le_from_rising}
use Rattle.ule_types.specs.Outcome.{placed, RisesFrom}
use Rattle.ule_types.specs.declared.outcome.ThreadLine.{ThreadLine}

-- no part: that doesn't come, and counts as a line that is missing
pub read_none : (r : Reading) → read_lines r [] ≡ Err (lines_in r + 1)
unfolding read_lines
read_none r = refl

-- a line that could be read
pub read_more : (r s : Reading) (line : List ℕ) (ps : List (List ℕ)) → (length ps == 0) ≡ false → after_line r line ≡ Some s → read_lines r (line ∷ ps) ≡ read_lines s ps
unfolding read_lines
read_more r s line [] more e = search rules
read_more r s line (p ∷ ps) more e = rw e refl

-- a line that could not
pub read_bad : (r : Reading) (line : List ℕ) (ps : List (List ℕ)) → (length ps == 0) ≡ false → after_line r line ≡ None → read_lines r (line ∷ ps) ≡ Err (lines_in r + 1)
unfolding read_lines
read_bad r line [] more e = search rules
read_bad r line (p ∷ ps) more e = rw e refl

-- what stands behind the last newline
pub read_last : (r : Reading) (rest : List ℕ) (ps : List (List ℕ)) → (length ps == 0) ≡ true →
    read_lines r (rest ∷ ps) ≡ (if (r.place == 5) && (length rest == 0) then Ok r else Err (lines_in r + 1))
unfolding read_lines
read_last r rest [] last = refl
read_last r rest (p ∷ ps) last = search rules

-- lines of lower numbers are all before a line, and none is behind it
before : (id : ℕ) (lines : List ThreadLine) → list_all (λ m. nat_lt m.id id) lines ≡ true → filter (λ m. nat_lt m.id id) lines ≡ lines
before id [] all = refl
before id (m ∷ lines) all = grind (arith, before id lines)

behind : (id : ℕ) (lines : List ThreadLine) → list_all (λ m. nat_lt m.id id) lines ≡ true → filter (λ m. nat_lt id m.id) lines ≡ []
behind id [] all = refl
behind id (m ∷ lines) all = grind (arith, behind id lines)

-- so it stands last
pub placed_last : (l : ThreadLine) (lines : List ThreadLine) → list_all (λ m. nat_lt m.id l.id) lines ≡ true → placed l lines ≡ lines ++ l ∷ []
placed_last l lines all = rw (before l.id lines all, behind l.id lines all) refl

-- lines that rise are at most 256
pub few_rising : (lines : List ThreadLine) → RisesFrom 0 lines → length lines ≤ 256
few_rising lines rising = omega (arith, length-le_from_rising 0 lines rising (omega arith))

-- the line of a thread of a greater number than those before
pub with_thread_is : (r : Reading) (l : ThreadLine) → (is_behind_header r.place 2 && list_all (λ m. nat_lt m.id l.id) r.threads) ≡ true →
    with_thread r (Some l) ≡ Some (record r { place = 2; threads = placed l r.threads })
with_thread_is r l may =
    let before = (and_parts (is_behind_header r.place 2) (list_all (λ m. nat_lt m.id l.id) r.threads) may).1 in
    rw (may, placed_last l r.threads before) refl
