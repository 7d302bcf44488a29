-- Thread lines that rise by id: how many they are, and where a line has its place.
use Rattle.std.proofs.Common.{◌≡◌, ◌≢◌, ℕ, suc, ◌+◌, ◌<◌, ◌≤◌, Bool, true, false, nat_lt, nat_le, eqb, not, List, [], ◌∷◌, length, get_or, set, take, drop, refl, sym, ap, ◌∙◌, inl, inr, arith}
use Rattle.std.specs.List.{filter, position_or_len, insert}
use Rattle.std.proofs.lemmas.Bool.{cases_lt, lt-ltb, le-ltb, le-leb, lt-leb, eqb-true, eqb-false}
use Rattle.std.proofs.lemmas.List.{set_split, get_or_read}
use Rattle.std.proofs.lemmas.List.Sums.{prefix_len-le-length}
use Rattle.std.proofs.lemmas.List.Edits.{length-insert}
use Rattle.ule_types.specs.declared.outcome.ThreadLine.{ThreadLine}
use Rattle.ule_types.specs.Outcome.{placed, RisesFrom}

-- lines that rise from a number on are at most as many as there are ids from it on
pub length-le_from_rising : (low : ℕ) (lines : List ThreadLine) → RisesFrom low lines → low ≤ 256 → length lines + low ≤ 256
length-le_from_rising low [] rises within = omega arith
length-le_from_rising low (m ∷ lines) rises within =
    omega (arith, length-le_from_rising (m.id + 1) lines rises.2 (omega (arith, rises.1)), rises.0)

-- whether a line's id is below this one
abbrev pub is_below : ℕ → ThreadLine → Bool
is_below t m = nat_lt m.id t

-- whether a line's id is above this one
abbrev pub is_above : ℕ → ThreadLine → Bool
is_above t m = nat_lt t m.id

-- the place of the first line whose id is this or above
abbrev pub first_place : ℕ → List ThreadLine → ℕ
first_place t lines = position_or_len (λ m. nat_le t m.id) lines

-- no line is below an id from which or from above which they rise
none_below : (t low : ℕ) (lines : List ThreadLine) → RisesFrom low lines → t ≤ low → filter (is_below t) lines ≡ []
none_below t low [] rises h = refl
none_below t low (m ∷ lines) rises h =
    rw (le-ltb m.id t (omega (arith, rises.0))) (none_below t (m.id + 1) lines rises.2 (omega (arith, rises.0)))

-- all lines that rise from above an id are above it
all_above : (t low : ℕ) (lines : List ThreadLine) → RisesFrom low lines → t < low → filter (is_above t) lines ≡ lines
all_above t low [] rises h = refl
all_above t low (m ∷ lines) rises h =
    rw (lt-ltb t m.id (omega (arith, rises.0))) (ap (λ ms. m ∷ ms) (all_above t (m.id + 1) lines rises.2 (omega (arith, rises.0))))

-- the place behind a line that is below
first_place-below : (t : ℕ) (m : ThreadLine) (lines : List ThreadLine) → m.id < t → first_place t (m ∷ lines) ≡ suc (first_place t lines)
first_place-below t m lines h = rw (lt-leb t m.id h) (omega arith)

-- the place is at a line that is this id's or above
first_place-from : (t : ℕ) (m : ThreadLine) (lines : List ThreadLine) → t ≤ m.id → first_place t (m ∷ lines) ≡ 0
first_place-from t m lines h = rw (le-leb t m.id h) refl

-- the lines before the place are those that are below
before_place : (t low : ℕ) (lines : List ThreadLine) → RisesFrom low lines → take (first_place t lines) lines ≡ filter (is_below t) lines
before_place t low [] rises = refl
before_place t low (m ∷ lines) rises = elim (cases_lt m.id t) [
  | inl h ↦ rw (first_place-below t m lines h, lt-ltb m.id t h) (ap (λ ms. m ∷ ms) (before_place t (m.id + 1) lines rises.2))
  | inr h ↦ rw (first_place-from t m lines h) (sym (none_below t m.id (m ∷ lines) (omega arith, rises.1, rises.2) h))
]

-- a list that begins with a line at or above the id
starts_above : (t : ℕ) (m : ThreadLine) (lines : List ThreadLine) → RisesFrom (m.id + 1) lines → t < m.id → filter (is_above t) (m ∷ lines) ≡ m ∷ lines
starts_above t m lines rises h = rw (lt-ltb t m.id h) (ap (λ ms. m ∷ ms) (all_above t (m.id + 1) lines rises (omega arith)))

-- where the first line has the id, those behind it are above
starts_same : (t : ℕ) (m : ThreadLine) (lines : List ThreadLine) → RisesFrom (m.id + 1) lines → t ≡ m.id → filter (is_above t) (m ∷ lines) ≡ lines
starts_same t m lines rises h = rw (le-ltb t m.id (omega arith)) (all_above t (m.id + 1) lines rises (omega arith))

-- a first line at or above an id that is not the id's is above it
other_above : (t : ℕ) (m : ThreadLine) (lines : List ThreadLine) → t ≤ m.id → ((d : ThreadLine) → 0 < suc (length lines) → m.id ≢ t) → t < m.id
other_above t m lines h other = let ne : m.id ≢ t = other m (omega arith) in omega arith

-- where no line has the id, those from the place on are above
after_other : (t low : ℕ) (lines : List ThreadLine) → RisesFrom low lines →
    ((d : ThreadLine) → first_place t lines < length lines → (get_or lines (first_place t lines) d).id ≢ t) → drop (first_place t lines) lines ≡ filter (is_above t) lines
after_other t low [] rises other = refl
after_other t low (m ∷ lines) rises other = elim (cases_lt m.id t) [
  | inl h ↦
      let e = first_place-below t m lines h in
      rw (e, le-ltb t m.id (omega arith)) (after_other t (m.id + 1) lines rises.2 (λ d within. (rw e at other) d (omega arith)))
  | inr h ↦
      let e = first_place-from t m lines h in
      rw e (sym (starts_above t m lines rises.2 (other_above t m lines h (rw e at other))))
]

-- where the line at the place has the id, those behind it are above
after_same : (t low : ℕ) (lines : List ThreadLine) → RisesFrom low lines →
    ((d : ThreadLine) → (get_or lines (first_place t lines) d).id ≡ t) → first_place t lines < length lines → drop (suc (first_place t lines)) lines ≡ filter (is_above t) lines
after_same t low [] rises same within = absurd (omega arith)
after_same t low (m ∷ lines) rises same within = elim (cases_lt m.id t) [
  | inl h ↦
      let e = first_place-below t m lines h in
      rw (e, le-ltb t m.id (omega arith)) (after_same t (m.id + 1) lines rises.2 (rw e at same) (omega (arith, e)))
  | inr h ↦
      let e = first_place-from t m lines h in
      rw e (sym (starts_same t m lines rises.2 (sym ((rw e at same) m))))
]

-- no line has the id: the line at the place, if there is one, has another
abbrev pub IsFree : ℕ → List ThreadLine → Type 0
IsFree t lines = (d : ThreadLine) → first_place t lines < length lines → (get_or lines (first_place t lines) d).id ≢ t

-- an id is free where its place is the lines' end
pub free_from_end : (t : ℕ) (lines : List ThreadLine) (i : ℕ) → i ≡ first_place t lines → length lines ≤ i → IsFree t lines
free_from_end t lines i e past d within = absurd (omega arith)

-- an id is free where the line at its place has another
pub free_from_line : (t : ℕ) (lines : List ThreadLine) (i : ℕ) (x : ThreadLine) → i ≡ first_place t lines → x ≡ get_or lines i x → eqb x.id t ≡ false → IsFree t lines
free_from_line t lines i x e read other d within =
    let same = get_or_read lines (first_place t lines) x within (rw e at read) d in
    λ h. eqb-false x.id t other (ap (λ m. m.id) same ∙ h)

-- the line put before the first that is above
pub placed-insert : (l : ThreadLine) (lines : List ThreadLine) (i : ℕ) → i ≡ first_place l.id lines → RisesFrom 0 lines → IsFree l.id lines → insert lines i l ≡ placed l lines
placed-insert l lines i e rises free =
    rw (e, before_place l.id 0 lines rises, after_other l.id 0 lines rises free) refl

-- the line put instead of one with its id
pub placed-set : (l : ThreadLine) (lines : List ThreadLine) (i : ℕ) (x : ThreadLine) →
    i ≡ first_place l.id lines → RisesFrom 0 lines → i < length lines → x ≡ get_or lines i x → eqb x.id l.id ≡ true → set lines i l ≡ placed l lines
placed-set l lines i x e rises within read same =
    let id_is : (d : ThreadLine) → (get_or lines (first_place l.id lines) d).id ≡ l.id =
    λ d. ap (λ m. m.id) (sym (get_or_read lines (first_place l.id lines) x (rw e at within) (rw e at read) d)) ∙ eqb-true x.id l.id same in
    set_split lines i l within ∙
    rw (e, before_place l.id 0 lines rises, after_same l.id 0 lines rises id_is (rw e at within)) refl

-- the lines above an id rise from the number behind it
rest_from : (t : ℕ) (m : ThreadLine) (lines : List ThreadLine) → RisesFrom m.id (m ∷ lines) → t ≤ m.id → RisesFrom (t + 1) (filter (is_above t) (m ∷ lines))
rest_from t m lines rises h = elim (cases_lt t m.id) [
  | inl above ↦ rw (starts_above t m lines rises.2 above) (omega arith, rises.1, rises.2)
  | inr from ↦ let same : t ≡ m.id = omega arith in rw (starts_same t m lines rises.2 same, same) rises.2
]

-- the lines with one more still rise
placed_from : (l : ThreadLine) (low : ℕ) (lines : List ThreadLine) → l.id < 256 → low ≤ l.id → RisesFrom low lines → RisesFrom low (placed l lines)
placed_from l low [] small from rises = (from, small, tt)
placed_from l low (m ∷ lines) small from rises = elim (cases_lt m.id l.id) [
  | inl h ↦
      rw (lt-ltb m.id l.id h, le-ltb l.id m.id (omega arith)) (rises.0, rises.1, placed_from l (m.id + 1) lines small (omega arith) rises.2)
  | inr h ↦ rw (none_below l.id m.id (m ∷ lines) (omega arith, rises.1, rises.2) h) (from, small, rest_from l.id m lines (omega arith, rises.1, rises.2) h)
]

-- the lines of a trace with one more still rise
pub RisesFrom-placed : (l : ThreadLine) (lines : List ThreadLine) → l.id < 256 → RisesFrom 0 lines → RisesFrom 0 (placed l lines)
RisesFrom-placed l lines small rises = placed_from l 0 lines small (omega arith) rises

-- where no line has the id, there is room for one more
pub length-lt_from_free : (l : ThreadLine) (lines : List ThreadLine) → l.id < 256 → RisesFrom 0 lines → IsFree l.id lines → length lines < 256
length-lt_from_free l lines small rises free =
    let e = placed-insert l lines (first_place l.id lines) refl rises free in
    let within = length-le_from_rising 0 (placed l lines) (RisesFrom-placed l lines small rises) (omega arith) in
    let longer = length-insert lines (first_place l.id lines) l (prefix_len-le-length (λ m. not (nat_le l.id m.id)) lines) in
    omega (arith, longer, rw (← e) at within)
