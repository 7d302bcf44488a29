-- The first part of a text, and the last.
use Rattle.std.proofs.Common.{◌≡◌, ℕ, ◌<◌, ◌≤◌, Bool, true, false, List, [], ◌∷◌, length, take, drop, refl, sym, arith}
use Rattle.std.specs.Prelude.{◌==◌, not, if◌then◌else◌}
use Rattle.std.specs.List.{position_or_len}
use Rattle.std.proofs.lemmas.List.{drop-drop}
use Rattle.std.proofs.lemmas.List.Splits.{slice_split_first, slice_split_none, length-slice_split}
use Rattle.std.proofs.lemmas.List.Sums.{fails_before_first}
use Rattle.ule_text.specs.Words.{Word}
use Rattle.ule_trace.specs.Parts.{parts_at}

-- the first of several parts ends at the first separator
pub first_part : (separator : ℕ) (text : List ℕ) (at : ℕ) → at ≡ position_or_len (λ b. b == separator) text → at < length text →
    parts_at separator text ≡ take at text ∷ parts_at separator (drop 1 (drop at text))
first_part separator text at is within =
    let first = slice_split_first (λ (b : ℕ). b == separator) text 0 (rw is at within) in
    rw (is, drop-drop 1 (position_or_len (λ (b : ℕ). b == separator) text) text) first

-- a text without a separator is one part
pub only_part : (separator : ℕ) (text : List ℕ) (at : ℕ) → at ≡ position_or_len (λ b. b == separator) text → length text ≤ at →
    parts_at separator text ≡ text ∷ []
only_part separator text at is past =
    slice_split_none (λ (b : ℕ). b == separator) text (λ k d within. fails_before_first (λ (b : ℕ). b == separator) text k d (omega (arith, is, past, within)))

-- a text has a part
pub has_part : (separator : ℕ) (text : List ℕ) → (length (parts_at separator text) == 0) ≡ false
has_part separator text = rw (length-slice_split (λ (b : ℕ). b == separator) text) (grind arith)

-- no part is left where none is said to be
pub end_is : (now : List Word) (more : Bool) (separator : ℕ) (text : List ℕ) → (if more then parts_at separator text else []) ≡ now → not more ≡ (length now == 0)
end_is now true separator text is = rw (← is) (sym (has_part separator text))
end_is now false separator text is = rw (← is) refl

-- what is left behind the first of several parts
pub taken_first : (now : List Word) (more : Bool) (separator : ℕ) (text : List ℕ) (at : ℕ) (part behind rest : List ℕ) →
    (if more then parts_at separator text else []) ≡ now → more ≡ true → at ≡ position_or_len (λ b. b == separator) text → at < length text →
    part ≡ take at text → behind ≡ drop at text → rest ≡ drop 1 behind → now ≡ part ∷ (if more then parts_at separator rest else [])
taken_first now more separator text at part behind rest is left place within front back next =
    rw (← is, left, next, back, front) (first_part separator text at place within)

-- nothing is left behind the last
pub taken_last : (now : List Word) (more : Bool) (separator : ℕ) (text : List ℕ) (at : ℕ) →
    (if more then parts_at separator text else []) ≡ now → more ≡ true → at ≡ position_or_len (λ b. b == separator) text → length text ≤ at → now ≡ text ∷ []
taken_last now more separator text at is left place past = rw (← is, left) (only_part separator text at place past)
