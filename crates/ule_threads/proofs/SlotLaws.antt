-- A table of fewer slots than there are numbers, as one whose slots behind them are empty.
use Rattle.std.proofs.Common.{◌≡◌, ℕ, ◌+◌, ◌-◌, ◌<◌, ◌≤◌, zero, suc, List, [], ◌∷◌, ◌++◌, length, length-append, length-set, replicate, slice_index_or, slice_set, take, Option, Some, None, refl, sym, ◌∙◌, ap, append_assoc, arith}
use Rattle.std.specs.Option.{option_map}
use Rattle.std.proofs.lemmas.List.{get_or_default, length-replicate, replicate-append-replicate, set-append_left, take_all}
use Rattle.ule_threads.specs.Slots.{all_slots}

-- each of so many empty slots is empty, and so is what is behind them
empty_at : {X : Type 0} (n t : ℕ) → slice_index_or (replicate {A = Option X} n None) t None ≡ None
empty_at zero t = refl
empty_at (suc n) zero = refl
empty_at (suc n) (suc t) = empty_at n t

-- empty slots behind a table change nothing that is read of it
slot_before : {X : Type 0} (slots : List (Option X)) (n t : ℕ) → slice_index_or (slots ++ replicate n None) t None ≡ slice_index_or slots t None
slot_before [] n t = empty_at n t
slot_before (o ∷ slots) n zero = refl
slot_before (o ∷ slots) n (suc t) = slot_before slots n t

-- what is read of a table is what is read of all its slots
pub slot_of_all : {X : Type 0} (slots : List (Option X)) (t : ℕ) → slice_index_or (all_slots slots) t None ≡ slice_index_or slots t None
slot_of_all slots t = slot_before slots (256 - length slots) t

-- all slots are those of a table that has some of the empty ones
pub all_slots_longer : {X : Type 0} (slots : List (Option X)) (n : ℕ) → length slots + n ≤ 256 → all_slots (slots ++ replicate n None) ≡ all_slots slots
all_slots_longer slots n few =
    let long : length (slots ++ replicate n None) ≡ length slots + n =
    length-append slots (replicate n None) ∙ ap (λ k. length slots + k) (length-replicate n None) in
    let left : 256 - length (slots ++ replicate n None) ≡ 256 - (length slots + n) = ap (λ k. 256 - k) long in
    let parts : n + (256 - (length slots + n)) ≡ 256 - length slots = omega arith in
    append_assoc slots (replicate n None) (replicate (256 - length (slots ++ replicate n None)) None)
    ∙ ap (λ k. slots ++ (replicate n None ++ replicate k None)) left
    ∙ ap (λ xs. slots ++ xs) (replicate-append-replicate n (256 - (length slots + n)) None ∙ ap (λ k. replicate k None) parts)

-- a slot of a table that is set is that one of all slots
pub all_slots_set : {X : Type 0} (slots : List (Option X)) (t : ℕ) (kept : Option X) → t < length slots →
    all_slots (slice_set slots t kept) ≡ slice_set (all_slots slots) t kept
all_slots_set slots t kept within =
    ap (λ n. slice_set slots t kept ++ replicate (256 - n) None) (length-set slots t kept)
    ∙ sym (set-append_left slots (replicate (256 - length slots) None) t kept within)

-- a table that was made longer by empty slots has the same slots in all
pub resized : {X : Type 0} (old new : List (Option X)) (len at : ℕ) → len ≡ length old → len ≤ at → at < 256 →
    new ≡ take (at + 1) old ++ replicate (at + 1 - len) None → all_slots new ≡ all_slots old
resized old new len at long short small is =
    ap all_slots (is ∙ ap (λ k. take (at + 1) old ++ replicate (at + 1 - k) None) long
    ∙ ap (λ xs. xs ++ replicate (at + 1 - length old) None) (take_all (at + 1) old (omega arith)))
    ∙ all_slots_longer old (at + 1 - length old) (omega arith)

-- no slot of a table without slots has anything
pub none_of_all : {X : Type 0} (slots : List (Option X)) → slots ≡ [] → (t : ℕ) → slice_index_or (all_slots slots) t None ≡ None
none_of_all slots is t = slot_of_all slots t ∙ ap (λ xs. slice_index_or xs t None) is

-- a slot that a table has is set in all slots
pub slot_set : {X : Type 0} (slots now : List (Option X)) (i t : ℕ) (kept : Option X) → i ≡ t → t < length slots → all_slots slots ≡ now →
    all_slots (slice_set slots i kept) ≡ slice_set now t kept
slot_set slots now i t kept is within same =
    ap (λ k. all_slots (slice_set slots k kept)) is ∙ all_slots_set slots t kept within ∙ ap (λ xs. slice_set xs t kept) same

-- what a slot has is changed
pub slot_changed : {X : Type 0} (slots now : List (Option X)) (i t : ℕ) (r n : X) (change : X → X) → i ≡ t → t < length slots → all_slots slots ≡ now →
    Some r ≡ slice_index_or slots i (Some r) → n ≡ change r →
    all_slots (slice_set slots i (Some n)) ≡ slice_set now t (option_map change (slice_index_or now t None))
slot_changed slots now i t r n change is within same read changed =
    slot_set slots now i t (Some n) is within same ∙
    ap (λ o. slice_set now t o) (ap (λ x. Some x) changed ∙ ap (λ o. option_map change o) there)
  where
    there : Some r ≡ slice_index_or now t None
    there =
        read ∙ ap (λ k. slice_index_or slots k (Some r)) is ∙ get_or_default slots t (Some r) None within ∙
        sym (slot_of_all slots t) ∙ ap (λ xs. slice_index_or xs t None) same
