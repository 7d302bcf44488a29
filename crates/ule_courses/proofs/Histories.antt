-- A history with one entry more at its end.
use Rattle.std.proofs.Common.{◌≡◌, ℕ, ◌==◌, List, [], ◌∷◌, ◌++◌, refl, ◌∙◌, ap}
use Rattle.std.proofs.lemmas.Bool.{cond-true, cond-false, eq-eqb, ne_eqb}
use Rattle.std.proofs.lemmas.List.{append-nil}
use Rattle.std.proofs.lemmas.List.Elements.{filter-append}
use Rattle.ule_types.specs.declared.event.Entry.{Entry}
use Rattle.ule_model.specs.Events.{locks_of}
use Rattle.ule_model.specs.Throughout.{HoldsThroughout}
use Rattle.ule_model.specs.Legal.{IsEntryOf, IsReplayed, Timed, after_entry, entries_of, replayed, with_locks}
use Rattle.ule_model.specs.World.{World}

-- no entries leave a world
pub replayed_start : (w : World) → replayed w [] ≡ w
unfolding replayed
replayed_start w = refl

-- the world after some entries and one more is that after them and then the one
pub replayed_push : (w : World) (es : List Entry) (e : Entry) → replayed w (es ++ e ∷ []) ≡ after_entry (replayed w es) e
unfolding replayed
replayed_push w [] e = refl
replayed_push w (x ∷ xs) e = replayed_push (after_entry w x) xs e

-- a history that the world can make stays one with an entry more that it can make then
pub IsReplayed-push : (w : World) (es : List Entry) (e : Entry) → IsReplayed w es → IsEntryOf (replayed w es) e → IsReplayed w (es ++ e ∷ [])
unfolding IsReplayed replayed
IsReplayed-push w [] e made last = (last, tt)
IsReplayed-push w (x ∷ xs) e made last = (made.0, IsReplayed-push (after_entry w x) xs e made.1 last)

-- the locks of one entry more are by the world before it
pub with_locks_push : (w : World) (es : List Entry) (e : Entry) → with_locks w (es ++ e ∷ []) ≡ with_locks w es ++ record { entry = e; locks = locks_of (replayed w es) e.event } ∷ []
unfolding with_locks replayed
with_locks_push w [] e = refl
with_locks_push w (x ∷ xs) e =
    ap (λ ys. record { entry = x; locks = locks_of w x.event } ∷ ys) (with_locks_push (after_entry w x) xs e)

-- one entry more of a worker's own is the last of its entries
pub entries_of_own : (worker : ℕ) (es : List Timed) (e : Timed) → e.entry.worker ≡ worker → entries_of worker (es ++ e ∷ []) ≡ entries_of worker es ++ e ∷ []
entries_of_own worker es e own =
    filter-append (λ (x : Timed). x.entry.worker == worker) es (e ∷ []) ∙
    ap (λ ys. entries_of worker es ++ ys) (cond-true (e.entry.worker == worker) (e ∷ []) [] (eq-eqb e.entry.worker worker own))

-- one entry more of another's leaves a worker's entries
pub entries_of_other : (worker : ℕ) (es : List Timed) (e : Timed) → (e.entry.worker ≡ worker → ⊥) → entries_of worker (es ++ e ∷ []) ≡ entries_of worker es
entries_of_other worker es e other =
    filter-append (λ (x : Timed). x.entry.worker == worker) es (e ∷ []) ∙
    ap (λ ys. entries_of worker es ++ ys) (cond-false (e.entry.worker == worker) (e ∷ []) [] (ne_eqb e.entry.worker worker other)) ∙
    append-nil (entries_of worker es)

-- what holds throughout a history holds throughout it with an entry more, where it holds of the world behind that
pub HoldsThroughout-push : (P : World → Type 0) (w : World) (es : List Entry) (e : Entry) → HoldsThroughout P w es → P (after_entry (replayed w es) e) → HoldsThroughout P w (es ++ e ∷ [])
unfolding HoldsThroughout replayed
HoldsThroughout-push P w [] e holds last = (holds, last)
HoldsThroughout-push P w (x ∷ xs) e holds last = (holds.0, HoldsThroughout-push P (after_entry w x) xs e holds.1 last)

-- what holds of a world holds throughout a history of no entries
pub HoldsThroughout-start : (P : World → Type 0) (w : World) → P w → HoldsThroughout P w []
unfolding HoldsThroughout
HoldsThroughout-start P w holds = holds
