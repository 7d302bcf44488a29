-- Worked texts of traces, by computing: what is read, and the line at which the lines so far begin no trace.
use Rattle.std.proofs.Common.{◌≡◌, ℕ, List, [], ◌∷◌, ◌++◌, codes, refl, Some, None, true}
use Rattle.std.specs.Prelude.{Result, Ok, Err}
use Rattle.std.specs.List.{flat_map}
use Rattle.ule_prio.specs.declared.kind.Kind.TheVariants as kind
use Rattle.ule_score.specs.declared.place.Place.TheVariants.{Queued}
use Rattle.ule_score.specs.declared.record.Why.TheVariants.{Yield}
use Rattle.ule_types.specs.declared.event.Event.TheVariants.{Switch, Inherit}
use Rattle.ule_types.specs.declared.event.Reply.TheVariants.{Switched, NotAllowed}
use Rattle.ule_trace.specs.LineForm.{entry_form}
use Rattle.ule_trace.specs.Parts.{parts_at, whole}
use Rattle.ule_trace.specs.Reading.{Reading, after_line, read_bytes, read_lines}

-- the line that is told; 0 of a trace
abbrev told_of : Result Reading ℕ → ℕ
told_of (Ok r) = 0
told_of (Err line) = line

-- what is told of a text of lines, each with its newline
abbrev told : List (List ℕ) → ℕ
told lines = told_of (read_bytes (flat_map (λ line. line ++ 10 ∷ []) lines))

-- a trace of one entry with this line, and with this line of its thread
abbrev with_entry : List ℕ → List (List ℕ)
with_entry line = codes "ule-trace 1" ∷ line ∷ codes "t 0 r0 ts 0 172 - 172 0 0 0 20000 20000 0 0 0 20000 - - 0" ∷ codes "c 0 0 0 0 0 0 0 64" ∷ codes "now 20000" ∷ codes "done 1" ∷ []

abbrev with_thread : List ℕ → List (List ℕ)
with_thread line = codes "ule-trace 1" ∷ line ∷ codes "c 0 0 0 0 0 0 0 64" ∷ codes "now 20000" ∷ codes "done 0" ∷ []

-- ---- what is read

the_trace : told (with_entry (codes "1 w0 20000 switch 0 yield -> switched - 0 0")) ≡ 0
unfolding after_line read_lines
the_trace = refl

-- a trace without a thread, and a queued thread with its position
no_thread : told (codes "ule-trace 1" ∷ codes "c 0 0 0 0 0 0 0 64" ∷ codes "now 20000" ∷ codes "done 0" ∷ []) ≡ 0
unfolding after_line read_lines
no_thread = refl

queued_thread : told (with_thread (codes "t 255 q15.batch.63.255 idle -20 255 0 0 18446744073709551615 0 0 0 0 0 0 15 0 15 0 b")) ≡ 0
unfolding after_line read_lines
queued_thread = refl

-- an entry by its words
entries :
    (whole (entry_form 1 (parts_at 32 (codes "1 w15 0 switch 0 yield -> switched - 255 1"))) ≡ Some (record { worker = 15; event = Switch 0 Yield; now = 0; reply = Switched None (Some 255) true })) ×
    (whole (entry_form 65536 (parts_at 32 (codes "65536 w0 18446744073709551615 inherit 0 7 -> notallowed q3.idle.9"))) ≡ Some (record { worker = 0; event = Inherit 0 7; now = 18446744073709551615; reply = NotAllowed (Queued 3 kind.Idle 9) }))
entries = (refl, refl)

-- ---- what is none

-- the time one above the greatest, a number with a leading zero, another number, two spaces, a reply without its thread, -0
bad_entries :
    (told (with_entry (codes "1 w0 18446744073709551616 switch 0 yield -> switched - 0 0")) ≡ 2) ×
    (told (with_entry (codes "1 w0 020000 switch 0 yield -> switched - 0 0")) ≡ 2) ×
    (told (with_entry (codes "2 w0 20000 switch 0 yield -> switched - 0 0")) ≡ 2) ×
    (told (with_entry (codes "1 w0 20000 switch 0  yield -> switched - 0 0")) ≡ 2) ×
    (told (with_entry (codes "1 w0 20000 drop 0 3 -> dropped - 0")) ≡ 2) ×
    (told (with_entry (codes "1 w0 20000 renice 0 -0 -> changed 172 0 0")) ≡ 2) ×
    (told (with_entry (codes "1 w16 20000 switch 0 yield -> switched - 0 0")) ≡ 2) ×
    (told (with_entry (codes "1 w0 20000 switch 0 yield -> switched - 0 0 ")) ≡ 2)
unfolding after_line read_lines
bad_entries = (refl, refl, refl, refl, refl, refl, refl, refl)

-- a position of a thread that isn't queued, none of one that is, a lock above 24
bad_threads :
    (told (with_thread (codes "t 0 r0.1 ts 0 172 - 172 0 0 0 0 0 0 0 0 0 - - 0")) ≡ 2) ×
    (told (with_thread (codes "t 0 q0.real.1 ts 0 172 - 172 0 0 0 0 0 0 0 0 0 - - 0")) ≡ 2) ×
    (told (with_thread (codes "t 0 r0 ts 0 172 - 172 0 0 0 0 0 0 0 0 0 - - 25")) ≡ 2)
unfolding after_line read_lines
bad_threads = (refl, refl, refl)

-- threads that don't rise, a CPU that isn't the next, the time at the end without a CPU, another number of entries, a line behind the last
bad_ends :
    (told (codes "ule-trace 1" ∷ codes "t 1 u ts 0 172 - 172 0 0 0 0 0 0 0 0 0 - - 24" ∷ codes "t 1 u ts 0 172 - 172 0 0 0 0 0 0 0 0 0 - - 24" ∷ []) ≡ 3) ×
    (told (codes "ule-trace 1" ∷ codes "c 1 0 0 0 0 0 0 64" ∷ []) ≡ 2) ×
    (told (codes "ule-trace 1" ∷ codes "now 20000" ∷ []) ≡ 2) ×
    (told (codes "ule-trace 1" ∷ codes "c 0 0 0 0 0 0 0 64" ∷ codes "now 20000" ∷ codes "done 1" ∷ []) ≡ 4) ×
    (told (codes "ule-trace 1" ∷ codes "c 0 0 0 0 0 0 0 64" ∷ codes "now 20000" ∷ codes "done 0" ∷ [] ∷ []) ≡ 5)
unfolding after_line read_lines
bad_ends = (refl, refl, refl, refl, refl)

-- no byte; another header; a text that ends too early, and one whose last line lacks its newline
bad_texts :
    (told [] ≡ 1) ×
    (told (codes "ule-trace 01" ∷ []) ≡ 1) ×
    (told (codes "ule-trace 1" ∷ codes "c 0 0 0 0 0 0 0 64" ∷ codes "now 20000" ∷ []) ≡ 4) ×
    (told_of (read_bytes (flat_map (λ line. line ++ 10 ∷ []) (codes "ule-trace 1" ∷ codes "c 0 0 0 0 0 0 0 64" ∷ codes "now 20000" ∷ []) ++ codes "done 0")) ≡ 4)
unfolding after_line read_lines
bad_texts = (refl, refl, refl, refl)
