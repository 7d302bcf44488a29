-- Which place a word spells.
use Rattle.std.specs.Prelude.{ℕ, ◌==◌, Option, Some, None, if◌then◌else◌, List, [], ◌∷◌}
use Rattle.std.specs.Option.{option_map}
use Rattle.ule_prio.specs.declared.kind.Kind.{Kind}
use Rattle.ule_score.specs.declared.place.Place.{Place}
use Rattle.ule_score.specs.declared.place.Place.TheVariants.{Running, Queued, Asleep, Unborn, Gone, Hand}
use Rattle.ule_text.specs.Words.{Word}
use Rattle.ule_trace.specs.Parts.{parts_at, form3, form4, whole}
use Rattle.ule_trace.specs.Fields.{cpu, bucket, channel, kind_named, up_to}
use Rattle.ule_trace.specs.declared.place_form.Standing.{Standing}

-- in a queue, by the parts between dots: the CPU, the kind and the bucket, and at the end the position
abbrev pub queued : List Word → Option Place
queued parts = whole (form3 Queued cpu kind_named bucket parts)

abbrev pub queued_at : ℕ → Kind → ℕ → ℕ → Standing
queued_at c kind b position = record { place = Queued c kind b; position = position }

abbrev pub queued_at_end : List Word → Option Standing
queued_at_end parts = whole (form4 queued_at cpu kind_named bucket (up_to 255) parts)

-- a place without a number, by its letter: u (117) or g (103)
abbrev pub bare_place : ℕ → Word → Option Place
bare_place letter [] = if letter == 117 then Some Unborn else (if letter == 103 then Some Gone else None)
bare_place letter (b ∷ word) = None

-- a place outside the queues, by its letter and what follows: r (114), s (115), h (104)
abbrev pub other_place : ℕ → Word → Option Place
other_place letter word =
    if letter == 114 then option_map Running (cpu word) else (
    if letter == 115 then option_map Asleep (channel word) else (
    if letter == 104 then option_map Hand (cpu word) else (
    bare_place letter word)))

-- a place; q (113) is for a queue
abbrev pub place : Word → Option Place
place [] = None
place (b ∷ word) = if b == 113 then queued (parts_at 46 word) else other_place b word

-- the place of a thread that isn't queued has no position, which counts as 0
abbrev pub unqueued : Place → Standing
unqueued p = record { place = p; position = 0 }

-- a place at the end
abbrev pub final_place : Word → Option Standing
final_place [] = None
final_place (b ∷ word) = if b == 113 then queued_at_end (parts_at 46 word) else option_map unqueued (other_place b word)
