-- The text of a place.
use Rattle.std.specs.Prelude.{ℕ, List, ◌++◌, codes}
use Rattle.std.specs.Fmt.{decimal}
use Rattle.ule_prio.specs.declared.kind.Kind.{Kind}
use Rattle.ule_prio.specs.declared.kind.Kind.TheVariants.{Real, Batch, Idle}
use Rattle.ule_score.specs.declared.place.Place.{Place}
use Rattle.ule_score.specs.declared.place.Place.TheVariants.{Running, Queued, Asleep, Unborn, Gone, Hand}

-- the keyword of a kind of queue
abbrev pub kind_word : Kind → List ℕ
kind_word Real = codes "real"
kind_word Batch = codes "batch"
kind_word Idle = codes "idle"

-- a place, as r0, q0.batch.17, s3, u, g or h0
abbrev pub place_word : Place → List ℕ
place_word (Running c) = codes "r" ++ decimal c
place_word (Queued c kind bucket) = codes "q" ++ decimal c ++ codes "." ++ kind_word kind ++ codes "." ++ decimal bucket
place_word (Asleep channel) = codes "s" ++ decimal channel
place_word Unborn = codes "u"
place_word Gone = codes "g"
place_word (Hand w) = codes "h" ++ decimal w

-- a place at the end, where a queued thread's position in its bucket follows
abbrev pub final_place_word : Place → ℕ → List ℕ
final_place_word (Queued c kind bucket) position = place_word (Queued c kind bucket) ++ codes "." ++ decimal position
final_place_word (Running c) position = place_word (Running c)
final_place_word (Asleep channel) position = place_word (Asleep channel)
final_place_word Unborn position = place_word Unborn
final_place_word Gone position = place_word Gone
final_place_word (Hand w) position = place_word (Hand w)
