-- The text of a reply.
use Rattle.std.specs.Prelude.{ℕ, List, [], ◌∷◌, codes}
use Rattle.std.specs.Fmt.{decimal}
use Rattle.ule_trace.specs.Line.{joined, optional_word, flag_word}
use Rattle.ule_trace.specs.PlaceText.{kind_word, place_word}
use Rattle.ule_types.specs.declared.event.Reply.{Reply}
use Rattle.ule_types.specs.declared.event.Reply.TheVariants.{Ticked, Unmarked, Nothing, Switched, Dropped, Bedded, NotAsleep, Woken, Seen, Landed, Moved, NoneMovable, Changed, NotAllowed, Hatched, Forked, Returned, Exited, Buried, ParentGone}

-- a reply's words
abbrev pub reply_words : Reply → List (List ℕ)
reply_words (Ticked current due ended) = codes "ticked" ∷ optional_word current ∷ flag_word due ∷ flag_word ended ∷ []
reply_words Unmarked = codes "unmarked" ∷ []
reply_words Nothing = codes "nothing" ∷ []
reply_words (Switched out into preempted) = codes "switched" ∷ optional_word out ∷ optional_word into ∷ flag_word preempted ∷ []
reply_words (Dropped out into) = codes "dropped" ∷ decimal out ∷ optional_word into ∷ []
reply_words Bedded = codes "bedded" ∷ []
reply_words (NotAsleep place) = codes "notasleep" ∷ place_word place ∷ []
reply_words (Woken p bound last last_run) = codes "woken" ∷ decimal p ∷ optional_word bound ∷ decimal last ∷ decimal last_run ∷ []
reply_words (Seen load movable low) = codes "seen" ∷ decimal load ∷ decimal movable ∷ decimal low ∷ []
reply_words (Landed kind bucket preempts) = codes "landed" ∷ kind_word kind ∷ decimal bucket ∷ flag_word preempts ∷ []
reply_words (Moved t kind bucket preempts) = codes "moved" ∷ decimal t ∷ kind_word kind ∷ decimal bucket ∷ flag_word preempts ∷ []
reply_words (NoneMovable load movable other) = codes "nonemovable" ∷ decimal load ∷ decimal movable ∷ decimal other ∷ []
reply_words (Changed p requeued marked) = codes "changed" ∷ decimal p ∷ flag_word requeued ∷ flag_word marked ∷ []
reply_words (NotAllowed place) = codes "notallowed" ∷ place_word place ∷ []
reply_words Hatched = codes "hatched" ∷ []
reply_words (Forked parent p) = codes "forked" ∷ decimal parent ∷ decimal p ∷ []
reply_words Returned = codes "returned" ∷ []
reply_words (Exited out into parent run) = codes "exited" ∷ decimal out ∷ optional_word into ∷ optional_word parent ∷ decimal run ∷ []
reply_words Buried = codes "buried" ∷ []
reply_words ParentGone = codes "parentgone" ∷ []

-- a reply's text
abbrev pub reply_text : Reply → List ℕ
reply_text r = joined (reply_words r)
