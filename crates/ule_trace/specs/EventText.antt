-- The text of an event.
use Rattle.std.specs.Prelude.{ℕ, List, [], ◌∷◌, codes}
use Rattle.std.specs.Fmt.{decimal, signed_decimal}
use Rattle.ule_score.specs.declared.record.Why.{Why}
use Rattle.ule_score.specs.declared.record.Why.TheVariants.{Yield, Resched}
use Rattle.ule_trace.specs.Line.{joined}
use Rattle.ule_types.specs.declared.event.Event.{Event}
use Rattle.ule_types.specs.declared.event.Event.TheVariants.{Tick, Switch, Drop, Bed, Wake, Look, Land, Move, Lend, Unlend, Renice, Hatch, Fork, Return, Exit, Bury, Inherit}
use Rattle.ule_types.specs.declared.event.MoveWhy.{MoveWhy}
use Rattle.ule_types.specs.declared.event.MoveWhy.TheVariants.{Steal, Balance}

-- why a CPU switches
abbrev pub why_word : Why → List ℕ
why_word Yield = codes "yield"
why_word Resched = codes "resched"

-- why a thread is moved
abbrev pub move_why_word : MoveWhy → List ℕ
move_why_word Steal = codes "steal"
move_why_word Balance = codes "balance"

-- an event's words
abbrev pub event_words : Event → List (List ℕ)
event_words (Tick c) = codes "tick" ∷ decimal c ∷ []
event_words (Switch c why) = codes "switch" ∷ decimal c ∷ why_word why ∷ []
event_words (Drop c channel) = codes "drop" ∷ decimal c ∷ decimal channel ∷ []
event_words (Bed t channel) = codes "bed" ∷ decimal t ∷ decimal channel ∷ []
event_words (Wake t) = codes "wake" ∷ decimal t ∷ []
event_words (Look c) = codes "look" ∷ decimal c ∷ []
event_words (Land t c) = codes "land" ∷ decimal t ∷ decimal c ∷ []
event_words (Move a b why) = codes "move" ∷ decimal a ∷ decimal b ∷ move_why_word why ∷ []
event_words (Lend t p) = codes "lend" ∷ decimal t ∷ decimal p ∷ []
event_words (Unlend t) = codes "unlend" ∷ decimal t ∷ []
event_words (Renice t n) = codes "renice" ∷ decimal t ∷ signed_decimal n ∷ []
event_words (Hatch t) = codes "hatch" ∷ decimal t ∷ []
event_words (Fork c t) = codes "fork" ∷ decimal c ∷ decimal t ∷ []
event_words (Return t) = codes "return" ∷ decimal t ∷ []
event_words (Exit c) = codes "exit" ∷ decimal c ∷ []
event_words (Bury t) = codes "bury" ∷ decimal t ∷ []
event_words (Inherit t run) = codes "inherit" ∷ decimal t ∷ decimal run ∷ []

-- an event's text
abbrev pub event_text : Event → List ℕ
event_text e = joined (event_words e)
