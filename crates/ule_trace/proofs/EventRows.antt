-- The text of each event, by computing: the numbers in it compute where `digits` unfolds.
use Rattle.std.proofs.Common.{◌≡◌, negsuc, codes, refl}
use Rattle.std.specs.Fmt.{digits}
use Rattle.ule_score.specs.declared.record.Why.TheVariants.{Resched}
use Rattle.ule_trace.specs.EventText.{event_text}
use Rattle.ule_types.specs.declared.event.Event.TheVariants.{Tick, Switch, Drop, Bed, Wake, Look, Land, Move, Lend, Unlend, Renice, Hatch, Fork, Return, Exit, Bury, Inherit}
use Rattle.ule_types.specs.declared.event.MoveWhy.TheVariants.{Steal, Balance}

-- a tick, a switch and a look, each at one CPU
at_one_cpu :
    (event_text (Tick 15) ≡ codes "tick 15") ×
    (event_text (Switch 0 Resched) ≡ codes "switch 0 resched") ×
    (event_text (Look 5) ≡ codes "look 5")
unfolding digits
at_one_cpu = (refl, refl, refl)

-- a thread's way from a CPU to a channel and back
sleep_and_wake :
    (event_text (Drop 1 65535) ≡ codes "drop 1 65535") ×
    (event_text (Bed 2 3) ≡ codes "bed 2 3") ×
    (event_text (Wake 4) ≡ codes "wake 4") ×
    (event_text (Land 6 7) ≡ codes "land 6 7")
unfolding digits
sleep_and_wake = (refl, refl, refl, refl)

-- a move from one CPU to another, for each reason
moves :
    (event_text (Move 0 1 Steal) ≡ codes "move 0 1 steal") ×
    (event_text (Move 2 3 Balance) ≡ codes "move 2 3 balance")
unfolding digits
moves = (refl, refl)

-- what can change a thread's priority, with a nice value below 0
changes :
    (event_text (Lend 8 100) ≡ codes "lend 8 100") ×
    (event_text (Unlend 9) ≡ codes "unlend 9") ×
    (event_text (Renice 10 (negsuc 19)) ≡ codes "renice 10 -20") ×
    (event_text (Inherit 16 1024) ≡ codes "inherit 16 1024")
unfolding digits
changes = (refl, refl, refl, refl)

-- a thread's birth and its end
birth_and_end :
    (event_text (Hatch 11) ≡ codes "hatch 11") ×
    (event_text (Fork 1 12) ≡ codes "fork 1 12") ×
    (event_text (Return 13) ≡ codes "return 13") ×
    (event_text (Exit 14) ≡ codes "exit 14") ×
    (event_text (Bury 15) ≡ codes "bury 15")
unfolding digits
birth_and_end = (refl, refl, refl, refl, refl)
