-- The text of each reply, by computing: the numbers in it compute where `digits` unfolds.
use Rattle.std.proofs.Common.{◌≡◌, Some, None, true, false, codes, refl}
use Rattle.std.specs.Fmt.{digits}
use Rattle.ule_prio.specs.declared.kind.Kind.TheVariants.{Real, Idle}
use Rattle.ule_score.specs.declared.place.Place.TheVariants.{Gone, Hand}
use Rattle.ule_trace.specs.ReplyText.{reply_text}
use Rattle.ule_types.specs.declared.event.Reply.TheVariants.{Ticked, Unmarked, Nothing, Switched, Dropped, Bedded, NotAsleep, Woken, Seen, Landed, Moved, NoneMovable, Changed, NotAllowed, Hatched, Forked, Returned, Exited, Buried, ParentGone}

-- the answers to a tick, a switch and a look, with a thread and with none
at_one_cpu :
    (reply_text (Ticked (Some 1) false true) ≡ codes "ticked 1 0 1") ×
    (reply_text (Ticked None true false) ≡ codes "ticked - 1 0") ×
    (reply_text Unmarked ≡ codes "unmarked") ×
    (reply_text Nothing ≡ codes "nothing") ×
    (reply_text (Switched (Some 1) (Some 2) true) ≡ codes "switched 1 2 1") ×
    (reply_text (Seen 7 8 255) ≡ codes "seen 7 8 255")
unfolding digits
at_one_cpu = (refl, refl, refl, refl, refl, refl)

-- the answers on a thread's way from a CPU to a channel and back
sleep_and_wake :
    (reply_text (Dropped 1 None) ≡ codes "dropped 1 -") ×
    (reply_text Bedded ≡ codes "bedded") ×
    (reply_text (NotAsleep (Hand 3)) ≡ codes "notasleep h3") ×
    (reply_text (Woken 120 (Some 4) 5 6) ≡ codes "woken 120 4 5 6") ×
    (reply_text (Landed Real 9 true) ≡ codes "landed real 9 1")
unfolding digits
sleep_and_wake = (refl, refl, refl, refl, refl)

-- the answers to a move from one CPU to another
moves :
    (reply_text (Moved 1 Idle 10 false) ≡ codes "moved 1 idle 10 0") ×
    (reply_text (NoneMovable 11 12 13) ≡ codes "nonemovable 11 12 13")
unfolding digits
moves = (refl, refl)

-- the answers to what can change a thread's priority
changes :
    (reply_text (Changed 14 true false) ≡ codes "changed 14 1 0") ×
    (reply_text (NotAllowed Gone) ≡ codes "notallowed g") ×
    (reply_text ParentGone ≡ codes "parentgone")
unfolding digits
changes = (refl, refl, refl)

-- the answers at a thread's birth and its end
birth_and_end :
    (reply_text Hatched ≡ codes "hatched") ×
    (reply_text (Forked 1 150) ≡ codes "forked 1 150") ×
    (reply_text Returned ≡ codes "returned") ×
    (reply_text (Exited 1 None (Some 2) 15) ≡ codes "exited 1 - 2 15") ×
    (reply_text Buried ≡ codes "buried")
unfolding digits
birth_and_end = (refl, refl, refl, refl, refl)
