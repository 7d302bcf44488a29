-- The text of each place, by computing: the numbers in it compute where `digits` unfolds.
use Rattle.std.proofs.Common.{◌≡◌, codes, refl}
use Rattle.std.specs.Fmt.{digits}
use Rattle.ule_prio.specs.declared.kind.Kind.TheVariants.{Batch}
use Rattle.ule_score.specs.declared.place.Place.TheVariants.{Running, Queued, Asleep, Unborn, Gone, Hand}
use Rattle.ule_trace.specs.PlaceText.{place_word}

-- at a CPU, in a bucket, on a channel and in a hand, and the two places without a number
places :
    (place_word (Running 15) ≡ codes "r15") ×
    (place_word (Queued 0 Batch 17) ≡ codes "q0.batch.17") ×
    (place_word (Asleep 65535) ≡ codes "s65535") ×
    (place_word Unborn ≡ codes "u") ×
    (place_word Gone ≡ codes "g") ×
    (place_word (Hand 0) ≡ codes "h0")
unfolding digits
places = (refl, refl, refl, refl, refl, refl)
