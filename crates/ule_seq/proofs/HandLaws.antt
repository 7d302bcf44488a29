-- Which hand has a thread.
use Rattle.std.proofs.Common.{◌≡◌, ℕ, suc, Bool, true, false, List, ◌∷◌, Option, Some, None, if◌then◌else◌, refl, ap}
use Rattle.std.proofs.lemmas.Bool.{false≢true}
use Rattle.ule_model.specs.CpuValue.{first_found}
use Rattle.ule_model.specs.WorldValue.{holder_among}
use Rattle.ule_score.specs.declared.record.ThreadRecord.{ThreadRecord}
use Rattle.ule_seq.specs.Hands.{is_held}

-- the first of some hands holds a thread that it has
pub held_here : (w t : ℕ) (h : Option ThreadRecord) (hs : List (Option ThreadRecord)) → is_held h t ≡ true → holder_among w (h ∷ hs) t ≡ Some w
held_here w t None hs is = absurd (false≢true is)
held_here w t (Some r) hs is = ap (λ (b : Bool). first_found (if b then Some w else None) (holder_among (suc w) hs t)) is

-- a thread that the first of some hands hasn't is held by one behind it, if by any
pub held_past : (w t : ℕ) (h : Option ThreadRecord) (hs : List (Option ThreadRecord)) → is_held h t ≡ false → holder_among w (h ∷ hs) t ≡ holder_among (suc w) hs t
held_past w t None hs is = refl
held_past w t (Some r) hs is = ap (λ (b : Bool). first_found (if b then Some w else None) (holder_among (suc w) hs t)) is
