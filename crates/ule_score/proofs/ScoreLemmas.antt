use Rattle.std.proofs.Common.{ℕ, ◌/◌, max, arith}
use Rattle.std.proofs.Math.Nat.{div-le_of_le-mul}
use Rattle.std.proofs.lemmas.Bool.Decides.{nat_tests}
use Rattle.ule_score.specs.Score.{score_of, ScoreIsBounded, ShareIsBounded}

-- the lesser side of a history is at most 98 fiftieths of the other
pub share_of-le : ShareIsBounded
share_of-le part whole less =
    let fiftieth : ℕ = max 1 (whole / 50) in
    div-le_of_le-mul fiftieth (omega arith)

-- a score is at most 100
pub score_of-le : ScoreIsBounded
unfolding score_of
score_of-le h threshold = grind (arith, nat_tests, share_of-le h.run h.slept, share_of-le h.slept h.run)
