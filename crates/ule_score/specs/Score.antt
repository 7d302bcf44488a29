-- The interactivity score, after sched_interact_score.
use Rattle.std.specs.Prelude.{ℕ, ◌-◌, ◌/◌, ◌<◌, ◌≤◌, nat_lt, nat_le, ◌&&◌, ◌==◌, max, if◌then◌else◌}
use Rattle.ule_history.specs.declared.History.{History}

-- one side of a history over fiftieths of the other, which are at least 1
abbrev pub share_of : ℕ → ℕ → ℕ
share_of part whole = part / max 1 (whole / 50)

-- the score: 0 for a thread that only sleeps, 100 for one that only runs, and 50 at once for one
-- that runs no less than it sleeps where the threshold is no higher than that
unfoldable pub score_of : History → ℕ → ℕ
score_of h threshold =
    if nat_le threshold 50 && nat_le h.slept h.run then 50
    else if nat_lt h.slept h.run then 100 - share_of h.slept h.run
    else if nat_lt h.run h.slept then share_of h.run h.slept
    else if h.run == 0 then 0 else 50

-- the law: a score is at most 100
abbrev pub ScoreIsBounded : Type 0
ScoreIsBounded = (h : History) (threshold : ℕ) → score_of h threshold ≤ 100

-- the law: the lesser side of a history is at most 98 fiftieths of the other, so 100 less it is no less than 2
abbrev pub ShareIsBounded : Type 0
ShareIsBounded = (part whole : ℕ) → part < whole → share_of part whole ≤ 98
