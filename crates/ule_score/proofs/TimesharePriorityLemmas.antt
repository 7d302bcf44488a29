use Rattle.std.proofs.Common.{◌≡◌, ℕ, ◌+◌, ◌*◌, ◌-◌, ◌/◌, ◌<◌, ◌≤◌, ℤ, pos, negsuc, ◌+ℤ◌, min, arith}
use Rattle.std.proofs.lemmas.Bool.Decides.{nat_tests}
use Rattle.std.proofs.lemmas.Int.{ints}
use borrow.Author.Differences.{up, down}
use Rattle.ule_history.specs.declared.CpuUse.{CpuUse}
use Rattle.ule_score.specs.Score.{score_of}
use Rattle.ule_score.specs.TimesharePriority.{at_least_zero, use_steps, batch_priority, priority_at, timeshare_priority, IsNice, TimesharePriorityIsBounded, TimesharePrioritySplits}

-- a number, or 0, by the two sides of the number
at_least_zero-is : (z : ℤ) → at_least_zero z ≡ up z - down z
at_least_zero-is (pos n) = omega arith
at_least_zero-is (negsuc n) = omega arith

-- a nice value moves a number by at most 20
pub niced-bounds : (n : ℕ) (nice : ℤ) → IsNice nice →
    (at_least_zero (pos n +ℤ nice) ≤ n + 20) × (n ≤ at_least_zero (pos n +ℤ nice) + 20)
niced-bounds n nice within =
    let sides = at_least_zero-is (pos n +ℤ nice) in
    (omega (arith, ints), omega (arith, ints))

-- a sum below the threshold takes fewer than 32 steps of the interactive range
pub interactive-le : (sum threshold : ℕ) → sum < threshold → 32 / threshold * sum ≤ 31
interactive-le sum threshold less = grind arith

-- the priority of a batch thread lies in the batch range
pub batch_priority-bounds : (u : CpuUse) (nice : ℤ) → IsNice nice →
    (152 ≤ batch_priority u nice) × (batch_priority u nice ≤ 223)
unfolding batch_priority
batch_priority-bounds u nice within =
    let used : ℕ = min (use_steps u) 31 in
    let bounds = niced-bounds (172 + used) nice within in
    (omega (arith, bounds), omega (arith, bounds))

-- the priority at a sum below the threshold lies in the interactive range, and any other in the batch range
pub priority_at-bounds : (sum : ℕ) (u : CpuUse) (nice : ℤ) (threshold : ℕ) → IsNice nice →
    (120 ≤ priority_at sum u nice threshold) × (priority_at sum u nice threshold ≤ 223) ×
    (sum < threshold → priority_at sum u nice threshold ≤ 151) ×
    (threshold ≤ sum → 152 ≤ priority_at sum u nice threshold)
unfolding priority_at
priority_at-bounds sum u nice threshold within =
    let batch = batch_priority-bounds u nice within in (
      grind (arith, nat_tests, batch.0),
      grind (arith, nat_tests, batch.1, interactive-le sum threshold),
      λ less. grind (arith, nat_tests, interactive-le sum threshold less),
      λ more. grind (arith, nat_tests, batch.0),
    )

-- a timeshare priority lies in the timeshare range
pub timeshare_priority-bounds : TimesharePriorityIsBounded
unfolding timeshare_priority
timeshare_priority-bounds h u nice threshold within =
    let bounds = priority_at-bounds (at_least_zero (pos (score_of h threshold) +ℤ nice)) u nice threshold within in
    (bounds.0, bounds.1)

-- a timeshare priority is interactive where score and nice value come to less than the threshold, and batch else
pub timeshare_priority-splits : TimesharePrioritySplits
unfolding timeshare_priority
timeshare_priority-splits h u nice threshold within =
    let bounds = priority_at-bounds (at_least_zero (pos (score_of h threshold) +ℤ nice)) u nice threshold within in
    (bounds.2, bounds.3)
