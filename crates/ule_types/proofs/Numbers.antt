-- Numbers of commands and of declared threads that are in their ranges.
use Rattle.std.proofs.Common.{◌≡◌, ℕ, ◌<◌, ◌≤◌, ℤ, pos, negsuc, true, nat_le, arith}
use Rattle.std.proofs.lemmas.Bool.{and_parts, leb-true, ltb-true}
use Rattle.std.proofs.lemmas.Int.{ints}
use Rattle.ule_prio.specs.Class.{is_within}
use Rattle.ule_score.specs.TimesharePriority.{IsNice}
use Rattle.ule_types.specs.Commands.{is_nice}

-- a nice value that passes the test is one
pub nice_is : (n : ℤ) → is_nice n ≡ true → IsNice n
nice_is (pos n) is = let within : n ≤ 20 = leb-true n 20 is in (omega (arith, ints), omega (arith, ints))
nice_is (negsuc n) is = let within : n < 20 = ltb-true n 20 is in (omega (arith, ints), omega (arith, ints))

-- a number that lies in a range which ends below 256 is below 256
pub within_byte : (low high p : ℕ) → high < 256 → is_within low high p ≡ true → p < 256
within_byte low high p small within = omega (arith, small, leb-true p high (and_parts (nat_le low p) (nat_le p high) within).1)
