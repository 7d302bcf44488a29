use Rattle.std.proofs.Common.{ℕ, ◌-◌, ◌*◌, ◌/◌, ◌<◌, ◌≤◌, refl, arith}
use Rattle.std.proofs.Math.Nat.{div-mul-le_self}
use Rattle.std.proofs.lemmas.Bool.Decides.{nat_tests}
use Rattle.std.proofs.lemmas.Nat.{mul-le}
use Rattle.ule_history.specs.declared.CpuUse.{CpuUse}
use Rattle.ule_history.specs.CpuUseUpdate.{windowed_use, kept_ticks, slid_use, ran_ticks, updated_use, IsBoundedUse, CpuUseUpdateIsBounded}

-- the mean rate over fewer ticks than it was taken over gives no more than there was
scaled-le : (ticks span part : ℕ) → part ≤ span → ticks / span * part ≤ ticks
scaled-le ticks span part within =
    omega (arith, div-mul-le_self ticks span, mul-le (ticks / span) part (ticks / span) span (omega arith) within)

-- a window that slides keeps no more ticks than it had
pub kept_ticks-le : (u : CpuUse) (now : ℕ) → u.ltick ≤ now → now - u.ltick < 10000 → 11000 ≤ now - u.ftick →
    kept_ticks u now ≤ u.ticks
unfolding kept_ticks
kept_ticks-le u now past recent long =
    scaled-le u.ticks (u.ltick - u.ftick) (u.ltick - (now - 10000)) (omega arith)

-- a window that slides begins before now and holds no more than there was time
pub slid_use-le : (u : CpuUse) (now : ℕ) → IsBoundedUse u → u.ltick ≤ now →
    ((slid_use u now).ftick ≤ now) × ((slid_use u now).ticks ≤ 1024 * u.ltick)
unfolding slid_use windowed_use
slid_use-le u now bounded past = grind (arith, nat_tests, kept_ticks-le u now past)

-- an update at a later time leaves a bounded use bounded, and notes the time
pub IsBoundedUse-updated_use : CpuUseUpdateIsBounded
unfolding updated_use ran_ticks
IsBoundedUse-updated_use u now running bounded past =
    let slid = slid_use-le u now bounded past in
    (record { ordered = slid.0; within = grind (arith, nat_tests, slid.1) }, refl)
