-- What the scheduler keeps of the end of a play keeps the room, and gets the values in the order of their locks.
use Rattle.std.proofs.Common.{◌≡◌, ℕ, zero, suc, ◌+◌, ◌<◌, ◌≤◌, Bool, true, false, nat_lt, List, [], ◌∷◌, ◌++◌, take, drop, length, refl, subst, arith, if◌then◌else◌}
use Rattle.std.specs.Prelude.{min, unwrap_or}
use Rattle.std.proofs.lemmas.Bool.{ltb-true, ltb-false}
use Rattle.ule_score.specs.declared.record.CpuLine.{CpuLine}
use Rattle.ule_types.specs.Outcome.{with_cpu}
use Rattle.ule_types.specs.declared.setup.Setup.{Setup}
use Rattle.ule_micro.specs.Notes.{AreSound}
use Rattle.ule_seq.specs.Notes.{blank_line, sched_notes}
use Rattle.ule_seq.specs.Outcomes.{queue_line}

-- with one line set there are no fewer lines
no_fewer_past : (c : ℕ) (x : CpuLine) (lines : List CpuLine) → length lines ≤ length (take c lines ++ x ∷ drop (suc c) lines)
no_fewer_past zero x [] = omega arith
no_fewer_past zero x (y ∷ lines) = omega arith
no_fewer_past (suc c) x [] = omega arith
no_fewer_past (suc c) x (y ∷ lines) = let z = no_fewer_past c x lines in omega arith

no_fewer : (c : ℕ) (x : CpuLine) (lines : List CpuLine) → length lines ≤ length (with_cpu c x lines)
no_fewer c x lines = subst (λ k. length lines ≤ length (take c lines ++ x ∷ drop k lines)) (let z : suc c ≡ c + 1 = omega arith in z) (no_fewer_past c x lines)

-- and that one is among them
is_among_past : (c : ℕ) (x : CpuLine) (lines : List CpuLine) → c ≤ length lines → c < length (take c lines ++ x ∷ drop (suc c) lines)
is_among_past zero x [] low = omega arith
is_among_past zero x (y ∷ lines) low = omega arith
is_among_past (suc c) x [] low = absurd (omega (arith, low))
is_among_past (suc c) x (y ∷ lines) low = let z = is_among_past c x lines (omega (arith, low)) in omega arith

is_among_them : (c : ℕ) (x : CpuLine) (lines : List CpuLine) → c ≤ length lines → c < length (with_cpu c x lines)
is_among_them c x lines low = subst (λ k. c < length (take c lines ++ x ∷ drop k lines)) (let z : suc c ≡ c + 1 = omega arith in z) (is_among_past c x lines low)

-- the same where the line is set under a condition
no_fewer_if : (b : Bool) (c : ℕ) (x : CpuLine) (lines : List CpuLine) → length lines ≤ length (if b then with_cpu c x lines else lines)
no_fewer_if true c x lines = no_fewer c x lines
no_fewer_if false c x lines = omega arith

-- behind the value of a lock there are lines of all CPUs up to its number
all_up_to : (b : Bool) (count l : ℕ) (x : CpuLine) (lines : List CpuLine) → nat_lt l count ≡ b → min l count ≤ length lines → min (l + 1) count ≤ length (if b then with_cpu l x lines else lines)
all_up_to true count l x lines is below =
    let low = ltb-true l count is in let there = is_among_them l x lines (omega (arith, low, below)) in omega (arith, there)
all_up_to false count l x lines is below = let past = ltb-false l count is in omega (arith, past, below)

-- what the scheduler keeps is sound
pub are_sound : (s : Setup) → AreSound (sched_notes s)
are_sound s = record {
  room = record { entry = λ o w now e r some. omega (arith, some); value = λ o l v. refl; word = λ o t w. refl; now = λ o now. refl };
  order = record {
    first = λ o. omega arith;
    next = λ o l v below. all_up_to (nat_lt l s.cpus) s.cpus l (unwrap_or (queue_line v) blank_line) o.cpus refl below;
    by_entry = λ o w now e r k below. below;
    by_value = λ o l v k below. let z = no_fewer_if (nat_lt l s.cpus) l (unwrap_or (queue_line v) blank_line) o.cpus in omega (arith, z, below);
    by_word = λ o t w k below. below;
    by_now = λ o now k below. below;
  };
}
