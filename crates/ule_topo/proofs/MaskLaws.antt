-- What the code of masks reads and writes.
use Rattle.std.proofs.Common.{◌≤◌, ◌≡◌, ℕ, true, false, min, ◌==◌, ◌*◌, ◌%◌, ◌^◌, ◌<◌, not, sym, ◌∙◌, ap, ⊎_elim, arith, eq-eqb, ne_eqb}
use Rattle.std.proofs.lemmas.Bool.{cases_eq, cases_lt, eqb-true, eqb-false, false_from_ne_true}
use Rattle.std.proofs.lemmas.Nat.{one_shl, pow_pos}
use Rattle.std.proofs.lemmas.Nat.Bits.{and_pow, bit_at-lt, bit_at-zero, bit_at_and, bit_at_clear_same, bit_at_ones, bit_at_ones_above}
use Rattle.std.specs.Prelude.{bit_and}
use Rattle.std.specs.Int.{bit_at, bit_not, w16}
use Rattle.ule_topo.specs.Mask.{all_cpus, has_cpu, is_inside, meets, without_cpu}

-- the test of one bit of a number
bit_read : (mask c : ℕ) → not (bit_and mask (2 ^ c) == 0) ≡ (bit_at mask c == 1)
bit_read mask c =
    let read = and_pow mask c in
    ⊎_elim
    (λ (one : bit_at mask c ≡ 1).
    let is : bit_and mask (2 ^ c) ≡ 1 * 2 ^ c = read ∙ ap (λ b. b * 2 ^ c) one in
    ap not (ne_eqb (bit_and mask (2 ^ c)) 0 (λ none. absurd (omega (arith, pow_pos c)))) ∙ sym (eq-eqb (bit_at mask c) 1 one))
    (λ (other : bit_at mask c ≡ 1 → ⊥).
    let none : bit_at mask c ≡ 0 = omega (arith, bit_at-lt mask c) in
    let is : bit_and mask (2 ^ c) ≡ 0 = read ∙ ap (λ b. b * 2 ^ c) none ∙ (omega arith) in
    ap not (eq-eqb (bit_and mask (2 ^ c)) 0 is) ∙ sym (ne_eqb (bit_at mask c) 1 other))
    (cases_eq (bit_at mask c) 1)

-- the code's test of a CPU
pub has_cpu_read : (mask c : ℕ) → c < 16 → not (bit_and mask (1 * 2 ^ c % 2 ^ 16) == 0) ≡ has_cpu mask c
unfolding has_cpu
has_cpu_read mask c within = ap (λ n. not (bit_and mask n == 0)) (one_shl c 16 within) ∙ bit_read mask c

-- the code's removal of a CPU
pub without_cpu_read : (mask c : ℕ) → c < 16 → bit_and mask (bit_not w16 (1 * 2 ^ c % 2 ^ 16)) ≡ without_cpu c mask
unfolding without_cpu
without_cpu_read mask c within = ap (λ n. bit_and mask (bit_not w16 n)) (one_shl c 16 within)

-- a CPU of a mask that is inside another one is in the other
pub has_cpu_outside : (inner outer c : ℕ) → is_inside inner outer ≡ true → has_cpu inner c ≡ true → has_cpu outer c ≡ true
unfolding has_cpu is_inside
has_cpu_outside inner outer c inside is_in =
    let whole : bit_and inner outer ≡ inner = eqb-true (bit_and inner outer) inner inside in
    let one : bit_at inner c ≡ 1 = eqb-true (bit_at inner c) 1 is_in in
    let both : bit_at inner c ≡ min (bit_at inner c) (bit_at outer c) = ap (λ n. bit_at n c) (sym whole) ∙ bit_at_and inner outer c in
    eq-eqb (bit_at outer c) 1 (omega (arith, bit_at-lt outer c))

-- masks that have a CPU in common meet
pub meets_with : (a b c : ℕ) → has_cpu a c ≡ true → has_cpu b c ≡ true → meets a b ≡ true
unfolding has_cpu meets
meets_with a b c one other =
    let one_a : bit_at a c ≡ 1 = eqb-true (bit_at a c) 1 one in
    let one_b : bit_at b c ≡ 1 = eqb-true (bit_at b c) 1 other in
    ap not (false_from_ne_true (bit_and a b == 0) (λ none.
    let same : bit_at (bit_and a b) c ≡ 0 = ap (λ n. bit_at n c) (eqb-true (bit_and a b) 0 none) ∙ bit_at-zero c in
    let both = bit_at_and a b c in omega arith))

-- a CPU that the code takes out is in the mask no longer
pub without_cpu_same : (mask c : ℕ) → c < 16 → has_cpu (bit_and mask (bit_not w16 (1 * 2 ^ c % 2 ^ 16))) c ≡ false
unfolding has_cpu
without_cpu_same mask c within = ap (λ b. b == 1) (bit_at_clear_same w16 mask c within)

-- and no CPU comes in
pub without_cpu_rest : (mask c d : ℕ) → has_cpu mask d ≡ false → has_cpu (bit_and mask (bit_not w16 (1 * 2 ^ c % 2 ^ 16))) d ≡ false
unfolding has_cpu
without_cpu_rest mask c d is_out =
    let left = bit_not w16 (1 * 2 ^ c % 2 ^ 16) in
    let none = eqb-false (bit_at mask d) 1 is_out in
    let both = bit_at_and mask left d in
    ne_eqb (bit_at (bit_and mask left) d) 1 (λ one. none (omega (arith, bit_at-lt mask d)))

-- the mask of the first n CPUs has each of them
pub all_cpus_have : (n c : ℕ) → c < n → has_cpu (all_cpus n) c ≡ true
unfolding has_cpu
all_cpus_have n c within = eq-eqb (bit_at (all_cpus n) c) 1 (bit_at_ones n c within)

-- and no other
pub all_cpus_there : (n c : ℕ) → has_cpu (all_cpus n) c ≡ true → c < n
unfolding has_cpu
all_cpus_there n c is_in =
    let one : bit_at (all_cpus n) c ≡ 1 = eqb-true (bit_at (all_cpus n) c) 1 is_in in
    ⊎_elim (λ (less : c < n). less) (λ (more : n ≤ c). let none : bit_at (all_cpus n) c ≡ 0 = bit_at_ones_above n c more in absurd (omega arith)) (cases_lt c n)
