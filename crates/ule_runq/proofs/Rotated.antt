-- A word that is turned: where its bits go.
use Rattle.std.proofs.Common.{◌≡◌, ℕ, ◌+◌, ◌-◌, ◌*◌, ◌/◌, ◌%◌, ◌^◌, ◌<◌, ◌≤◌, max, refl, sym, ◌∙◌, ap, ⊎_elim, arith, w64, mod-lt}
use Rattle.std.proofs.lemmas.Bool.{cases_lt, cases_eq}
use Rattle.std.proofs.lemmas.Nat.{or_lt, shr_le, shr-shr, pow_pos, shr_split}
use Rattle.std.proofs.lemmas.Nat.Bits.{bit_at-zero, bit_at_or, bit_at_above, bit_at_cat_low, bit_at_cat_high}
use Rattle.std.specs.Int.{bit_at, rotate_right}

-- the bits of a word that is shifted right
bit_at_shr : (n b j : ℕ) → bit_at (n / 2 ^ b) j ≡ bit_at n (b + j)
bit_at_shr n b j = ap (λ x. x % 2) (shr-shr n b j)

-- the low bits of a word are those of its remainder
bit_at_mod : (n w j : ℕ) → j < w → bit_at (n % 2 ^ w) j ≡ bit_at n j
bit_at_mod n w j low =
    sym (bit_at_cat_low (n / 2 ^ w) w (n % 2 ^ w) j low)
    ∙ ap (λ x. bit_at x j) (shr_split n w)

-- the low bits of a word that is shifted left are 0
bit_at_shl_low : (n c j : ℕ) → j < c → bit_at (n * 2 ^ c) j ≡ 0
bit_at_shl_low n c j low = ap (λ x. bit_at x j) (omega arith) ∙ bit_at_cat_low n c 0 j low ∙ bit_at-zero j

-- its other bits are those of the word
bit_at_shl_high : (n c j : ℕ) → c ≤ j → bit_at (n * 2 ^ c) j ≡ bit_at n (j - c)
bit_at_shl_high n c j high = ap (λ x. bit_at x j) (omega arith) ∙ bit_at_cat_high n c 0 j (pow_pos c) high

-- a word that is turned right by b has at place j its bit b + j, going round
pub bit_at_rotated : (n b j : ℕ) → n < 2 ^ 64 → b < 64 → j < 64 → bit_at (rotate_right w64 n b) j ≡ bit_at n ((b + j) % 64)
bit_at_rotated n b j fits turn place =
    let by : b % 64 ≡ b = omega arith in
    let low : ℕ = n / 2 ^ b in
    rw by
    (⊎_elim
    (λ (none : b ≡ 0).
    let still : (64 - 0) % 64 ≡ 0 = refl in
    rw none rw still (bit_at_or (n / 2 ^ 0) (n * 2 ^ 0 % 2 ^ 64) j ∙ rw (bit_at_shr n 0 j, bit_at_mod (n * 2 ^ 0) 64 j place, bit_at_shl_high n 0 j (omega arith)) (at_zero j place)))
    (λ (some : b ≡ 0 → ⊥).
    let back : (64 - b) % 64 ≡ 64 - b = omega arith in
    rw back
    (bit_at_or (n / 2 ^ b) (n * 2 ^ (64 - b) % 2 ^ 64) j
    ∙ rw (bit_at_shr n b j, bit_at_mod (n * 2 ^ (64 - b)) 64 j place)
    (⊎_elim
    (λ (before : b + j < 64).
    let same : (b + j) % 64 ≡ b + j = omega arith in
    rw (bit_at_shl_low n (64 - b) j (omega arith), same) (omega arith))
    (λ (past : 64 ≤ b + j).
    let same : (b + j) % 64 ≡ j - (64 - b) = omega arith in
    rw (bit_at_shl_high n (64 - b) j (omega arith), bit_at_above n 64 (b + j) fits past, same) (omega arith))
    (cases_lt (b + j) 64))))
    (cases_eq b 0))
  where
    at_zero : (j : ℕ) → j < 64 → max (bit_at n (0 + j)) (bit_at n (j - 0)) ≡ bit_at n ((0 + j) % 64)
    at_zero j place =
        let a : (0 + j) % 64 ≡ j = omega arith in
        let b : 0 + j ≡ j = omega arith in
        let c : j - 0 ≡ j = omega arith in rw (a, b, c) (omega arith)

-- a word that is turned is a word
pub rotated_lt : (n b : ℕ) → n < 2 ^ 64 → rotate_right w64 n b < 2 ^ 64
rotated_lt n b fits = or_lt 64 (n / 2 ^ (b % 64)) (n * 2 ^ ((64 - b % 64) % 64) % 2 ^ 64) (omega (arith, shr_le n (b % 64))) (mod-lt _ (pow_pos 64))
