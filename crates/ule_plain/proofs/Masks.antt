-- The CPUs of a mask, rising, and the mask that they make.
use Rattle.std.proofs.Common.{subst, ◌≡◌, ℕ, zero, suc, ◌+◌, ◌*◌, ◌%◌, ◌^◌, ◌<◌, ◌≤◌, Bool, true, false, List, [], ◌∷◌, ◌++◌, length, refl, sym, ap, ◌∙◌, arith, ⊎_elim, add-one}
use Rattle.std.specs.Prelude.{filter, nat_le, ◌&&◌}
use Rattle.std.specs.Int.{bit_at}
use Rattle.std.specs.List.{list_any}
use Rattle.std.proofs.lemmas.Bool.{and_parts, leb-true, le-leb, eqb-true, eqb-false, cases_lt}
use Rattle.std.proofs.lemmas.Bool.Decides.{nat_tests}
use Rattle.std.proofs.lemmas.Nat.{mod-pow-add}
use Rattle.std.proofs.lemmas.Nat.Bits.{bit_at-lt, bit_at_above}
use Rattle.ule_topo.proofs.BelowLaws.{filter_below_none, filter_below_in, filter_below_out}
use Rattle.ule_topo.specs.Mask.{below, has_cpu}
use Rattle.ule_scenario.specs.Effects.{bits_of}
use Rattle.ule_plain.specs.Lines.{cpus_of_mask}

-- ---- bits

-- one more CPU has one more bit
bits_more : (cs : List ℕ) (c : ℕ) → bits_of (cs ++ c ∷ []) ≡ bits_of cs + 2 ^ c
bits_more [] c = omega arith
bits_more (d ∷ cs) c = omega (arith, bits_more cs c)

-- one more bit of a number
mod_more : (m n : ℕ) → m % 2 ^ (n + 1) ≡ bit_at m n * 2 ^ n + m % 2 ^ n
mod_more m n =
    let turned : n + 1 ≡ 1 + n = omega arith in
    ap (λ k. m % 2 ^ k) turned ∙ mod-pow-add m 1 n

-- the bits of the CPUs of a mask below n
bits_below : (m n : ℕ) → bits_of (filter (has_cpu m) (below n)) ≡ m % 2 ^ n
unfolding has_cpu
bits_below m zero = ap bits_of (filter_below_none (has_cpu m)) ∙ (omega arith)
bits_below m (suc n) = subst (λ (k : ℕ). bits_of (filter (has_cpu m) (below k)) ≡ m % 2 ^ k) (add-one n) (by_bit (has_cpu m n) refl (bits_below m n))
  where
    by_bit : (b : Bool) → has_cpu m n ≡ b → bits_of (filter (has_cpu m) (below n)) ≡ m % 2 ^ n → bits_of (filter (has_cpu m) (below (n + 1))) ≡ m % 2 ^ (n + 1)
    by_bit true is so_far =
        let one : bit_at m n ≡ 1 = eqb-true (bit_at m n) 1 is in
        let power : 1 * 2 ^ n ≡ 2 ^ n = omega arith in
        let next : m % 2 ^ (n + 1) ≡ 2 ^ n + m % 2 ^ n = mod_more m n ∙ ap (λ b. b * 2 ^ n + m % 2 ^ n) one ∙ ap (λ p. p + m % 2 ^ n) power in
        ap bits_of (filter_below_in (has_cpu m) n is) ∙ bits_more (filter (has_cpu m) (below n)) n ∙ omega (arith, so_far, next)
    by_bit false is so_far =
        let other = eqb-false (bit_at m n) 1 is in
        let none : bit_at m n ≡ 0 = omega (arith, bit_at-lt m n) in
        let next : m % 2 ^ (n + 1) ≡ m % 2 ^ n = mod_more m n ∙ ap (λ b. b * 2 ^ n + m % 2 ^ n) none ∙ omega arith in
        ap bits_of (filter_below_out (has_cpu m) n is) ∙ so_far ∙ sym next

-- a mask of 16 bits is that of its CPUs
pub bits_back : (m : ℕ) → m < 2 ^ 16 → bits_of (cpus_of_mask m) ≡ m
bits_back m small = bits_below m 16 ∙ omega arith

-- a mask that isn't empty has a CPU
pub some_cpu : (m : ℕ) → m < 2 ^ 16 → 1 ≤ m → 1 ≤ length (cpus_of_mask m)
some_cpu m small some = by_cpus (cpus_of_mask m) (bits_back m small)
  where
    by_cpus : (cs : List ℕ) → bits_of cs ≡ m → 1 ≤ length cs
    by_cpus [] is = absurd (omega (arith, some, is))
    by_cpus (c ∷ cs) is = omega arith

-- ---- order

-- numbers that rise, from a least one on, to 15
abbrev pub do_rise : ℕ → List ℕ → Bool
do_rise from [] = true
do_rise from (n ∷ ns) = nat_le from n && nat_le n 15 && do_rise (n + 1) ns

-- from a lesser one on they do so too
rise_from : (a b : ℕ) (ns : List ℕ) → a ≤ b → do_rise b ns ≡ true → do_rise a ns ≡ true
rise_from a b [] le rise = refl
rise_from a b (n ∷ ns) le rise =
    let parts = and_parts (nat_le b n && nat_le n 15) (do_rise (n + 1) ns) rise in
    let range = and_parts (nat_le b n) (nat_le n 15) parts.0 in
    rw (le-leb a n (omega (arith, le, leb-true b n range.0)), range.1, parts.1) refl

-- those of them that pass a test rise
rise_filtered : (p : ℕ → Bool) (from : ℕ) (ns : List ℕ) → do_rise from ns ≡ true → do_rise from (filter p ns) ≡ true
rise_filtered p from [] rise = refl
rise_filtered p from (n ∷ ns) rise =
    let parts = and_parts (nat_le from n && nat_le n 15) (do_rise (n + 1) ns) rise in
    by_test (p n) refl parts.0 (rise_filtered p (n + 1) ns parts.1)
  where
    by_test : (b : Bool) → p n ≡ b → (nat_le from n && nat_le n 15) ≡ true → do_rise (n + 1) (filter p ns) ≡ true → do_rise from (filter p (n ∷ ns)) ≡ true
    by_test true is range rest = rw (is, range) rest
    by_test false is range rest =
        let low = leb-true from n (and_parts (nat_le from n) (nat_le n 15) range).0 in
        rw is (rise_from from (n + 1) (filter p ns) (omega (arith, low)) rest)

-- 16 CPUs rise, and so do those of a mask
sixteen_rise : do_rise 0 (below 16) ≡ true
unfolding below
sixteen_rise = refl

pub cpus_rise : (m : ℕ) → do_rise 0 (cpus_of_mask m) ≡ true
cpus_rise m = rise_filtered (has_cpu m) 0 (below 16) sixteen_rise

-- ---- range

-- of a mask of so many bits each CPU is there
pub cpus_there : (m k : ℕ) → m < 2 ^ k → list_any (λ c. nat_le k c) (cpus_of_mask m) ≡ false
unfolding has_cpu
cpus_there m k small = each (below 16)
  where
    each : (ns : List ℕ) → list_any (λ c. nat_le k c) (filter (has_cpu m) ns) ≡ false
    each [] = refl
    each (n ∷ ns) = by_test (has_cpu m n) refl (each ns)
      where
        by_test : (b : Bool) → has_cpu m n ≡ b → list_any (λ c. nat_le k c) (filter (has_cpu m) ns) ≡ false → list_any (λ c. nat_le k c) (filter (has_cpu m) (n ∷ ns)) ≡ false
        by_test true is rest =
            let one : bit_at m n ≡ 1 = eqb-true (bit_at m n) 1 is in
            let within : n < k = ⊎_elim (λ (less : n < k). less) (λ (more : k ≤ n). absurd (omega (arith, bit_at_above m k n small more, one))) (cases_lt n k) in
            let test : nat_le k n ≡ false = grind (arith, nat_tests) in
            rw (is, test) rest
        by_test false is rest = rw is rest
