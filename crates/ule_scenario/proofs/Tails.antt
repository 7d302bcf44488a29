-- One more of the words of a line of which there may be many.
use Rattle.std.proofs.Common.{◌≡◌, ℕ, zero, suc, ◌+◌, ◌^◌, ◌<◌, ◌≤◌, min, ◌||◌, true, false, List, [], ◌∷◌, ◌++◌, length, map, drop, refl, sym, arith, ap, ◌∙◌, Option, Some, None}
use Rattle.std.specs.Prelude.{max, fold, nat_le, nat_lt}
use Rattle.std.specs.List.{list_any}
use Rattle.std.proofs.lemmas.Bool.{ltb-true, ltb-false}
use Rattle.std.proofs.lemmas.Bool.Decides.{nat_tests}
use Rattle.std.proofs.Math.Nat.{pow-le-pow_right}
use Rattle.std.proofs.lemmas.Grind.{fold-append, common_steps, pow_more}
use Rattle.std.proofs.lemmas.List.{map-append}
use Rattle.ule_scenario.specs.declared.token.Token.{Token}
use Rattle.ule_scenario.specs.Forms.{num, nums, number_fault, first_fault, cpu_faults, has_word}
use Rattle.ule_scenario.specs.Effects.{bits_of}
use Rattle.ule_scenario.specs.TailKept.{most_of, next_cpu, first_clamped, clamped, turns_kept, cpus_kept, bits_unless}
use Rattle.ule_scenario.proofs.Faults.{number_within, number_from, head_passes, rest_passes, first_passes, second_passes}

-- ---- words behind the first few

-- with a word there before it, one more stands behind the others
drop_more : (k : ℕ) (line : List Token) (t : Token) → k ≤ length line → drop k (line ++ t ∷ []) ≡ drop k line ++ t ∷ []
drop_more zero line t there = refl
drop_more (suc k) [] t there = absurd (omega arith)
drop_more (suc k) (u ∷ line) t there = drop_more k line t (omega arith)

-- with fewer words before it, none stands behind
drop_none : (k : ℕ) (line : List Token) (t : Token) → length line < k → drop k (line ++ t ∷ []) ≡ drop k line
drop_none zero line t few = absurd (omega arith)
drop_none (suc zero) [] t few = refl
drop_none (suc (suc k)) [] t few = refl
drop_none (suc k) (u ∷ line) t few = drop_none k line t (omega arith)

-- a word behind the first
pub behind_first : (line : List Token) (t : Token) → has_word line 0 ≡ true → drop 1 (line ++ t ∷ []) ≡ drop 1 line ++ t ∷ []
behind_first line t there = let some = ltb-true 0 (length line) there in drop_more 1 line t (omega arith)

-- the first word
pub first_itself : (line : List Token) (t : Token) → has_word line 0 ≡ false → drop 1 (line ++ t ∷ []) ≡ drop 1 line
first_itself line t there = let none = ltb-false 0 (length line) there in drop_none 1 line t (omega arith)

-- a word behind the third
pub behind_third : (line : List Token) (t : Token) → has_word line 2 ≡ true → drop 3 (line ++ t ∷ []) ≡ drop 3 line ++ t ∷ []
behind_third line t there = let some = ltb-true 2 (length line) there in drop_more 3 line t (omega arith)

-- one of the first three words
pub third_itself : (line : List Token) (t : Token) → has_word line 2 ≡ false → drop 3 (line ++ t ∷ []) ≡ drop 3 line
third_itself line t there = let none = ltb-false 2 (length line) there in drop_none 3 line t (omega arith)

-- ---- reasons, and the greatest

-- the first of some reasons with one more
first_grows : (xs : List (Option ℕ)) (x : Option ℕ) → first_fault (xs ++ x ∷ []) ≡ first_fault (first_fault xs ∷ x ∷ [])
first_grows [] x = refl
first_grows (None ∷ xs) x = first_grows xs x
first_grows (Some n ∷ xs) x = refl

-- the first reason against turns with one more
fault_grows : (ts : List Token) (t : Token) → first_fault (map (number_fault 0 15) (ts ++ t ∷ [])) ≡ first_fault (first_fault (map (number_fault 0 15) ts) ∷ number_fault 0 15 t ∷ [])
fault_grows ts t = ap first_fault (map-append (number_fault 0 15) ts (t ∷ [])) ∙ first_grows (map (number_fault 0 15) ts) (number_fault 0 15 t)

-- the reasons against CPUs with one more
faults_grow : (from : ℕ) (ts : List Token) (t : Token) → cpu_faults from (ts ++ t ∷ []) ≡ cpu_faults from ts ++ number_fault (next_cpu from ts) 15 t ∷ []
faults_grow from [] t = refl
faults_grow from (u ∷ ts) t = ap (λ (l : List (Option ℕ)). number_fault from 15 u ∷ l) (faults_grow (num (u ∷ []) 0 + 1) ts t)

-- the first reason against CPUs with one more
falling_grows : (ts : List Token) (t : Token) → first_fault (cpu_faults 0 (ts ++ t ∷ [])) ≡ first_fault (first_fault (cpu_faults 0 ts) ∷ number_fault (next_cpu 0 ts) 15 t ∷ [])
falling_grows ts t = ap first_fault (faults_grow 0 ts t) ∙ first_grows (cpu_faults 0 ts) (number_fault (next_cpu 0 ts) 15 t)

-- the least CPU that may come after one more
next_grows : (ts : List Token) (t : Token) → next_cpu 0 (ts ++ t ∷ []) ≡ num (t ∷ []) 0 + 1
next_grows ts t = fold-append (λ n t. num (t ∷ []) 0 + 1) 0 ts (t ∷ [])

-- the greatest with one more
most_grows : (ts : List Token) (t : Token) → most_of (nums (ts ++ t ∷ [])) ≡ max (most_of (nums ts)) (num (t ∷ []) 0)
most_grows ts t = ap most_of (map-append (λ (u : Token). num (u ∷ []) 0) ts (t ∷ [])) ∙ fold-append max 0 (nums ts) (num (t ∷ []) 0 ∷ [])

-- whether a number or one of some others is not below another
any_from : (cpus m : ℕ) (ns : List ℕ) → nat_le cpus (fold max m ns) ≡ (nat_le cpus m || list_any (λ w. nat_le cpus w) ns)
any_from cpus m [] = grind (arith, common_steps)
any_from cpus m (n ∷ ns) = any_from cpus (max m n) ns ∙ grind (arith, nat_tests)

-- whether one of some numbers, of which there is one, is not below another number
pub any_by_most : (cpus : ℕ) (ns : List ℕ) → 0 < length ns → nat_le cpus (most_of ns) ≡ list_any (λ w. nat_le cpus w) ns
any_by_most cpus [] some = absurd (omega arith)
any_by_most cpus (n ∷ ns) some =
    let e : max 0 n ≡ n = omega arith in
    ap (λ (m : ℕ). nat_le cpus (fold max m ns)) e ∙ any_from cpus n ns

-- the numbers of words with one more
pub nums_grow : (ts : List Token) (t : Token) → nums (ts ++ t ∷ []) ≡ nums ts ++ num (t ∷ []) 0 ∷ []
nums_grow ts t = map-append (λ (u : Token). num (u ∷ []) 0) ts (t ∷ [])

-- as many numbers as words
pub length_nums : (ts : List Token) → length (nums ts) ≡ length ts
length_nums [] = refl
length_nums (t ∷ ts) = ap suc (length_nums ts)

-- ---- turns

-- of no numbers none is kept
pub none_clamped : (k : ℕ) → first_clamped k [] ≡ []
unfolding first_clamped
none_clamped zero = refl
none_clamped (suc k) = refl

-- the first k with one more, where they are fewer
clamped_below : (k : ℕ) (ns : List ℕ) (n : ℕ) → length (first_clamped k ns) < k → first_clamped k (ns ++ n ∷ []) ≡ first_clamped k ns ++ min n 255 ∷ []
unfolding first_clamped
clamped_below zero ns n few = absurd (omega arith)
clamped_below (suc k) [] n few = ap (λ (l : List ℕ). min n 255 ∷ l) (none_clamped k)
clamped_below (suc k) (m ∷ ns) n few = ap (λ (l : List ℕ). min m 255 ∷ l) (clamped_below k ns n (omega arith))

-- the first k with one more, where they are so many
clamped_from : (k : ℕ) (ns : List ℕ) (n : ℕ) → k ≤ length (first_clamped k ns) → first_clamped k (ns ++ n ∷ []) ≡ first_clamped k ns
unfolding first_clamped
clamped_from zero ns n many = refl
clamped_from (suc k) [] n many = absurd (omega arith)
clamped_from (suc k) (m ∷ ns) n many = ap (λ (l : List ℕ). min m 255 ∷ l) (clamped_from k ns n (omega arith))

-- how many the first k of some numbers are
pub length_clamped : (k : ℕ) (ns : List ℕ) → length (first_clamped k ns) ≡ min k (length ns)
unfolding first_clamped
length_clamped zero ns = omega arith
length_clamped (suc k) [] = omega arith
length_clamped (suc k) (m ∷ ns) = omega (arith, length_clamped k ns)

-- the first 4,097 with one more, where they are fewer
pub clamped_more : (ns : List ℕ) (n : ℕ) → length (clamped ns) < 4097 → clamped (ns ++ n ∷ []) ≡ clamped ns ++ min n 255 ∷ []
clamped_more ns n few = clamped_below 4097 ns n few

-- the first 4,097 with one more, where they are so many
pub clamped_full : (ns : List ℕ) (n : ℕ) → 4097 ≤ length (clamped ns) → clamped (ns ++ n ∷ []) ≡ clamped ns
clamped_full ns n many = clamped_from 4097 ns n many

-- what is kept of turns with one more
pub turns_grow : (ts : List Token) (t : Token) → turns_kept (ts ++ t ∷ []) ≡ record {
  any = true;
  fault = first_fault (first_fault (map (number_fault 0 15) ts) ∷ number_fault 0 15 t ∷ []);
  most = max (most_of (nums ts)) (num (t ∷ []) 0);
  first = clamped (nums ts ++ num (t ∷ []) 0 ∷ []);
}
unfolding turns_kept
turns_grow ts t =
    let some : nat_lt 0 (length (ts ++ t ∷ [])) ≡ true = grind (arith, common_steps) in
    rw (fault_grows ts t, most_grows ts t, nums_grow ts t, some) refl

-- more than 4,096 with the first 4,097 of some are more with all of these
pub many_turns : (a : ℕ) (ns : List ℕ) → nat_lt 4096 (a + length (clamped ns)) ≡ nat_lt 4096 (a + length ns)
many_turns a ns = rw (length_clamped 4097 ns) (grind (arith, nat_tests))

-- the numbers of workers among the first k are as they are kept
passing_clamped : (k : ℕ) (ts : List Token) → first_fault (map (number_fault 0 15) ts) ≡ None → length (first_clamped k (nums ts)) < k → first_clamped k (nums ts) ≡ nums ts
unfolding first_clamped
passing_clamped zero ts pass few = absurd (omega arith)
passing_clamped (suc k) [] pass few = refl
passing_clamped (suc k) (t ∷ ts) pass few =
    let small = number_within 0 15 t (head_passes (number_fault 0 15 t) (map (number_fault 0 15) ts) pass) in
    let same : min (num (t ∷ []) 0) 255 ≡ num (t ∷ []) 0 = omega (arith, small) in
    ap (λ (l : List ℕ). min (num (t ∷ []) 0) 255 ∷ l) (passing_clamped k ts (rest_passes (number_fault 0 15 t) (map (number_fault 0 15) ts) pass) (omega arith))
    ∙ ap (λ (n : ℕ). n ∷ nums ts) same

-- numbers of workers are as they are kept
pub turns_pass : (ts : List Token) → first_fault (map (number_fault 0 15) ts) ≡ None → length (clamped (nums ts)) ≤ 4096 → clamped (nums ts) ≡ nums ts
turns_pass ts pass few = passing_clamped 4097 ts pass (omega arith)

-- ---- CPUs

-- CPUs that rise from one on, at most 15, as bits: all of them are below the bit of the least that may come next
rising_bits : (from : ℕ) (ts : List Token) → first_fault (cpu_faults from ts) ≡ None → bits_of (nums ts) + 2 ^ from ≤ 2 ^ next_cpu from ts
rising_bits from [] pass = omega arith
rising_bits from (t ∷ ts) pass =
    let n = num (t ∷ []) 0 in
    let first = head_passes (number_fault from 15 t) (cpu_faults (n + 1) ts) pass in
    let low : from ≤ n = number_from from 15 t first in
    let rest = rising_bits (n + 1) ts (rest_passes (number_fault from 15 t) (cpu_faults (n + 1) ts) pass) in
    omega (arith, rest, pow_more 2 n, pow-le-pow_right {n = 2} (omega arith) {i = from} {j = n} low)

-- the bits of CPUs with one more
bits_more : (ns : List ℕ) (n : ℕ) → bits_of (ns ++ n ∷ []) ≡ bits_of ns + 2 ^ n
bits_more [] n = omega arith
bits_more (m ∷ ns) n = omega (arith, bits_more ns n)

-- bits that are kept with one more CPU
pub bits_grow : (ts : List Token) (t : Token) (old bits : ℕ) (f : Option ℕ) → old ≡ bits_unless (first_fault (cpu_faults 0 ts)) (nums ts) →
    f ≡ first_fault (first_fault (cpu_faults 0 ts) ∷ number_fault (next_cpu 0 ts) 15 t ∷ []) →
    (f ≡ None → num (t ∷ []) 0 ≤ 15 → old + 2 ^ num (t ∷ []) 0 < 2 ^ 16 → bits ≡ old + 2 ^ num (t ∷ []) 0) → ((n : ℕ) → f ≡ Some n → bits ≡ 0) →
    bits ≡ bits_unless f (nums ts ++ num (t ∷ []) 0 ∷ [])
bits_grow ts t old bits f kept is given none = by_fault f refl
  where
    by_fault : (g : Option ℕ) → f ≡ g → bits ≡ bits_unless f (nums ts ++ num (t ∷ []) 0 ∷ [])
    by_fault (Some n) e = rw e (none n e)
    by_fault None e =
        let n = num (t ∷ []) 0 in
        let both : first_fault (first_fault (cpu_faults 0 ts) ∷ number_fault (next_cpu 0 ts) 15 t ∷ []) ≡ None = sym is ∙ e in
        let before = first_passes (first_fault (cpu_faults 0 ts)) (number_fault (next_cpu 0 ts) 15 t) both in
        let itself = second_passes (first_fault (cpu_faults 0 ts)) (number_fault (next_cpu 0 ts) 15 t) both in
        let small : n ≤ 15 = number_within (next_cpu 0 ts) 15 t itself in
        let low : next_cpu 0 ts ≤ n = number_from (next_cpu 0 ts) 15 t itself in
        let old_is : old ≡ bits_of (nums ts) = kept ∙ ap (λ (g : Option ℕ). bits_unless g (nums ts)) before in
        let fits : old + 2 ^ n < 2 ^ 16 = omega (arith, old_is, rising_bits 0 ts before, pow_more 2 n, pow-le-pow_right {n = 2} (omega arith) {i = next_cpu 0 ts} {j = n} low, pow-le-pow_right {n = 2} (omega arith) {i = n} {j = 15} small) in
        rw e (given e small fits ∙ ap (λ (m : ℕ). m + 2 ^ n) old_is ∙ sym (bits_more (nums ts) n))

-- what is kept of CPUs with one more
pub cpus_grow : (ts : List Token) (t : Token) (bits : ℕ) → bits ≡ bits_unless (first_fault (first_fault (cpu_faults 0 ts) ∷ number_fault (next_cpu 0 ts) 15 t ∷ [])) (nums ts ++ num (t ∷ []) 0 ∷ []) →
    cpus_kept (ts ++ t ∷ []) ≡ record {
      fault = first_fault (first_fault (cpu_faults 0 ts) ∷ number_fault (next_cpu 0 ts) 15 t ∷ []);
      any = true;
      next = num (t ∷ []) 0 + 1;
      most = max (most_of (nums ts)) (num (t ∷ []) 0);
      bits = bits;
    }
unfolding cpus_kept
cpus_grow ts t bits is =
    let some : nat_lt 0 (length (ts ++ t ∷ [])) ≡ true = grind (arith, common_steps) in
    rw (falling_grows ts t, next_grows ts t, most_grows ts t, nums_grow ts t, some, is) refl
