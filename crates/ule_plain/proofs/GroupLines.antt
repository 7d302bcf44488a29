-- What the line of a group gives.
use Rattle.std.proofs.Common.{◌≡◌, ℕ, ◌+◌, ◌^◌, ◌<◌, ◌≤◌, ◌==◌, Bool, true, false, ◌&&◌, Option, Some, None, Result, Ok, Err, List, [], ◌∷◌, ◌++◌, length, max, get_or, refl, arith}
use Rattle.std.specs.Prelude.{nat_lt, nat_le, is_ok, if◌then◌else◌}
use Rattle.std.specs.List.{list_all, list_any}
use Rattle.std.specs.Fmt.{decimal}
use Rattle.std.proofs.lemmas.Bool.{and_parts, leb-true, le-leb, ltb-true, ne_eqb, false≢true}
use Rattle.std.proofs.Math.Nat.{pow-le-pow_right}
use Rattle.std.proofs.lemmas.Fmt.{decimal_nonempty}
use Rattle.ule_topo.specs.Build.{built}
use Rattle.ule_topo.specs.Tree.{Tree}
use Rattle.ule_topo.specs.declared.fault.BuildFault.{BuildFault}
use Rattle.ule_topo.specs.declared.group.GroupLine.{GroupLine}
use Rattle.ule_scenario.specs.Effects.{bits_of, parent_in}
use Rattle.ule_scenario.specs.Forms.{nums, is_dash, parent_fault, cpu_faults, first_fault}
use Rattle.ule_scenario.specs.Names.{name_of, any_name}
use Rattle.ule_scenario.specs.Reading.{Reading, spent_items}
use Rattle.ule_scenario.specs.Reasons.{place_reason, word_reason, meaning_reason, fault_in}
use Rattle.ule_scenario.specs.Tokens.{token_of}
use Rattle.ule_scenario.specs.declared.name.Name.TheVariants.{Group, Other}
use Rattle.ule_scenario.specs.declared.token.Token.{Token}
use Rattle.ule_trace.specs.Line.{line_text, optional_word}
use Rattle.ule_plain.proofs.CommandLines.{keyword, not_above, not_past}
use Rattle.ule_plain.proofs.DeclaringLines.{IsOpen, not_first, not_before}
use Rattle.ule_plain.proofs.Leading.{Leads, Takes, leads_line, means_something}
use Rattle.ule_plain.proofs.Masks.{bits_back, some_cpu, cpus_rise, cpus_there}
use Rattle.ule_plain.proofs.NumberLists.{written, nums_back, no_falling, rising_small, written_are_words, length_written}
use Rattle.ule_plain.proofs.NumbersBack.{IsNumber, token_back, small_is_word, first_byte}
use Rattle.ule_plain.proofs.Topologies.{is_parent_number, is_in_range}
use Rattle.ule_text.proofs.Printed.{is_word}
use Rattle.ule_plain.specs.Lines.{cpus_of_mask, group_words}

-- ---- a parent

-- a digit is no letter
no_letter : (d k : ℕ) → d ≤ 57 → 57 < k → (d == k) ≡ false
no_letter d k low high = ne_eqb d k (λ e. omega (arith, e))

-- a word that begins with a digit isn't `-`
digit_no_dash : (w : List ℕ) → 0 < length w → 48 ≤ get_or w 0 0 → get_or w 0 0 ≤ 57 → is_dash (name_of w) ≡ false
digit_no_dash [] some from to = absurd (omega arith)
digit_no_dash (d ∷ w) some from to = by_length (nat_lt 16 (length (d ∷ w))) (no_letter d) to (ne_eqb d 45 (λ e. omega (arith, e)))
  where
    by_length : (b : Bool) → ((k : ℕ) → d ≤ 57 → 57 < k → (d == k) ≡ false) → d ≤ 57 → (d == 45) ≡ false → is_dash (if b then Other else any_name (d ∷ w)) ≡ false
    by_length true none low minus = refl
    by_length false none low minus = rw (
      minus,
      none 98 low (omega arith),
      none 99 low (omega arith),
      none 101 low (omega arith),
      none 102 low (omega arith),
      none 103 low (omega arith),
      none 105 low (omega arith),
      none 106 low (omega arith),
      none 108 low (omega arith),
      none 112 low (omega arith),
      none 114 low (omega arith),
      none 115 low (omega arith),
      none 116 low (omega arith),
      none 117 low (omega arith),
      none 119 low (omega arith),
      none 121 low (omega arith),
    ) refl

-- a word names this parent
record IsParent (t : Token) (parent : Option ℕ) : Type 0 where
  fault : parent_fault t ≡ None
  value : parent_in t ≡ parent

-- a number that isn't `-`
number_is_parent : (t : Token) (id : ℕ) → IsNumber t id → is_dash t.name ≡ false → id ≤ 14 → IsParent t (Some id)
number_is_parent t id is other few = record {
  fault = rw (other, is.minus, is.number, le-leb 0 id (omega arith), le-leb id 14 few) refl;
  value = rw (other, is.minus, is.number) refl;
}

-- what is read of a written parent
parent_back : (parent : Option ℕ) → is_parent_number parent ≡ true → IsParent (token_of (optional_word parent)) parent
unfolding token_of
parent_back None small = record { fault = refl; value = refl }
parent_back (Some id) small =
    let few = leb-true id 14 small in
    let first = first_byte id (omega arith) in
    number_is_parent (token_of (decimal id)) id (token_back id (omega arith)) (digit_no_dash (decimal id) (decimal_nonempty id (omega arith)) first.0 first.1) few

-- it is a word of a written line
parent_is_word : (parent : Option ℕ) → is_parent_number parent ≡ true → is_word (optional_word parent) ≡ true
parent_is_word None small = refl
parent_is_word (Some id) small = let few = leb-true id 14 small in small_is_word id (omega arith)

-- ---- a group

-- no fault of a topology is told
no_fault_in : (x : Result Tree BuildFault) → is_ok x ≡ true → fault_in x ≡ None
no_fault_in (Ok tree) ok = refl
no_fault_in (Err f) ok = absurd (false≢true ok)

-- the words behind a line's first one give this group
record IsGroupOf (r : Reading) (w v : Token) (ts : List Token) (g : GroupLine) (cs : List ℕ) : Type 0 where
  number : IsNumber w g.id
  small : g.id ≤ 14
  parent : IsParent v g.parent
  some : 1 ≤ length ts
  rising : first_fault (cpu_faults 0 ts) ≡ None
  cpus : nums ts ≡ cs
  mask : bits_of cs ≡ g.cpus
  there : list_any (λ c. nat_le r.cpus c) cs ≡ false
  fault : fault_in (built r.cpus (r.groups ++ g ∷ [])) ≡ None
  few : length r.groups < 15

group_taken : (r : Reading) (w v : Token) (ts : List Token) (g : GroupLine) (cs : List ℕ) → IsGroupOf r w v ts g cs → IsOpen 5 r →
    Takes r (keyword Group ∷ w ∷ v ∷ ts) (record r { place = max r.place 5; groups = r.groups ++ g ∷ [] })
unfolding place_reason word_reason meaning_reason
group_taken r w v ts g cs is o =
    let from = o.from in
    let budget = o.budget in
    let some = is.some in
    record {
      means = means_something (keyword Group) (w ∷ v ∷ ts) refl;
      unopposed = rw (
        o.turns,
        is.number.minus,
        is.number.number,
        is.parent.fault,
        is.parent.value,
        le-leb 0 g.id (omega arith),
        le-leb g.id 14 is.small,
        is.rising,
        is.cpus,
        is.mask,
        is.there,
        is.fault,
        not_first r.place from,
        not_above r.place 5 o.to,
        not_past 15 (length r.groups) is.few,
        not_before r.place 3 (omega arith),
        not_before r.place 4 from,
        not_before (length (keyword Group ∷ w ∷ v ∷ ts)) 4 (omega (arith, some)),
        not_above (spent_items r + 0) 65536 (omega arith),
      ) refl;
      gives = rw (is.number.minus, is.number.number, is.parent.value, is.cpus, is.mask) refl;
    }

-- the words of a written line
group_is_words : (cpus : ℕ) (g : GroupLine) → is_in_range cpus g ≡ true → list_all is_word (group_words g) ≡ true
group_is_words cpus g range =
    let both = and_parts (nat_le g.id 14 && is_parent_number g.parent) (nat_lt g.cpus (2 ^ cpus)) range in
    let front = and_parts (nat_le g.id 14) (is_parent_number g.parent) both.0 in
    let few = leb-true g.id 14 front.0 in
    rw (small_is_word g.id (omega arith), parent_is_word g.parent front.1, written_are_words (cpus_of_mask g.cpus) (rising_small 0 (cpus_of_mask g.cpus) (cpus_rise g.cpus))) refl

-- so many bits of a mask are at most 16
power_small : (cpus m : ℕ) → cpus ≤ 16 → m < 2 ^ cpus → m < 2 ^ 16
power_small cpus m few below = let more : 2 ^ cpus ≤ 2 ^ 16 = pow-le-pow_right (omega arith) few in omega (arith, more)

-- a written line of a group
pub group_leads : (r : Reading) (g : GroupLine) → r.cpus ≤ 16 → is_in_range r.cpus g ≡ true → nat_lt 0 g.cpus ≡ true → is_ok (built r.cpus (r.groups ++ g ∷ [])) ≡ true → length r.groups < 15 → IsOpen 5 r →
    Leads r (line_text (group_words g)) (record r { place = max r.place 5; groups = r.groups ++ g ∷ [] })
unfolding token_of
group_leads r g cpus range some ok few o =
    let both = and_parts (nat_le g.id 14 && is_parent_number g.parent) (nat_lt g.cpus (2 ^ r.cpus)) range in
    let front = and_parts (nat_le g.id 14) (is_parent_number g.parent) both.0 in
    let small = leb-true g.id 14 front.0 in
    let below = ltb-true g.cpus (2 ^ r.cpus) both.1 in
    let narrow = power_small r.cpus g.cpus cpus below in
    let cs = cpus_of_mask g.cpus in
    let rise = cpus_rise g.cpus in
    leads_line (group_words g) (group_is_words r.cpus g range)
    (group_taken r (token_of (decimal g.id)) (token_of (optional_word g.parent)) (written cs) g cs (record {
      number = token_back g.id (omega arith);
      small = small;
      parent = parent_back g.parent front.1;
      some = omega (arith, length_written cs, some_cpu g.cpus narrow (ltb-true 0 g.cpus some));
      rising = no_falling 0 cs rise;
      cpus = nums_back cs (rising_small 0 cs rise);
      mask = bits_back g.cpus narrow;
      there = cpus_there g.cpus r.cpus below;
      fault = no_fault_in (built r.cpus (r.groups ++ g ∷ [])) ok;
      few = few;
    }) o)
