-- What the groups of a setup keep, since they are a topology: a front of them is one too, and their numbers and CPUs are in range.
use Rattle.std.proofs.Common.{◌≡◌, ℕ, ◌+◌, ◌^◌, ◌<◌, ◌==◌, Bool, true, false, not, ◌&&◌, ◌||◌, Option, Some, None, Result, Ok, Err, List, [], ◌∷◌, ◌++◌, length, refl, sym, ap, ◌∙◌, subst, arith}
use Rattle.std.specs.Prelude.{nat_lt, nat_le, is_none, is_some, if◌then◌else◌, is_ok, slice_get, get_or, bit_and}
use Rattle.std.specs.List.{list_all}
use Rattle.std.proofs.lemmas.Bool.{and_from, and_parts, or_parts, not-false, le-leb, ltb-true, ltb-false, lt-ltb, eqb-true, false≢true}
use Rattle.std.proofs.lemmas.List.Folds.{list_all-append, list_all_at}
use Rattle.std.proofs.lemmas.List.Quantifiers.{position-Some}
use Rattle.std.proofs.lemmas.Nat.{and_le_r, pow_pos}
use Rattle.std.proofs.lemmas.Option.{get_or_from_slice_get}
use Rattle.ule_topo.proofs.BuildLaws.{built_more, built_fault}
use Rattle.ule_topo.specs.Build.{built, built_behind, group_of_line, root_of_line, child_of_line, group_at_place, group_in_found, group_in, overlaps, place_of_id}
use Rattle.ule_topo.specs.Mask.{all_cpus, is_inside}
use Rattle.ule_topo.specs.Tree.{no_group}
use Rattle.ule_topo.specs.declared.fault.TopoFault.{TopoFault}
use Rattle.ule_topo.specs.declared.fault.TopoFault.TheVariants.{NoRoot, OutsideParent, Overlap, TooDeep, BadId}
use Rattle.ule_topo.specs.declared.group.Group.{Group}
use Rattle.ule_topo.specs.declared.group.GroupLine.{GroupLine}

-- ---- a front of the lines

-- a front of lines behind some groups
front_behind : (cpus : ℕ) (groups : List Group) (xs ys : List GroupLine) → is_ok (built_behind cpus groups (xs ++ ys)) ≡ true → is_ok (built_behind cpus groups xs) ≡ true
unfolding built_behind
front_behind cpus groups [] ys ok = refl
front_behind cpus groups (l ∷ ls) ys ok = by_group (group_of_line cpus groups l) refl (λ more. front_behind cpus more ls ys)
  where
    by_group : (x : Result Group TopoFault) → group_of_line cpus groups l ≡ x →
        ((more : List Group) → is_ok (built_behind cpus more (ls ++ ys)) ≡ true → is_ok (built_behind cpus more ls) ≡ true) →
        is_ok (built_behind cpus groups (l ∷ ls)) ≡ true
    by_group (Ok k) is again = ap is_ok (built_more cpus groups l ls k is) ∙ again (groups ++ k ∷ []) (sym (ap is_ok (built_more cpus groups l (ls ++ ys) k is)) ∙ ok)
    by_group (Err f) is again = absurd (false≢true (sym (ap is_ok (built_fault cpus groups l (ls ++ ys) f is)) ∙ ok))

-- a front of the lines of a topology is a topology
pub front_is_built : (cpus : ℕ) (xs ys : List GroupLine) → is_ok (built cpus (xs ++ ys)) ≡ true → is_ok (built cpus xs) ≡ true
front_is_built cpus [] ys ok = refl
front_is_built cpus (l ∷ ls) ys ok = front_behind cpus [] (l ∷ ls) ys ok

-- ---- a line

-- whether a parent, if there is one, has the number of a group
abbrev pub is_parent_number : Option ℕ → Bool
is_parent_number None = true
is_parent_number (Some id) = nat_le id 14

-- whether a line's group and its parent have numbers of groups, and its CPUs are there
abbrev pub is_in_range : ℕ → GroupLine → Bool
is_in_range cpus l = nat_le l.id 14 && is_parent_number l.parent && nat_lt l.cpus (2 ^ cpus)

-- whether a group has such a number and such CPUs
abbrev fits : ℕ → Group → Bool
fits cpus k = nat_le k.id 14 && nat_lt k.cpus (2 ^ cpus)

-- a line in range, and its group
abbrev Ranges : ℕ → GroupLine → Group → Type 0
Ranges cpus l k = (is_in_range cpus l ≡ true) × (fits cpus k ≡ true)

-- answers that are equal have equal values
same_group : (x y : Group) → ◌≡◌ {A = Result Group TopoFault} (Ok x) (Ok y) → x ≡ y
same_group x y is = cc

-- what a test that answers with a fault lets through
let_through : (b : Bool) (e : TopoFault) (r : Result Group TopoFault) (k : Group) → (if b then Err e else r) ≡ Ok k → (b ≡ false) × (r ≡ Ok k)
let_through true e r k is = absurd (cc)
let_through false e r k is = (refl, is)

-- a line and its group by the numbers and the CPUs of both
in_range : (cpus : ℕ) (l : GroupLine) (k : Group) → nat_le l.id 14 ≡ true → is_parent_number l.parent ≡ true → l.cpus < 2 ^ cpus → k.id ≡ l.id → k.cpus ≡ l.cpus → Ranges cpus l k
in_range cpus l k id parent below same_id same_cpus =
    let few = lt-ltb l.cpus (2 ^ cpus) below in (
      and_from (nat_le l.id 14 && is_parent_number l.parent) (nat_lt l.cpus (2 ^ cpus)) (and_from (nat_le l.id 14) (is_parent_number l.parent) id parent) few,
      and_from (nat_le k.id 14) (nat_lt k.cpus (2 ^ cpus)) (ap (λ n. nat_le n 14) same_id ∙ id) (ap (λ n. nat_lt n (2 ^ cpus)) same_cpus ∙ few),
    )

-- the first line
root_ranges : (cpus : ℕ) (l : GroupLine) (k : Group) → nat_le l.id 14 ≡ true → (b : Bool) → (is_none l.parent && (l.cpus == all_cpus cpus)) ≡ b →
    ◌≡◌ {A = Result Group TopoFault} (if b then Ok (record { id = l.id; parent = None; cpus = l.cpus; depth = 1 }) else Err NoRoot) (Ok k) → Ranges cpus l k
root_ranges cpus l k id false other made = absurd (cc)
root_ranges cpus l k id true all made =
    let root : Group = record { id = l.id; parent = None; cpus = l.cpus; depth = 1 } in
    let parts = and_parts (is_none l.parent) (l.cpus == all_cpus cpus) all in
    let whole : l.cpus ≡ all_cpus cpus = eqb-true l.cpus (all_cpus cpus) parts.1 in
    subst (Ranges cpus l) (same_group root k made) (in_range cpus l root id (no_parent l.parent parts.0) (omega (arith, whole, pow_pos cpus)) refl refl)
  where
    no_parent : (o : Option ℕ) → is_none o ≡ true → is_parent_number o ≡ true
    no_parent None none = refl
    no_parent (Some id) none = absurd (false≢true none)

-- a mask inside another one is no greater
lesser : (inner outer bound : ℕ) → is_inside inner outer ≡ true → outer < bound → inner < bound
unfolding is_inside
lesser inner outer bound inside below =
    let whole : bit_and inner outer ≡ inner = eqb-true (bit_and inner outer) inner inside in
    omega (arith, whole, and_le_r inner outer)

-- a later line in its parent
child_ranges : (cpus : ℕ) (groups : List Group) (l : GroupLine) (k parent : Group) (p id : ℕ) → nat_le l.id 14 ≡ true → fits cpus parent ≡ true → l.parent ≡ Some id → parent.id ≡ id →
    group_in parent p groups l ≡ Ok k → Ranges cpus l k
child_ranges cpus groups l k parent p id few fit is same made =
    let child : Group = record { id = l.id; parent = Some p; cpus = l.cpus; depth = parent.depth + 1 } in
    let deep : Result Group TopoFault = if nat_le 4 parent.depth then Err TooDeep else Ok child in
    let one = let_through (not (is_inside l.cpus parent.cpus)) OutsideParent (if overlaps p l.cpus groups then Err Overlap else deep) k made in
    let two = let_through (overlaps p l.cpus groups) Overlap deep k one.1 in
    let three = let_through (nat_le 4 parent.depth) TooDeep (Ok child) k two.1 in
    let both = and_parts (nat_le parent.id 14) (nat_lt parent.cpus (2 ^ cpus)) fit in
    let number : is_parent_number l.parent ≡ true = ap is_parent_number is ∙ ap (λ n. nat_le n 14) (sym same) ∙ both.0 in
    subst (Ranges cpus l) (same_group child k three.1)
    (in_range cpus l child few number (lesser l.cpus parent.cpus (2 ^ cpus) (not-false (is_inside l.cpus parent.cpus) one.0) (ltb-true parent.cpus (2 ^ cpus) both.1)) refl refl)

-- a test of all at one place
all_at : (p : Group → Bool) (ks : List Group) (i : ℕ) (d : Group) → i < length ks → list_all p ks ≡ true → p (get_or ks i d) ≡ true
all_at p ks i d within all = by_test (p (get_or ks i d)) refl
  where
    by_test : (b : Bool) → p (get_or ks i d) ≡ b → p (get_or ks i d) ≡ true
    by_test true is = is
    by_test false is = absurd (false≢true (sym (list_all_at p ks i d within is) ∙ all))

-- a later line by the place of its parent
below_ranges : (cpus : ℕ) (groups : List Group) (l : GroupLine) (k : Group) (id p : ℕ) (o : Option Group) → nat_le l.id 14 ≡ true → list_all (fits cpus) groups ≡ true → l.parent ≡ Some id →
    place_of_id id groups ≡ Some p → slice_get groups p ≡ o → group_in_found p o groups l ≡ Ok k → Ranges cpus l k
below_ranges cpus groups l k id p None few fit is at found made = absurd (cc)
below_ranges cpus groups l k id p (Some parent) few fit is at found made =
    let there = position-Some (λ (h : Group). h.id == id) groups p no_group at in
    let same : get_or groups p no_group ≡ parent = get_or_from_slice_get groups p parent no_group found in
    child_ranges cpus groups l k parent p id few
    (ap (fits cpus) (sym same) ∙ all_at (fits cpus) groups p no_group there.0 fit) is
    (ap (λ (h : Group). h.id) (sym same) ∙ eqb-true (get_or groups p no_group).id id there.1) made

-- the same by the number of its parent
place_ranges : (cpus : ℕ) (groups : List Group) (l : GroupLine) (k : Group) (id : ℕ) (o : Option ℕ) → nat_le l.id 14 ≡ true → list_all (fits cpus) groups ≡ true → l.parent ≡ Some id →
    place_of_id id groups ≡ o → group_at_place o groups l ≡ Ok k → Ranges cpus l k
place_ranges cpus groups l k id None few fit is at made = absurd (cc)
place_ranges cpus groups l k id (Some p) few fit is at made = below_ranges cpus groups l k id p (slice_get groups p) few fit is at refl made

parent_ranges : (cpus : ℕ) (groups : List Group) (l : GroupLine) (k : Group) (o : Option ℕ) → nat_le l.id 14 ≡ true → list_all (fits cpus) groups ≡ true → l.parent ≡ o →
    child_of_line o groups l ≡ Ok k → Ranges cpus l k
parent_ranges cpus groups l k None few fit is made = absurd (cc)
parent_ranges cpus groups l k (Some id) few fit is made = place_ranges cpus groups l k id (place_of_id id groups) few fit is refl made

-- the first line or a later one
first_or_later : (cpus : ℕ) (groups : List Group) (l : GroupLine) (k : Group) (b : Bool) → nat_le l.id 14 ≡ true → list_all (fits cpus) groups ≡ true →
    (if b then root_of_line cpus l else child_of_line l.parent groups l) ≡ Ok k → Ranges cpus l k
first_or_later cpus groups l k true few fit made = root_ranges cpus l k few (is_none l.parent && (l.cpus == all_cpus cpus)) refl made
first_or_later cpus groups l k false few fit made = parent_ranges cpus groups l k l.parent few fit refl made

-- any line
line_ranges : (cpus : ℕ) (groups : List Group) (l : GroupLine) (k : Group) → list_all (fits cpus) groups ≡ true → group_of_line cpus groups l ≡ Ok k → Ranges cpus l k
unfolding group_of_line
line_ranges cpus groups l k fit made =
    let one = let_through (nat_lt 14 l.id || is_some (place_of_id l.id groups)) BadId (if length groups == 0 then root_of_line cpus l else child_of_line l.parent groups l) k made in
    let parts = or_parts (nat_lt 14 l.id) (is_some (place_of_id l.id groups)) one.0 in
    first_or_later cpus groups l k (length groups == 0) (le-leb l.id 14 (ltb-false 14 l.id parts.0)) fit one.1

-- ---- all lines

-- the lines behind some groups
all_in_range : (cpus : ℕ) (groups : List Group) (ls : List GroupLine) → list_all (fits cpus) groups ≡ true → is_ok (built_behind cpus groups ls) ≡ true → list_all (is_in_range cpus) ls ≡ true
all_in_range cpus groups [] fit ok = refl
all_in_range cpus groups (l ∷ ls) fit ok = by_group (group_of_line cpus groups l) refl (λ more. all_in_range cpus more ls)
  where
    by_group : (x : Result Group TopoFault) → group_of_line cpus groups l ≡ x →
        ((more : List Group) → list_all (fits cpus) more ≡ true → is_ok (built_behind cpus more ls) ≡ true → list_all (is_in_range cpus) ls ≡ true) →
        list_all (is_in_range cpus) (l ∷ ls) ≡ true
    by_group (Ok k) is again =
        let one = line_ranges cpus groups l k fit is in
        let more : list_all (fits cpus) (groups ++ k ∷ []) ≡ true = list_all-append (fits cpus) groups (k ∷ []) ∙ and_from (list_all (fits cpus) groups) (list_all (fits cpus) (k ∷ [])) fit (and_from (fits cpus k) true one.1 refl) in
        and_from (is_in_range cpus l) (list_all (is_in_range cpus) ls) one.0 (again (groups ++ k ∷ []) more (sym (ap is_ok (built_more cpus groups l ls k is)) ∙ ok))
    by_group (Err f) is again = absurd (false≢true (sym (ap is_ok (built_fault cpus groups l ls f is)) ∙ ok))

-- the lines of a topology are in range
pub lines_in_range : (cpus : ℕ) (ls : List GroupLine) → is_ok (built cpus ls) ≡ true → list_all (is_in_range cpus) ls ≡ true
lines_in_range cpus [] ok = refl
lines_in_range cpus (l ∷ ls) ok = all_in_range cpus [] (l ∷ ls) refl ok
