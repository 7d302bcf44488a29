-- What holds of a line that nothing refuses, row by row.
use Rattle.std.proofs.Common.{◌≡◌, ℕ, ◌+◌, ◌<◌, ◌≤◌, Bool, true, false, [], ◌∷◌, length, refl, Option, Some, None}
use Rattle.std.specs.Prelude.{nat_lt, nat_le, ◌&&◌, ◌||◌, ◌==◌}
use Rattle.std.specs.List.{list_any}
use Rattle.std.proofs.lemmas.Bool.{leb-false, ltb-false, or_parts}
use Rattle.ule_scenario.specs.declared.reason.Reason.{Reason}
use Rattle.ule_scenario.specs.declared.name.Name.{Name}
use Rattle.ule_scenario.specs.declared.name.Name.TheVariants.{Group}
use Rattle.ule_scenario.specs.Reading.{Reading, spent_items}
use Rattle.ule_scenario.specs.Forms.{Line, first_fault, number_faults, least_words, place_of_line}
use Rattle.ule_scenario.specs.Effects.{command_in, turns_in}
use Rattle.ule_scenario.specs.Reasons.{when, told, of_topology, over_budget, first_reason, reason_or, reason_behind, place_reason, word_reason, meaning_reason, is_misplaced, is_bad_count, has_unknown_word, named_cpus, is_repeated, has_no_base, is_undeclared, is_no_fork, topology_fault, charge}

-- a line behind the header that nothing refuses
pub record Passes (r : Reading) (line : Line) (first : Name) : Type 0 where
  pub placed : is_misplaced r line first ≡ false
  pub counted : ((nat_le 5 (place_of_line first) && nat_lt r.place 4) || is_bad_count line first) ≡ false
  pub enough : nat_lt (length line) (least_words first) ≡ false
  pub numbers : first_fault (number_faults line first) ≡ None
  pub there : list_any (λ c. nat_le r.cpus c) (named_cpus line first) ≡ false
  pub new : is_repeated r line first ≡ false
  pub base : has_no_base line first ≡ false
  pub declared : is_undeclared r line first ≡ false
  pub fork : is_no_fork r line first ≡ false
  pub topology : topology_fault r line first ≡ None
  pub workers : list_any (λ w. nat_le r.cpus w) (turns_in line first) ≡ false
  pub few : length r.turns + length (turns_in line first) ≤ 4096
  pub budget : spent_items r + charge r (command_in line first) ≤ 65536

-- the rows of a line's place
place_parts : (a b c d : Bool) → first_reason (when a 2 ∷ when b 6 ∷ when c 14 ∷ when d 7 ∷ []) ≡ None → (b ≡ false) × (d ≡ false)
place_parts true b c d e = cc
place_parts false true c d e = cc
place_parts false false true d e = cc
place_parts false false false true e = cc
place_parts false false false false e = (refl, refl)

-- the rows of its words
word_parts : (a b : Bool) (f : Option ℕ) → first_reason (when a 18 ∷ when b 2 ∷ told f ∷ []) ≡ None → (a ≡ false) × (f ≡ None)
word_parts true b f e = cc
word_parts false true f e = cc
word_parts false false (Some n) e = cc
word_parts false false None e = (refl, refl)

-- the rows of what it says
record Means (a b c d e : Bool) (f : Option ℕ) (g h : Bool) (t : Option Reason) : Type 0 where
  there : a ≡ false
  new : b ≡ false
  base : c ≡ false
  declared : d ≡ false
  fork : e ≡ false
  topology : f ≡ None
  workers : g ≡ false
  few : h ≡ false
  budget : t ≡ None

meaning_parts : (a b c d e : Bool) (f : Option ℕ) (g h : Bool) (t : Option Reason) →
    first_reason (when a 10 ∷ when b 8 ∷ when c 12 ∷ when d 9 ∷ when e 13 ∷ of_topology f ∷ when g 16 ∷ when h 19 ∷ t ∷ []) ≡ None → Means a b c d e f g h t
meaning_parts true b c d e f g h t is = cc
meaning_parts false true c d e f g h t is = cc
meaning_parts false false true d e f g h t is = cc
meaning_parts false false false true e f g h t is = cc
meaning_parts false false false false true f g h t is = cc
meaning_parts false false false false false (Some n) g h t is = cc
meaning_parts false false false false false None true h t is = cc
meaning_parts false false false false false None false true t is = cc
meaning_parts false false false false false None false false (Some x) is = cc
meaning_parts false false false false false None false false None is =
    record { there = refl; new = refl; base = refl; declared = refl; fork = refl; topology = refl; workers = refl; few = refl; budget = refl }

-- neither of two reasons
neither : (a b : Option Reason) → reason_or a b ≡ None → (a ≡ None) × (b ≡ None)
neither None b e = (refl, e)
neither (Some x) b e = cc

-- a sum that isn't over the budget
within_budget : (total : ℕ) → over_budget total ≡ None → total ≤ 65536
within_budget total e = by_test (nat_lt 65536 total) refl
  where
    by_test : (b : Bool) → nat_lt 65536 total ≡ b → total ≤ 65536
    by_test true over = let h = rw over at e in cc
    by_test false over = ltb-false 65536 total over

-- what holds of a line that nothing refuses
pub passes : (r : Reading) (line : Line) (first : Name) → reason_behind r line first ≡ None → Passes r line first
unfolding place_reason word_reason meaning_reason
passes r line first none =
    let one = neither (place_reason r line first) (reason_or (word_reason line first) (meaning_reason r line first)) none in
    let two = neither (word_reason line first) (meaning_reason r line first) one.1 in
    let place = place_parts (place_of_line first == 0) (is_misplaced r line first) (nat_le 4 (place_of_line first) && nat_lt r.place 3) ((nat_le 5 (place_of_line first) && nat_lt r.place 4) || is_bad_count line first) one.0 in
    let words = word_parts (nat_lt (length line) (least_words first)) (has_unknown_word line first) (first_fault (number_faults line first)) two.0 in
    let says = meaning_parts (list_any (λ c. nat_le r.cpus c) (named_cpus line first)) (is_repeated r line first) (has_no_base line first) (is_undeclared r line first) (is_no_fork r line first) (topology_fault r line first)
    (list_any (λ w. nat_le r.cpus w) (turns_in line first)) (nat_lt 4096 (length r.turns + length (turns_in line first))) (over_budget (spent_items r + charge r (command_in line first))) two.1 in
    record {
      placed = place.0;
      counted = place.1;
      enough = words.0;
      numbers = words.1;
      there = says.there;
      new = says.new;
      base = says.base;
      declared = says.declared;
      fork = says.fork;
      topology = says.topology;
      workers = says.workers;
      few = ltb-false 4096 (length r.turns + length (turns_in line first)) says.few;
      budget = within_budget (spent_items r + charge r (command_in line first)) says.budget;
    }

-- where a group's line may stand there are fewer than 15 groups
pub few_groups : (r : Reading) (line : Line) → place_reason r line Group ≡ None → length r.groups < 15
unfolding place_reason
few_groups r line none =
    let parts = place_parts false (nat_lt 5 r.place || nat_le 15 (length r.groups)) (nat_le 4 5 && nat_lt r.place 3) ((nat_le 5 5 && nat_lt r.place 4) || false) none in
    let both = or_parts (nat_lt 5 r.place) (nat_le 15 (length r.groups)) parts.0 in
    leb-false 15 (length r.groups) both.1
