-- What is told of a line part by part.
use Rattle.std.proofs.Common.{◌≡◌, ℕ, ◌+◌, Bool, true, false, [], ◌∷◌, length, refl, Option, Some, None}
use Rattle.std.specs.List.{list_any}
use Rattle.std.specs.Prelude.{nat_le, nat_lt, not, ◌&&◌, ◌==◌, if◌then◌else◌, unwrap_or}
use Rattle.ule_scenario.specs.declared.reason.Reason.{Reason}
use Rattle.ule_scenario.specs.declared.name.Name.{Name}
use Rattle.ule_scenario.specs.declared.name.Name.TheVariants.{Header}
use Rattle.ule_scenario.specs.Reading.{Reading, spent_items}
use Rattle.ule_scenario.specs.Forms.{Line, first_fault, least_words, number_faults, name, word, number, is_header, is_header_word}
use Rattle.ule_scenario.specs.Effects.{command_in, turns_in}
use Rattle.ule_scenario.specs.Reasons.{over_budget, charge, named_cpus, is_repeated, has_no_base, is_undeclared, is_no_fork, topology_fault, first_reason, told, when, word_reason, meaning_reason, place_reason, has_unknown_word, reason_or, reason_of, reason_behind}

-- what is told of a line whose CPUs, threads and groups pass
pub up_to_turns : (r : Reading) (line : Line) (first : Name) →
    list_any (λ c. nat_le r.cpus c) (named_cpus line first) ≡ false → is_repeated r line first ≡ false → has_no_base line first ≡ false →
    is_undeclared r line first ≡ false → is_no_fork r line first ≡ false → topology_fault r line first ≡ None →
    meaning_reason r line first ≡ first_reason (when (list_any (λ w. nat_le r.cpus w) (turns_in line first)) 16 ∷ when (nat_lt 4096 (length r.turns + length (turns_in line first))) 19 ∷
    over_budget (spent_items r + charge r (command_in line first)) ∷ [])
unfolding meaning_reason
up_to_turns r line first cpu again base unknown fork groups = rw (cpu, again, base, unknown, fork, groups) refl

-- the first of the last three rows that tells a reason: the worker of a turn
pub at_workers : (w m : Bool) (b : Option Reason) → w ≡ true → first_reason (when w 16 ∷ when m 19 ∷ b ∷ []) ≡ told (Some 16)
at_workers w m b e = rw e refl

-- the number of turns
pub at_turns : (w m : Bool) (b : Option Reason) → w ≡ false → m ≡ true → first_reason (when w 16 ∷ when m 19 ∷ b ∷ []) ≡ told (Some 19)
at_turns w m b e f = rw (e, f) refl

-- the budget
pub at_budget : (w m : Bool) (b : Option Reason) → w ≡ false → m ≡ false → first_reason (when w 16 ∷ when m 19 ∷ b ∷ []) ≡ b
at_budget w m b e f = rw (e, f) (alone b)
  where
    alone : (x : Option Reason) → first_reason (x ∷ []) ≡ x
    alone None = refl
    alone (Some x) = refl

-- the numbers of a line whose words pass
pub numbers_pass : (line : Line) (first : Name) → word_reason line first ≡ None → first_fault (number_faults line first) ≡ None
unfolding word_reason
numbers_pass line first e =
    by_parts (nat_lt (length line) (least_words first)) (has_unknown_word line first) (first_fault (number_faults line first)) e
  where
    by_parts : (short unknown : Bool) (fault : Option ℕ) → first_reason (when short 18 ∷ when unknown 2 ∷ told fault ∷ []) ≡ None → fault ≡ None
    by_parts short unknown None e = refl
    by_parts true unknown (Some n) e = cc
    by_parts false true (Some n) e = cc
    by_parts false false (Some n) e = cc

-- the numbers of a line that nothing refuses
pub passed : (r : Reading) (line : Line) → reason_of r line ≡ None → first_fault (number_faults line (name line 0)) ≡ None
passed r line e = by_place (r.place == 0) e
  where
    no_header : (first : Name) (b d : Bool) → when (not (is_header_word first && b && d)) 1 ≡ None → first_fault (number_faults line first) ≡ None
    no_header Header b d h = refl
    no_header first b d h = cc

    by_parts : (a b : Option Reason) → reason_or a (reason_or (word_reason line (name line 0)) b) ≡ None → word_reason line (name line 0) ≡ None
    by_parts None b h = by_words (word_reason line (name line 0)) b h
      where
        by_words : (x b : Option Reason) → reason_or x b ≡ None → x ≡ None
        by_words None b h = refl
        by_words (Some x) b h = h
    by_parts (Some x) b h = cc

    by_place : (b : Bool) → (if b then when (not (is_header line)) 1 else reason_behind r line (name line 0)) ≡ None → first_fault (number_faults line (name line 0)) ≡ None
    by_place true h = no_header (name line 0) (length line == 2) (unwrap_or (number (word line 1)) 0 == 1) h
    by_place false h = numbers_pass line (name line 0) (by_parts (place_reason r line (name line 0)) (meaning_reason r line (name line 0)) h)
