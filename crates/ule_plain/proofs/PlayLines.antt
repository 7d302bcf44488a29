-- What the lines of scripts and of turns give, and the last line.
use Rattle.std.proofs.Common.{◌≡◌, ℕ, ◌+◌, ◌<◌, ◌≤◌, true, false, List, [], ◌∷◌, ◌++◌, length, map, max, refl, arith, None}
use Rattle.std.specs.Prelude.{nat_le}
use Rattle.std.specs.List.{list_any}
use Rattle.std.specs.Fmt.{decimal}
use Rattle.std.proofs.lemmas.Bool.{le-leb}
use Rattle.ule_scenario.specs.Forms.{nums, number_fault, first_fault}
use Rattle.ule_scenario.specs.Reading.{Reading, spent_items}
use Rattle.ule_scenario.specs.Reasons.{place_reason, word_reason, meaning_reason}
use Rattle.ule_scenario.specs.Tokens.{token_of}
use Rattle.ule_scenario.specs.declared.name.Name.TheVariants.{Script, Weave, Turns, End}
use Rattle.ule_scenario.specs.declared.token.Token.{Token}
use Rattle.ule_trace.specs.Line.{line_text}
use Rattle.ule_plain.proofs.CommandLines.{keyword, not_above, not_past}
use Rattle.ule_plain.proofs.DeclaringLines.{IsOpen, not_first, not_before}
use Rattle.ule_plain.proofs.Leading.{Leads, Takes, leads_line, means_something}
use Rattle.ule_plain.proofs.NumberLists.{are_small, written, nums_back, no_fault, written_are_words, length_written}
use Rattle.ule_plain.proofs.NumbersBack.{IsNumber, token_back, small_is_word}
use Rattle.ule_plain.specs.Lines.{script_words, weave_words, turns_words, end_words}

-- ---- a script

script_taken : (r : Reading) (w : Token) (n : ℕ) → IsNumber w n → n ≤ 15 → n < r.cpus → r.script_from ≤ n → IsOpen 7 r → Takes r (keyword Script ∷ w ∷ []) (record r { place = max r.place 7; script_from = n + 1 })
unfolding place_reason word_reason meaning_reason
script_taken r w n is small there rise o =
    let from = o.from in
    let budget = o.budget in
    record {
      means = refl;
      unopposed = rw (o.turns, is.minus, is.number, not_first r.place from, not_above r.place 7 o.to, not_before n r.script_from rise, not_before r.place 3 (omega arith), not_before r.place 4 from, le-leb 0 n (omega arith), le-leb n 15 small, not_past r.cpus n there, not_above (spent_items r + 0) 65536 (omega arith)) refl;
      gives = rw (is.minus, is.number) refl;
    }

-- a written line above a worker's commands
pub script_leads : (r : Reading) (n : ℕ) → n ≤ 15 → n < r.cpus → r.script_from ≤ n → IsOpen 7 r → Leads r (line_text (script_words n)) (record r { place = max r.place 7; script_from = n + 1 })
unfolding token_of
script_leads r n small there rise o = leads_line (script_words n) (rw (small_is_word n (omega arith)) refl) (script_taken r (token_of (decimal n)) n (token_back n (omega arith)) small there rise o)

-- ---- the section of turns

-- a line behind the scripts may stand here
pub record IsLate (r : Reading) : Type 0 where
  pub from : 4 ≤ r.place
  pub budget : spent_items r ≤ 65536

weave_taken : (r : Reading) → r.place ≤ 7 → r.turns ≡ [] → IsLate r → Takes r (keyword Weave ∷ []) (record r { place = max r.place 8 })
unfolding place_reason word_reason meaning_reason
weave_taken r early none l =
    let from = l.from in
    let budget = l.budget in
    record {
      means = refl;
      unopposed = rw (none, not_first r.place from, not_past 8 r.place (omega (arith, early)), not_before r.place 3 (omega arith), not_before r.place 4 from, not_above (spent_items r + 0) 65536 (omega arith)) refl;
      gives = refl;
    }

-- a written line above the turns
pub weave_leads : (r : Reading) → r.place ≤ 7 → r.turns ≡ [] → IsLate r → Leads r (line_text weave_words) (record r { place = max r.place 8 })
unfolding token_of
weave_leads r early none l = leads_line weave_words refl (weave_taken r early none l)

turns_taken : (r : Reading) (ts : List Token) (ws : List ℕ) → 1 ≤ length ts → first_fault (map (number_fault 0 15) ts) ≡ None → nums ts ≡ ws → list_any (λ w. nat_le r.cpus w) ws ≡ false → r.place ≡ 8 → length r.turns + length ws ≤ 4096 → IsLate r →
    Takes r (keyword Turns ∷ ts) (record r { place = max r.place 8; turns = r.turns ++ ws })
unfolding place_reason word_reason meaning_reason
turns_taken r ts ws some none is there late few l =
    let budget = l.budget in
    record {
      means = means_something (keyword Turns) ts refl;
      unopposed = rw (late, not_before (length (keyword Turns ∷ ts)) 2 (omega (arith, some)), none, is, there, not_above (length r.turns + length ws) 4096 few, not_above (spent_items r + 0) 65536 (omega arith)) refl;
      gives = rw is refl;
    }

-- a written line of turns
pub turns_lead : (r : Reading) (ws : List ℕ) → 1 ≤ length ws → are_small ws ≡ true → list_any (λ w. nat_le r.cpus w) ws ≡ false → r.place ≡ 8 → length r.turns + length ws ≤ 4096 → IsLate r →
    Leads r (line_text (turns_words ws)) (record r { place = max r.place 8; turns = r.turns ++ ws })
unfolding token_of
turns_lead r ws some small there late few l =
    leads_line (turns_words ws) (written_are_words ws small)
    (turns_taken r (written ws) ws (omega (arith, some, length_written ws)) (no_fault ws small) (nums_back ws small) there late few l)

-- ---- the last line

end_taken : (r : Reading) → r.place ≤ 8 → length r.turns ≤ 4096 → IsLate r → Takes r (keyword End ∷ []) (record r { place = max r.place 9 })
unfolding place_reason word_reason meaning_reason
end_taken r early few l =
    let from = l.from in
    let budget = l.budget in
    record {
      means = refl;
      unopposed = rw (not_first r.place from, not_past 9 r.place (omega (arith, early)), not_before r.place 3 (omega arith), not_before r.place 4 from, not_above (length r.turns + 0) 4096 (omega (arith, few)), not_above (spent_items r + 0) 65536 (omega arith)) refl;
      gives = refl;
    }

-- the written last line
pub end_leads : (r : Reading) → r.place ≤ 8 → length r.turns ≤ 4096 → IsLate r → Leads r (line_text end_words) (record r { place = max r.place 9 })
unfolding token_of
end_leads r early few l = leads_line end_words refl (end_taken r early few l)
