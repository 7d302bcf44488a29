-- What the section of turns gives, and the last line.
use Rattle.std.proofs.Common.{◌≡◌, ℕ, zero, suc, ◌+◌, ◌*◌, ◌<◌, ◌≤◌, max, Bool, true, false, List, [], ◌∷◌, ◌++◌, length, map, take, drop, refl, sym, ap, ◌∙◌, subst, arith}
use Rattle.std.specs.Prelude.{nat_lt, nat_le}
use Rattle.std.specs.List.{list_all, list_any}
use Rattle.std.proofs.lemmas.Bool.{and_from, and_parts, leb-true, le-leb, ltb-true}
use Rattle.std.proofs.lemmas.List.{append-nil, length-take, length-drop, map-append, take-append-drop, take-take, take_all, drop-take}
use Rattle.std.proofs.lemmas.List.Folds.{list_all-append}
use Rattle.ule_topo.specs.Mask.{below}
use Rattle.ule_types.specs.Rules.{budget_from}
use Rattle.ule_types.specs.declared.setup.Setup.{Setup}
use Rattle.ule_scenario.specs.Reading.{Reading}
use Rattle.ule_trace.specs.Line.{line_text, lines_text}
use Rattle.ule_plain.proofs.CommandLines.{not_past}
use Rattle.ule_plain.proofs.DeclaringSections.{reading_at, Reaches, few_cpus}
use Rattle.ule_plain.proofs.Leading.{Leads, leads_nowhere, leads_on, lines_cut}
use Rattle.ule_plain.proofs.NumberLists.{are_small}
use Rattle.ule_plain.proofs.PlayLines.{IsLate, weave_leads, turns_lead, end_leads}
use Rattle.ule_plain.proofs.ScriptSections.{played_at}
use Rattle.ule_plain.specs.Lines.{weave_words, turns_words, turns_of_line, end_words}
use Rattle.ule_plain.specs.Text.{lines_of_turns, turn_lines, weave_lines}

-- the setup so far behind the scripts: the turns
abbrev pub woven_at : Setup → ℕ → List ℕ → Reading
woven_at s place turns = reading_at s place s.groups s.threads s.unborn s.cpus s.scripts turns

-- a line behind the scripts may stand here
late_at : (s : Setup) (place : ℕ) (turns : List ℕ) → 4 ≤ place → IsLate (woven_at s place turns)
late_at s place turns from = record { from = from; budget = leb-true (budget_from 0 s.cpus s.scripts) 65536 s.rules.budget }

-- no more turns than there may be
pub few_turns : (s : Setup) → length s.turns ≤ 4096
few_turns s = leb-true (length s.turns) 4096 s.rules.turn_count

-- ---- a line of turns

-- a test of all, of those of a line
pub part_passes : (p : ℕ → Bool) (n m : ℕ) (xs : List ℕ) → list_all p xs ≡ true → list_all p (take m (drop n xs)) ≡ true
part_passes p n m xs all =
    let behind = and_parts (list_all p (take n xs)) (list_all p (drop n xs)) (sym (list_all-append p (take n xs) (drop n xs)) ∙ ap (list_all p) (take-append-drop n xs) ∙ all) in
    (and_parts (list_all p (take m (drop n xs))) (list_all p (drop m (drop n xs)))
    (sym (list_all-append p (take m (drop n xs)) (drop m (drop n xs))) ∙ ap (list_all p) (take-append-drop m (drop n xs)) ∙ behind.1)).0

-- workers that are there have numbers of at most 15
pub workers_small : (cpus : ℕ) (ws : List ℕ) → cpus ≤ 16 → list_all (λ w. nat_lt w cpus) ws ≡ true → are_small ws ≡ true
workers_small cpus [] few all = refl
workers_small cpus (w ∷ ws) few all =
    let parts = and_parts (nat_lt w cpus) (list_all (λ v. nat_lt v cpus) ws) all in
    let there = ltb-true w cpus parts.0 in
    and_from (nat_le w 15) (are_small ws) (le-leb w 15 (omega arith)) (workers_small cpus ws few parts.1)

-- none is past them
none_past : (cpus : ℕ) (ws : List ℕ) → list_all (λ w. nat_lt w cpus) ws ≡ true → list_any (λ w. nat_le cpus w) ws ≡ false
none_past cpus [] all = refl
none_past cpus (w ∷ ws) all =
    let parts = and_parts (nat_lt w cpus) (list_all (λ v. nat_lt v cpus) ws) all in
    rw (not_past cpus w (ltb-true w cpus parts.0), none_past cpus ws parts.1) refl

-- the front of a list, in two parts
take_parts : (n m : ℕ) (xs : List ℕ) → take (n + m) xs ≡ take n xs ++ take m (drop n xs)
take_parts n m xs =
    sym (take-append-drop n (take (n + m) xs)) ∙ ap (λ (ys : List ℕ). ys ++ drop n (take (n + m) xs)) (take-take n (n + m) xs (omega arith)) ∙ ap (λ (ys : List ℕ). take n xs ++ ys) (drop-take n m xs)

-- the turns up to a line, with those of the line
turns_more : (k : ℕ) (turns : List ℕ) → take (64 * suc k) turns ≡ take (64 * k) turns ++ turns_of_line turns k
turns_more k turns = let next : 64 * suc k ≡ 64 * k + 64 = omega arith in ap (λ n. take n turns) next ∙ take_parts (64 * k) 64 turns

-- a line of turns, by its place
turn_line_leads : (s : Setup) (k : ℕ) → k < lines_of_turns (length s.turns) → Leads (woven_at s 8 (take (64 * k) s.turns)) (line_text (turns_words (turns_of_line s.turns k))) (woven_at s 8 (take (64 * suc k) s.turns))
turn_line_leads s k within =
    let done = take (64 * k) s.turns in
    let own = turns_of_line s.turns k in
    let there = part_passes (λ w. nat_lt w s.cpus) (64 * k) 64 s.turns s.rules.turns in
    let few = few_turns s in
    let size = length-take 64 (drop (64 * k) s.turns) in
    let rest = length-drop (64 * k) s.turns in
    let front = length-take (64 * k) s.turns in
    subst (λ turns. Leads (woven_at s 8 done) (line_text (turns_words own)) (woven_at s 8 turns)) (sym (turns_more k s.turns))
    (turns_lead (woven_at s 8 done) own (omega (arith, within)) (workers_small s.cpus own (few_cpus s) there) (none_past s.cpus own there) refl (omega (arith, within)) (late_at s 8 done (omega arith)))

-- ---- all lines

-- the text of lines of turns, with one more
turn_text_more : (turns : List ℕ) (ks : List ℕ) (k : ℕ) →
    lines_text (map (λ i. turns_words (turns_of_line turns i)) (ks ++ k ∷ [])) ≡ lines_text (map (λ i. turns_words (turns_of_line turns i)) ks) ++ line_text (turns_words (turns_of_line turns k))
turn_text_more turns ks k =
    let words : ℕ → List (List ℕ) = λ i. turns_words (turns_of_line turns i) in
    ap lines_text (map-append words ks (k ∷ [])) ∙ lines_cut (map words ks) (words k ∷ []) ∙ ap (λ (text : List ℕ). lines_text (map words ks) ++ text) (append-nil (line_text (words k)))

-- the first lines
turn_lines_lead : (s : Setup) (k : ℕ) → k ≤ lines_of_turns (length s.turns) → Leads (woven_at s 8 []) (lines_text (map (λ i. turns_words (turns_of_line s.turns i)) (below k))) (woven_at s 8 (take (64 * k) s.turns))
unfolding below
turn_lines_lead s zero within = leads_nowhere (woven_at s 8 [])
turn_lines_lead s (suc k) within =
    subst (λ text. Leads (woven_at s 8 []) text (woven_at s 8 (take (64 * suc k) s.turns))) (sym (turn_text_more s.turns (below k) k))
    (leads_on (turn_lines_lead s k (omega arith)) (turn_line_leads s k (omega arith)))

-- all of them
all_turns_lead : (s : Setup) → Leads (woven_at s 8 []) (lines_text (turn_lines s.turns)) (woven_at s 8 s.turns)
all_turns_lead s =
    let n = lines_of_turns (length s.turns) in
    subst (λ turns. Leads (woven_at s 8 []) (lines_text (turn_lines s.turns)) (woven_at s 8 turns)) (take_all (64 * n) s.turns (omega arith)) (turn_lines_lead s n (omega arith))

-- the section of turns
pub weave_reach : (s : Setup) (place : ℕ) → 4 ≤ place → place ≤ 7 → Reaches 8 (played_at s place s.cpus s.scripts) (lines_text (weave_lines s.turns)) (λ p. woven_at s p s.turns)
weave_reach s place from to = by_turns s.turns refl
  where
    by_turns : (turns : List ℕ) → s.turns ≡ turns → Reaches 8 (woven_at s place []) (lines_text (weave_lines turns)) (λ p. woven_at s p s.turns)
    by_turns [] is = record {
      place = place;
      from = from;
      to = omega (arith, to);
      leads = subst (λ ts. Leads (woven_at s place []) [] (woven_at s place ts)) (sym is) (leads_nowhere (woven_at s place []));
    }
    by_turns (w ∷ turns) is =
        let highest : max place 8 ≡ 8 = omega (arith, to) in
        let above = subst (λ p. Leads (woven_at s place []) (line_text weave_words) (woven_at s p [])) highest (weave_leads (woven_at s place []) to refl (late_at s place [] from)) in
        record {
          place = 8;
          from = omega arith;
          to = omega arith;
          leads = leads_on above (subst (λ ts. Leads (woven_at s 8 []) (lines_text (turn_lines ts)) (woven_at s 8 s.turns)) is (all_turns_lead s));
        }

-- the last line
pub end_reach : (s : Setup) (place : ℕ) → 4 ≤ place → place ≤ 8 → Leads (woven_at s place s.turns) (lines_text (end_words ∷ [])) (woven_at s 9 s.turns)
end_reach s place from to =
    let highest : max place 9 ≡ 9 = omega (arith, to) in
    leads_on (subst (λ p. Leads (woven_at s place s.turns) (line_text end_words) (woven_at s p s.turns)) highest (end_leads (woven_at s place s.turns) to (few_turns s) (late_at s place s.turns from)))
    (leads_nowhere (woven_at s 9 s.turns))
