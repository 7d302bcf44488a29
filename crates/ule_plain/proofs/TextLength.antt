-- A plain text is no longer than a scenario may be.
use Rattle.std.proofs.Common.{◌≡◌, ℕ, ◌+◌, ◌*◌, ◌^◌, ◌<◌, ◌≤◌, ◌==◌, Bool, true, false, ◌&&◌, ◌||◌, not, eqb, List, [], ◌∷◌, ◌++◌, length, map, take, drop, refl, sym, ap, ◌∙◌, subst, arith}
use Rattle.std.specs.Prelude.{nat_lt, nat_le}
use Rattle.std.specs.List.{list_all, list_any, AllByRecursion, IsDistinct}
use Rattle.std.proofs.lemmas.Bool.{and_from, and_parts, or_parts, not-true, leb-true, ltb-true, eqb-true, eqb-false, ne_eqb, false≢true}
use Rattle.std.proofs.lemmas.List.{length-append, length-map, length-take, take-append-drop}
use Rattle.std.proofs.lemmas.List.Folds.{list_all-append, list_all-map}
use Rattle.std.proofs.lemmas.Map.Steps.{length-le_from_distinct_below}
use Rattle.ule_topo.specs.Mask.{below}
use Rattle.ule_types.specs.Commands.{is_among, is_command}
use Rattle.ule_types.specs.Rules.{is_spec, is_distinct, declared_ids, budget_from}
use Rattle.ule_types.specs.declared.command.Command.{Command}
use Rattle.ule_types.specs.declared.setup.Setup.{Setup}
use Rattle.ule_types.specs.declared.setup.ThreadSpec.{ThreadSpec}
use Rattle.ule_trace.specs.Line.{line_text, lines_text}
use Rattle.ule_plain.proofs.DeclaringSections.{few_cpus, numbers_of}
use Rattle.ule_plain.proofs.Leading.{lines_cut}
use Rattle.ule_plain.proofs.Lengths.{lines_length, opening_length, group_length, is_declared, thread_length, unborn_length, command_length, script_length, turns_length}
use Rattle.ule_plain.proofs.Scripts.{charge_of, charge-cons, budget-append}
use Rattle.ule_plain.proofs.Spelling.{length_below}
use Rattle.ule_plain.proofs.Topologies.{is_in_range, lines_in_range}
use Rattle.ule_plain.proofs.TurnSections.{few_turns, part_passes, workers_small}
use Rattle.ule_plain.specs.Commands.{command_words}
use Rattle.ule_plain.specs.Lines.{group_words, thread_words, unborn_words, script_words, turns_words, turns_of_line, weave_words, end_words}
use Rattle.ule_plain.specs.Text.{opening_lines, script_lines, scripts_lines, lines_of_turns, turn_lines, weave_lines, plain_text}

-- the length of lines in two parts
both_lengths : (xs ys : List (List (List ℕ))) → length (lines_text (xs ++ ys)) ≡ length (lines_text xs) + length (lines_text ys)
both_lengths xs ys = ap length (lines_cut xs ys) ∙ length-append (lines_text xs) (lines_text ys)

-- ---- threads

-- a number that isn't among others is equal to none of them
equal_to_none : (x : ℕ) (xs : List ℕ) → is_among xs x ≡ false → AllByRecursion (λ y. eqb x y ≡ false) xs
equal_to_none x [] none = tt
equal_to_none x (y ∷ xs) none =
    let parts = or_parts (y == x) (is_among xs x) none in
    (ne_eqb x y (λ e. eqb-false y x parts.0 (sym e)), equal_to_none x xs parts.1)

-- numbers of which none stands twice
distinct_numbers : (xs : List ℕ) → is_distinct xs ≡ true → IsDistinct eqb xs
unfolding IsDistinct
distinct_numbers [] all = tt
distinct_numbers (x ∷ xs) all =
    let parts = and_parts (not (is_among xs x)) (is_distinct xs) all in
    (equal_to_none x xs (not-true (is_among xs x) parts.0), distinct_numbers xs parts.1)

-- a number that is found among some that are below 256
found_small : (xs : List ℕ) (q : ℕ) → list_all (λ t. nat_lt t 256) xs ≡ true → list_any (eqb q) xs ≡ true → q < 256
found_small [] q all found = absurd (false≢true found)
found_small (x ∷ xs) q all found =
    let parts = and_parts (nat_lt x 256) (list_all (λ t. nat_lt t 256) xs) all in
    by_test (eqb q x) refl found (ltb-true x 256 parts.0) (found_small xs q parts.1)
  where
    by_test : (b : Bool) → eqb q x ≡ b → (b || list_any (eqb q) xs) ≡ true → x < 256 → (list_any (eqb q) xs ≡ true → q < 256) → q < 256
    by_test true same found small rest = subst (λ n. n < 256) (sym (eqb-true q x same)) small
    by_test false other found small rest = rest found

-- there are at most 256 threads
few_declared : (s : Setup) → length s.threads + length s.unborn ≤ 256
few_declared s =
    let all = numbers_of s in
    let ids = declared_ids s.threads s.unborn in
    omega (
      arith,
      length-le_from_distinct_below ids 256 (distinct_numbers ids all.1) (λ q found. found_small ids q all.0 found),
      length-append (map (λ (t : ThreadSpec). t.id) s.threads) s.unborn,
      length-map s.threads (λ (t : ThreadSpec). t.id),
    )

-- two tests of all at once
both_pass : {X : Type 0} (p q : X → Bool) (xs : List X) → list_all p xs ≡ true → list_all q xs ≡ true → list_all (λ x. p x && q x) xs ≡ true
both_pass p q [] one other = refl
both_pass p q (x ∷ xs) one other =
    let a = and_parts (p x) (list_all p xs) one in
    let b = and_parts (q x) (list_all q xs) other in
    and_from (p x && q x) (list_all (λ y. p y && q y) xs) (and_from (p x) (q x) a.0 b.0) (both_pass p q xs a.1 b.1)

-- the lines of groups, of threads and of unborn ones
groups_length : (s : Setup) → length (lines_text (map group_words s.groups)) ≤ length s.groups * 60
groups_length s = lines_length group_words (is_in_range s.cpus) 60 (group_length s.cpus) s.groups (lines_in_range s.cpus s.groups s.rules.groups)

threads_length : (s : Setup) → length (lines_text (map thread_words s.threads)) ≤ length s.threads * 29
threads_length s =
    let small : ℕ → Bool = λ t. nat_lt t 256 in
    let parts = and_parts (list_all small (map (λ (t : ThreadSpec). t.id) s.threads)) (list_all small s.unborn) (sym (list_all-append small (map (λ (t : ThreadSpec). t.id) s.threads) s.unborn) ∙ (numbers_of s).0) in
    lines_length thread_words (is_declared s.cpus) 29 (thread_length s.cpus (few_cpus s)) s.threads
    (both_pass (is_spec s.cpus) (λ t. small t.id) s.threads s.rules.threads (sym (list_all-map small (λ (t : ThreadSpec). t.id) s.threads) ∙ parts.0))

unborn_lengths : (s : Setup) → length (lines_text (map unborn_words s.unborn)) ≤ length s.unborn * 29
unborn_lengths s =
    let small : ℕ → Bool = λ t. nat_lt t 256 in
    let parts = and_parts (list_all small (map (λ (t : ThreadSpec). t.id) s.threads)) (list_all small s.unborn) (sym (list_all-append small (map (λ (t : ThreadSpec). t.id) s.threads) s.unborn) ∙ (numbers_of s).0) in
    lines_length unborn_words small 29 unborn_length s.unborn parts.1

-- ---- scripts

-- the lines of commands have 15 bytes at most for each item that they are charged
commands_length : (ids : List ℕ) (worker cpus : ℕ) (script : List Command) → list_all (λ u. nat_lt u 256) ids ≡ true → 1 ≤ cpus → cpus ≤ 16 → list_all (is_command ids cpus) script ≡ true →
    length (lines_text (map command_words script)) ≤ charge_of worker cpus script * 15
commands_length ids worker cpus [] small some few all = omega arith
commands_length ids worker cpus (c ∷ script) small some few all =
    let parts = and_parts (is_command ids cpus c) (list_all (is_command ids cpus) script) all in
    omega (
      arith,
      both_lengths (command_words c ∷ []) (map command_words script),
      length-append (line_text (command_words c)) [],
      command_length ids worker cpus c small some few parts.0,
      charge-cons worker cpus c script,
      commands_length ids worker cpus script small some few parts.1,
    )

-- those of the workers from one on
scripts_length : (ids : List ℕ) (worker cpus : ℕ) (scripts : List (List Command)) → list_all (λ u. nat_lt u 256) ids ≡ true → 1 ≤ cpus → cpus ≤ 16 → worker + length scripts ≤ 16 →
    list_all (λ script. list_all (is_command ids cpus) script) scripts ≡ true → length (lines_text (scripts_lines worker scripts)) ≤ length scripts * 10 + budget_from worker cpus scripts * 15
scripts_length ids worker cpus [] small some few fits all = omega arith
scripts_length ids worker cpus (script ∷ scripts) small some few fits all =
    let parts = and_parts (list_all (is_command ids cpus) script) (list_all (λ (l : List Command). list_all (is_command ids cpus) l) scripts) all in
    omega (
      arith,
      both_lengths (script_lines worker script) (scripts_lines (worker + 1) scripts),
      both_lengths (script_words worker ∷ []) (map command_words script),
      length-append (line_text (script_words worker)) [],
      script_length worker (omega (arith, fits)),
      commands_length ids worker cpus script small some few parts.0,
      scripts_length ids (worker + 1) cpus scripts small some few (omega (arith, fits)) parts.1,
    )

-- those of all workers
all_scripts_length : (s : Setup) → length (lines_text (scripts_lines 0 (take s.cpus s.scripts))) ≤ 983200
all_scripts_length s =
    let each : List Command → Bool = λ script. list_all (is_command (declared_ids s.threads s.unborn) s.cpus) script in
    let first = take s.cpus s.scripts in
    let behind = drop s.cpus s.scripts in
    let whole = take-append-drop s.cpus s.scripts in
    let few = few_cpus s in
    let some = leb-true 1 s.cpus (and_parts (nat_le 1 s.cpus) (nat_le s.cpus 16) s.rules.cpus).0 in
    let valid = and_parts (list_all each first) (list_all each behind) (sym (list_all-append each first behind) ∙ ap (list_all each) whole ∙ s.rules.commands) in
    let short : length first ≤ 16 = omega (arith, length-take s.cpus s.scripts, few) in
    omega (
      arith,
      scripts_length (declared_ids s.threads s.unborn) 0 s.cpus first (numbers_of s).0 some few (omega (arith, short)) valid.0,
      short,
      ap (budget_from 0 s.cpus) whole,
      budget-append 0 (length first) s.cpus first behind (omega arith),
      leb-true (budget_from 0 s.cpus s.scripts) 65536 s.rules.budget,
    )

-- ---- turns

-- any line of them
turn_line_length : (s : Setup) (k : ℕ) → length (line_text (turns_words (turns_of_line s.turns k))) ≤ 198
turn_line_length s k =
    turns_length (turns_of_line s.turns k) (workers_small s.cpus (turns_of_line s.turns k) (few_cpus s) (part_passes (λ w. nat_lt w s.cpus) (64 * k) 64 s.turns s.rules.turns))
    (omega (arith, length-take 64 (drop (64 * k) s.turns)))

-- a test that anything passes
any_passes : (ks : List ℕ) → list_all (λ k. true) ks ≡ true
any_passes [] = refl
any_passes (k ∷ ks) = any_passes ks

-- the section of turns
weave_length : (s : Setup) → length (lines_text (weave_lines s.turns)) ≤ 12700
weave_length s = by_turns s.turns refl
  where
    by_turns : (turns : List ℕ) → s.turns ≡ turns → length (lines_text (weave_lines turns)) ≤ 12700
    by_turns [] is = omega arith
    by_turns (w ∷ turns) is =
        let n = lines_of_turns (length s.turns) in
        let few = few_turns s in
        let lines = lines_length (λ k. turns_words (turns_of_line s.turns k)) (λ k. true) 198 (λ k good. turn_line_length s k) (below n) (any_passes (below n)) in
        let all : length (lines_text (turn_lines s.turns)) ≤ 12672 = omega (arith, lines, length_below n) in
        subst (λ ts. length (lines_text (weave_words ∷ turn_lines ts)) ≤ 12700) is
        (omega (arith, all, both_lengths (weave_words ∷ []) (turn_lines s.turns)))

-- ---- the text

-- the length of seven parts
seven_lengths : (a b c d e f g : List (List (List ℕ))) →
    length (lines_text (a ++ (b ++ (c ++ (d ++ (e ++ (f ++ g))))))) ≡
    length (lines_text a) + length (lines_text b) + length (lines_text c) + length (lines_text d) + length (lines_text e) + length (lines_text f) + length (lines_text g)
seven_lengths a b c d e f g = omega (
  arith,
  both_lengths a (b ++ (c ++ (d ++ (e ++ (f ++ g))))),
  both_lengths b (c ++ (d ++ (e ++ (f ++ g)))),
  both_lengths c (d ++ (e ++ (f ++ g))),
  both_lengths d (e ++ (f ++ g)),
  both_lengths e (f ++ g),
  both_lengths f g,
)

-- a plain text is read, since it isn't too long
pub text_fits : (s : Setup) → length (plain_text s) ≤ 1048576
unfolding plain_text
text_fits s = omega (
  arith,
  seven_lengths (opening_lines s.settings s.jitter s.cpus) (map group_words s.groups) (map thread_words s.threads) (map unborn_words s.unborn) (scripts_lines 0 (take s.cpus s.scripts)) (weave_lines s.turns) (end_words ∷ []),
  opening_length s.settings s.jitter s.cpus s.rules.settings (ltb-true s.jitter (2 ^ 32) s.rules.jitter) (few_cpus s),
  groups_length s,
  leb-true (length s.groups) 15 s.rules.group_count,
  threads_length s,
  unborn_lengths s,
  few_declared s,
  all_scripts_length s,
  weave_length s,
)
