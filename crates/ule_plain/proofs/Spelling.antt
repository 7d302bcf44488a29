-- Lines that are spelled one after another.
use Rattle.std.proofs.Common.{◌≡◌, ℕ, zero, suc, ◌+◌, ⊎_elim, ◌<◌, ◌≤◌, true, false, List, [], ◌∷◌, ◌++◌, length, map, take, drop, get_or, refl, sym, ap, ◌∙◌, append_assoc, arith}
use Rattle.std.specs.Prelude.{filter, ◌==◌}
use Rattle.std.specs.Fmt.{decimal}
use Rattle.std.proofs.lemmas.List.{append-nil, map-append, take_more, drop_more, drop_all, length-append, length-take, get_or_append_left, get_or-take}
use Rattle.std.proofs.Math.Seq.{get_or-append_seam}
use Rattle.std.proofs.lemmas.Bool.{cases_lt, eqb-true, false≢true}
use Rattle.std.proofs.lemmas.Grind.{flat_map-append}
use Rattle.ule_topo.specs.Mask.{below, has_cpu}
use Rattle.ule_topo.proofs.BelowLaws.{filter_below_in, filter_below_out}
use Rattle.ule_trace.specs.Line.{spaced, line_text, lines_text}
use Rattle.ule_types.specs.declared.command.Command.{Command}
use Rattle.ule_plain.proofs.Leading.{lines_cut}
use Rattle.ule_plain.specs.Lines.{turns_words, turns_of_line, weave_words}
use Rattle.ule_plain.specs.Text.{lines_of_turns, script_lines, scripts_lines, turn_lines, weave_lines}

-- numbers behind spaces, with one more
spaced_more : (held : List ℕ) (ns : List ℕ) (n : ℕ) → (held ++ spaced (map decimal ns)) ++ 32 ∷ decimal n ≡ held ++ spaced (map decimal (ns ++ n ∷ []))
spaced_more held ns n =
    append_assoc held (spaced (map decimal ns)) (32 ∷ decimal n)
    ∙ ap (λ xs. held ++ xs) (ap (λ xs. spaced (map decimal ns) ++ 32 ∷ xs) (sym (append-nil (decimal n)))
    ∙ sym (ap spaced (map-append decimal ns (n ∷ [])) ∙ flat_map-append (λ w. 32 ∷ w) (map decimal ns) (decimal n ∷ [])))

-- one more CPU that is in the mask
pub cpu_in : (held now : List ℕ) (mask c : ℕ) → now ≡ held ++ spaced (map decimal (filter (has_cpu mask) (below c))) → has_cpu mask c ≡ true →
    now ++ 32 ∷ decimal c ≡ held ++ spaced (map decimal (filter (has_cpu mask) (below (c + 1))))
cpu_in held now mask c so_far is =
    ap (λ xs. xs ++ 32 ∷ decimal c) so_far ∙ spaced_more held (filter (has_cpu mask) (below c)) c ∙ ap (λ ns. held ++ spaced (map decimal ns)) (sym (filter_below_in (has_cpu mask) c is))

-- one more that isn't
pub cpu_out : (held now : List ℕ) (mask c : ℕ) → now ≡ held ++ spaced (map decimal (filter (has_cpu mask) (below c))) → has_cpu mask c ≡ false →
    now ≡ held ++ spaced (map decimal (filter (has_cpu mask) (below (c + 1))))
cpu_out held now mask c so_far is = so_far ∙ ap (λ ns. held ++ spaced (map decimal ns)) (sym (filter_below_out (has_cpu mask) c is))

-- one more turn
pub turn_more : (held now : List ℕ) (turns : List ℕ) (k : ℕ) → k < length turns → now ≡ held ++ spaced (map decimal (take k turns)) →
    now ++ 32 ∷ decimal (get_or turns k 0) ≡ held ++ spaced (map decimal (take (k + 1) turns))
turn_more held now turns k within so_far =
    ap (λ xs. xs ++ 32 ∷ decimal (get_or turns k 0)) so_far ∙ spaced_more held (take k turns) (get_or turns k 0)
    ∙ ap (λ ns. held ++ spaced (map decimal ns)) (sym (take_more turns k 0 within))

-- four lines
pub four_lines : (held a b c d : List ℕ) → (((held ++ a) ++ b) ++ c) ++ d ≡ held ++ (a ++ (b ++ (c ++ (d ++ []))))
four_lines held a b c d = simp (append_assoc, append-nil)

-- some lines behind a first one, and two more
five_parts : (held first lines y z : List ℕ) → (((held ++ first) ++ lines) ++ y) ++ z ≡ held ++ (first ++ (lines ++ (y ++ z)))
five_parts held first lines y z = simp append_assoc

pub opening_parts : (held first : List ℕ) (lines : List (List (List ℕ))) (y z : List (List ℕ)) →
    (((held ++ first) ++ lines_text lines) ++ line_text y) ++ line_text z ≡ held ++ (first ++ lines_text (lines ++ y ∷ z ∷ []))
opening_parts held first lines y z =
    five_parts held first (lines_text lines) (line_text y) (line_text z)
    ∙ ap (λ xs. held ++ (first ++ xs)) (ap (λ xs. lines_text lines ++ (line_text y ++ xs)) (sym (append-nil (line_text z))) ∙ sym (lines_cut lines (y ∷ z ∷ [])))

-- ---- lines of turns

-- how many numbers are below one
pub length_below : (n : ℕ) → length (below n) ≡ n
unfolding below
length_below zero = refl
length_below (suc n) = omega (arith, length-append (below n) (n ∷ []), length_below n)

-- and which
below_at : (n k : ℕ) → k < n → get_or (below n) k 0 ≡ k
unfolding below
below_at zero k within = absurd (omega arith)
below_at (suc n) k within =
    ⊎_elim
    (λ (less : k < n). get_or_append_left (below n) (n ∷ []) 0 k (omega (arith, length_below n)) ∙ below_at n k less)
    (λ (more : n ≤ k).
    let last : length (below n) ≡ k = omega (arith, length_below n) in
    let same : n ≡ k = omega arith in
    ap (λ i. get_or (below n ++ n ∷ []) i 0) (sym last) ∙ get_or-append_seam (below n) n [] 0 ∙ same)
    (cases_lt k n)

-- the lines of turns from one on
abbrev pub turn_lines_from : ℕ → List ℕ → List (List (List ℕ))
turn_lines_from k turns = map (λ i. turns_words (turns_of_line turns i)) (drop k (below (lines_of_turns (length turns))))

-- the next line comes first of what is left
pub next_turn_line : (k : ℕ) (turns : List ℕ) → k < lines_of_turns (length turns) →
    lines_text (turn_lines_from k turns) ≡ line_text (turns_words (turns_of_line turns k)) ++ lines_text (turn_lines_from (k + 1) turns)
next_turn_line k turns within =
    let n = lines_of_turns (length turns) in
    ap (λ (ks : List ℕ). lines_text (map (λ i. turns_words (turns_of_line turns i)) ks)) (drop_more (below n) k 0 (omega (arith, length_below n)) ∙ ap (λ i. i ∷ drop (k + 1) (below n)) (below_at n k within))

-- behind the last line nothing is left
pub no_turn_line : (k : ℕ) (turns : List ℕ) → lines_of_turns (length turns) ≤ k → lines_text (turn_lines_from k turns) ≡ []
no_turn_line k turns past = let n = lines_of_turns (length turns) in rw (drop_all k (below n) (omega (arith, length_below n))) refl

-- ---- scripts

-- the text of the scripts behind a worker's
abbrev pub scripts_behind : ℕ → ℕ → List (List Command) → List ℕ
scripts_behind worker cpus scripts = lines_text (scripts_lines (worker + 1) (drop (worker + 1) (take cpus scripts)))

-- the next script comes first of what is left
pub next_script : (worker cpus : ℕ) (scripts : List (List Command)) (commands : List Command) → worker < cpus → cpus ≤ 16 → length scripts ≡ 16 → commands ≡ get_or scripts worker [] →
    lines_text (scripts_lines worker (drop worker (take cpus scripts))) ≡ lines_text (script_lines worker commands) ++ scripts_behind worker cpus scripts
next_script worker cpus scripts commands within few all is =
    let long : worker < length (take cpus scripts) = omega (arith, length-take cpus scripts) in
    let first : get_or (take cpus scripts) worker [] ≡ commands = get_or-take cpus scripts worker [] within ∙ sym is in
    ap (λ css. lines_text (scripts_lines worker css)) (drop_more (take cpus scripts) worker [] long ∙ ap (λ cs. cs ∷ drop (worker + 1) (take cpus scripts)) first)
    ∙ lines_cut (script_lines worker commands) (scripts_lines (worker + 1) (drop (worker + 1) (take cpus scripts)))

-- behind the last script nothing is left
pub no_script : (worker cpus : ℕ) (scripts : List (List Command)) → cpus ≤ worker → lines_text (scripts_lines worker (drop worker (take cpus scripts))) ≡ []
no_script worker cpus scripts past = ap (λ css. lines_text (scripts_lines worker css)) (drop_all worker (take cpus scripts) (omega (arith, length-take cpus scripts)))

-- ---- the section of turns

-- without turns there is none
pub no_weave : (turns : List ℕ) → (length turns == 0) ≡ true → lines_text (weave_lines turns) ≡ []
no_weave [] none = refl
no_weave (w ∷ turns) none = absurd (omega (arith, eqb-true (length (w ∷ turns)) 0 none))

-- with turns it begins with its first line
pub some_weave : (turns : List ℕ) → (length turns == 0) ≡ false → lines_text (weave_lines turns) ≡ line_text weave_words ++ lines_text (turn_lines turns)
some_weave [] some = absurd (false≢true (sym some))
some_weave (w ∷ turns) some = refl
