-- A plain text is no longer than a scenario may be.
use Rattle.std.proofs.Common.{◌≡◌, ℕ, suc, ◌+◌, ◌*◌, ◌^◌, ◌<◌, ◌≤◌, ◌==◌, ℤ, pos, negsuc, Bool, true, false, ◌&&◌, Option, Some, None, List, [], ◌∷◌, ◌++◌, length, map, refl, arith}
use Rattle.std.specs.Prelude.{nat_lt, nat_le, if◌then◌else◌, filter, codes}
use Rattle.std.specs.List.{list_all}
use Rattle.std.specs.Fmt.{decimal, signed_decimal}
use Rattle.std.proofs.lemmas.Bool.{and_parts, leb-true, ltb-true}
use Rattle.std.proofs.lemmas.Fmt.{length-decimal-le}
use Rattle.std.proofs.lemmas.List.{length-append}
use Rattle.ule_prio.specs.Class.{is_within}
use Rattle.ule_score.specs.Settings.{are_settings}
use Rattle.ule_score.specs.declared.record.Settings.{Settings}
use Rattle.ule_topo.specs.Mask.{below, has_cpu}
use Rattle.ule_topo.specs.declared.group.GroupLine.{GroupLine}
use Rattle.ule_types.proofs.Repeats.{among_passes}
use Rattle.ule_types.specs.Commands.{is_among, is_command, is_nice, greatest_of}
use Rattle.ule_types.specs.Rules.{is_form, is_spec}
use Rattle.ule_types.specs.declared.command.Command.{Command}
use Rattle.ule_types.specs.declared.command.Command.TheVariants as command
use Rattle.ule_types.specs.declared.setup.Form.{Form}
use Rattle.ule_types.specs.declared.setup.Form.TheVariants as form
use Rattle.ule_types.specs.declared.setup.ThreadSpec.{ThreadSpec}
use Rattle.ule_trace.specs.Line.{spaced, line_text, lines_text, optional_word}
use Rattle.ule_plain.proofs.DeclaringLines.{range_end, idle_small}
use Rattle.ule_plain.proofs.Masks.{cpus_rise}
use Rattle.ule_plain.proofs.NumberLists.{rising_small}
use Rattle.ule_plain.proofs.Spelling.{length_below}
use Rattle.ule_plain.proofs.Topologies.{is_parent_number, is_in_range}
use Rattle.ule_plain.specs.Commands.{command_words}
use Rattle.ule_plain.specs.Lines.{header_words, setting_words, jitter_words, cpus_words, group_words, form_words, cpu_words, thread_words, unborn_words, script_words, turns_words, cpus_of_mask}
use Rattle.ule_plain.specs.Text.{opening_lines}

-- ---- words

-- the bytes of words, with one beside each
abbrev pub size_of : List (List ℕ) → ℕ
size_of [] = 0
size_of (w ∷ ws) = length w + 1 + size_of ws

-- words behind spaces have so many
spaced_length : (ws : List (List ℕ)) → length (spaced ws) ≡ size_of ws
spaced_length [] = refl
spaced_length (w ∷ ws) = omega (arith, length-append (32 ∷ w) (spaced ws), spaced_length ws)

-- a line has so many
pub line_length : (w : List ℕ) (ws : List (List ℕ)) → length (line_text (w ∷ ws)) ≡ size_of (w ∷ ws)
line_length w ws = omega (arith, length-append (w ++ spaced ws) (10 ∷ []), length-append w (spaced ws), spaced_length ws)

-- words in two parts
size-append : (us ws : List (List ℕ)) → size_of (us ++ ws) ≡ size_of us + size_of ws
size-append [] ws = omega arith
size-append (u ∷ us) ws = omega (arith, size-append us ws)

-- a small number has few digits
seven_digits : (n : ℕ) → n < 10000000 → length (decimal n) ≤ 7
seven_digits n small = length-decimal-le 7 n (omega arith) (omega arith) (omega arith)

ten_digits : (n : ℕ) → n < 2 ^ 32 → length (decimal n) ≤ 10
ten_digits n small = length-decimal-le 10 n (omega arith) (omega arith) (omega arith)

five_digits : (n : ℕ) → n < 100000 → length (decimal n) ≤ 5
five_digits n small = length-decimal-le 5 n (omega arith) (omega arith) (omega arith)

three_digits : (n : ℕ) → n < 1000 → length (decimal n) ≤ 3
three_digits n small = length-decimal-le 3 n (omega arith) (omega arith) (omega arith)

two_digits : (n : ℕ) → n < 100 → length (decimal n) ≤ 2
two_digits n small = length-decimal-le 2 n (omega arith) (omega arith) (omega arith)

-- a nice value has a sign and two digits
nice_length : (z : ℤ) → is_nice z ≡ true → length (signed_decimal z) ≤ 3
nice_length (pos n) small = let few = leb-true n 20 small in let short = two_digits n (omega arith) in omega arith
nice_length (negsuc n) small = let few = ltb-true n 20 small in let short = two_digits (suc n) (omega arith) in omega arith

-- ---- lines

-- lines of which none has more than so many bytes
pub lines_length : {X : Type 0} (words : X → List (List ℕ)) (p : X → Bool) (k : ℕ) → ((x : X) → p x ≡ true → length (line_text (words x)) ≤ k) → (xs : List X) → list_all p xs ≡ true →
    length (lines_text (map words xs)) ≤ length xs * k
lines_length words p k each [] all = omega arith
lines_length words p k each (x ∷ xs) all =
    let parts = and_parts (p x) (list_all p xs) all in
    omega (arith, length-append (line_text (words x)) (lines_text (map words xs)), each x parts.0, lines_length words p k each xs parts.1)

-- a setting's line, or that of another number at the head of a text
counted_length : (word : List ℕ) (n : ℕ) → n < 2 ^ 32 → length (line_text (word ∷ decimal n ∷ [])) ≤ length word + 12
counted_length word n small = omega (arith, line_length word (decimal n ∷ []), ten_digits n small)

setting_length : (name : List ℕ) (n : ℕ) → n < 2 ^ 32 → length (line_text (setting_words name n)) ≤ length name + 16
setting_length name n small = omega (arith, line_length (codes "set") (name ∷ decimal n ∷ []), ten_digits n small)

-- ---- lines that declare

-- so many CPUs take so many bytes
pub small_size : (ns : List ℕ) → list_all (λ n. nat_le n 15) ns ≡ true → size_of (map decimal ns) ≤ length ns * 3
small_size [] small = omega arith
small_size (n ∷ ns) small =
    let parts = and_parts (nat_le n 15) (list_all (λ m. nat_le m 15) ns) small in
    let few = leb-true n 15 parts.0 in
    omega (arith, two_digits n (omega arith), small_size ns parts.1)

-- what is left of a list is no longer
filter_length : (p : ℕ → Bool) (xs : List ℕ) → length (filter p xs) ≤ length xs
filter_length p [] = omega arith
filter_length p (x ∷ xs) = by_test (p x) (filter_length p xs)
  where
    by_test : (b : Bool) → length (filter p xs) ≤ length xs → length (if b then x ∷ filter p xs else filter p xs) ≤ length (x ∷ xs)
    by_test true rest = omega arith
    by_test false rest = omega arith

-- a mask has at most 16 CPUs
pub mask_length : (m : ℕ) → length (cpus_of_mask m) ≤ 16
mask_length m = omega (arith, filter_length (has_cpu m) (below 16), length_below 16)

-- a parent's number
parent_length : (parent : Option ℕ) → is_parent_number parent ≡ true → length (optional_word parent) ≤ 2
parent_length None small = omega arith
parent_length (Some id) small = let few = leb-true id 14 small in two_digits id (omega arith)

-- a group's line
pub group_length : (cpus : ℕ) (g : GroupLine) → is_in_range cpus g ≡ true → length (line_text (group_words g)) ≤ 60
group_length cpus g range =
    let both = and_parts (nat_le g.id 14 && is_parent_number g.parent) (nat_lt g.cpus (2 ^ cpus)) range in
    let front = and_parts (nat_le g.id 14) (is_parent_number g.parent) both.0 in
    let few = leb-true g.id 14 front.0 in
    let cs = cpus_of_mask g.cpus in
    omega (
      arith,
      line_length (codes "group") (decimal g.id ∷ optional_word g.parent ∷ map decimal cs),
      two_digits g.id (omega arith),
      parent_length g.parent front.1,
      small_size cs (rising_small 0 cs (cpus_rise g.cpus)),
      mask_length g.cpus,
    )

-- a class with its nice value, or its base priority
form_size : (f : Form) → is_form f ≡ true → size_of (form_words f) ≤ 9
form_size (form.Ts z) good = omega (arith, nice_length z good)
form_size (form.Ithd p) good = let high = range_end 0 47 p good in omega (arith, three_digits p (omega arith))
form_size (form.Rt p) good = let high = range_end 48 79 p good in omega (arith, three_digits p (omega arith))
form_size (form.Fifo p) good = let high = range_end 48 79 p good in omega (arith, three_digits p (omega arith))
form_size (form.Idle p) good = let high = (idle_small p good).1 in omega (arith, three_digits p (omega arith))

-- a CPU, and whether a thread is bound to it
cpu_size : (c : ℕ) (bound : Bool) → c < 16 → size_of (cpu_words c bound) ≤ 9
cpu_size c true small = omega (arith, two_digits c (omega arith))
cpu_size c false small = omega (arith, two_digits c (omega arith))

-- whether a thread may be declared so, with such a number
abbrev pub is_declared : ℕ → ThreadSpec → Bool
is_declared cpus t = is_spec cpus t && nat_lt t.id 256

-- its line
pub thread_length : (cpus : ℕ) → cpus ≤ 16 → (t : ThreadSpec) → is_declared cpus t ≡ true → length (line_text (thread_words t)) ≤ 29
thread_length cpus few t good =
    let both = and_parts (is_spec cpus t) (nat_lt t.id 256) good in
    let own = and_parts (is_form t.form) (nat_lt t.cpu cpus) both.0 in
    let small = ltb-true t.id 256 both.1 in
    let there = ltb-true t.cpu cpus own.1 in
    omega (
      arith,
      line_length (codes "thread") (decimal t.id ∷ form_words t.form ++ cpu_words t.cpu t.bound),
      size-append (form_words t.form) (cpu_words t.cpu t.bound),
      three_digits t.id (omega arith),
      form_size t.form own.0,
      cpu_size t.cpu t.bound (omega arith),
    )

-- the line of an unborn thread
pub unborn_length : (t : ℕ) → nat_lt t 256 ≡ true → length (line_text (unborn_words t)) ≤ 29
unborn_length t small = let below = ltb-true t 256 small in omega (arith, line_length (codes "unborn") (decimal t ∷ []), three_digits t (omega arith))

-- ---- lines of play

-- a tick is charged something
tick_charged : (b : Bool) (cpus : ℕ) → 1 ≤ (if b then 1 + 2 * cpus else 1)
tick_charged true cpus = omega arith
tick_charged false cpus = omega arith

-- a declared thread has a number of three digits at most
named_length : (ids : List ℕ) (t : ℕ) → list_all (λ u. nat_lt u 256) ids ≡ true → is_among ids t ≡ true → length (decimal t) ≤ 3
named_length ids t small some = let below = ltb-true t 256 (among_passes (λ u. nat_lt u 256) ids t small some) in three_digits t (omega arith)

-- a command has at most 15 bytes for each item that it is charged
pub command_length : (ids : List ℕ) (worker cpus : ℕ) (c : Command) → list_all (λ u. nat_lt u 256) ids ≡ true → 1 ≤ cpus → cpus ≤ 16 → is_command ids cpus c ≡ true →
    length (line_text (command_words c)) ≤ greatest_of c worker cpus * 15
command_length ids worker cpus command.Tick small some few good = omega (arith, line_length (codes "tick") [], tick_charged ((worker == 0) && nat_lt 1 cpus) cpus)
command_length ids worker cpus (command.Time k) small some few good =
    let range = leb-true k 1000000 (and_parts (nat_le 1 k) (nat_le k 1000000) good).1 in
    omega (arith, line_length (codes "time") (decimal k ∷ []), seven_digits k (omega arith))
command_length ids worker cpus command.Yield small some few good = omega (arith, line_length (codes "yield") [])
command_length ids worker cpus command.Resched small some few good = omega (arith, line_length (codes "resched") [])
command_length ids worker cpus (command.Sleep channel) small some few good =
    let range = leb-true channel 65535 (and_parts (nat_le 0 channel) (nat_le channel 65535) good).1 in
    omega (arith, line_length (codes "sleep") (decimal channel ∷ []), five_digits channel (omega arith))
command_length ids worker cpus (command.Wake t) small some few good = omega (arith, line_length (codes "wake") (decimal t ∷ []), named_length ids t small good)
command_length ids worker cpus (command.Lend t p) small some few good =
    let both = and_parts (is_among ids t) (is_within 0 255 p) good in
    let low = leb-true p 255 (and_parts (nat_le 0 p) (nat_le p 255) both.1).1 in
    omega (arith, line_length (codes "lend") (decimal t ∷ decimal p ∷ []), named_length ids t small both.0, three_digits p (omega arith))
command_length ids worker cpus (command.Unlend t) small some few good = omega (arith, line_length (codes "unlend") (decimal t ∷ []), named_length ids t small good)
command_length ids worker cpus (command.Renice t z) small some few good =
    let both = and_parts (is_among ids t) (is_nice z) good in
    omega (arith, line_length (codes "renice") (decimal t ∷ signed_decimal z ∷ []), named_length ids t small both.0, nice_length z both.1)
command_length ids worker cpus (command.Fork t) small some few good = omega (arith, line_length (codes "fork") (decimal t ∷ []), named_length ids t small good)
command_length ids worker cpus command.Exit small some few good = omega (arith, line_length (codes "exit") [])
command_length ids worker cpus command.Idle small some few good = omega (arith, line_length (codes "idle") [])
command_length ids worker cpus command.Balance small some few good = omega (arith, line_length (codes "balance") [])
command_length ids worker cpus (command.Look c) small some few good =
    let there = ltb-true c cpus good in
    omega (arith, line_length (codes "look") (decimal c ∷ []), two_digits c (omega arith))

-- the line above a worker's commands
pub script_length : (worker : ℕ) → worker ≤ 15 → length (line_text (script_words worker)) ≤ 10
script_length worker small = omega (arith, line_length (codes "script") (decimal worker ∷ []), two_digits worker (omega arith))

-- a line of turns
pub turns_length : (ws : List ℕ) → list_all (λ n. nat_le n 15) ws ≡ true → length ws ≤ 64 → length (line_text (turns_words ws)) ≤ 198
turns_length ws small few = omega (arith, line_length (codes "turns") (map decimal ws), small_size ws small)

-- the lines up to the number of CPUs
pub opening_length : (s : Settings) (jitter cpus : ℕ) → are_settings s ≡ true → jitter < 2 ^ 32 → cpus ≤ 16 → length (lines_text (opening_lines s jitter cpus)) ≤ 200
opening_length s jitter cpus all small few =
    let a = is_within 1 100 s.interact in
    let b = is_within 6 1000 s.slice in
    let c = is_within 0 255 s.preempt in
    let last = and_parts (a && b && c) (is_within 1 64 s.steal) all in
    let third = and_parts (a && b) c last.0 in
    let both = and_parts a b third.0 in
    let i = leb-true s.interact 100 (and_parts (nat_le 1 s.interact) (nat_le s.interact 100) both.0).1 in
    let l = leb-true s.slice 1000 (and_parts (nat_le 6 s.slice) (nat_le s.slice 1000) both.1).1 in
    let p = leb-true s.preempt 255 (and_parts (nat_le 0 s.preempt) (nat_le s.preempt 255) third.1).1 in
    let t = leb-true s.steal 64 (and_parts (nat_le 1 s.steal) (nat_le s.steal 64) last.1).1 in
    eight_lines (line_text header_words) (line_text (setting_words (codes "interact") s.interact)) (line_text (setting_words (codes "slice") s.slice))
    (line_text (setting_words (codes "preempt") s.preempt)) (line_text (setting_words (codes "steal") s.steal)) (line_text (jitter_words jitter)) (line_text (cpus_words cpus))
    (omega (
      arith,
      line_length (codes "ule-scenario") (codes "1" ∷ []),
      setting_length (codes "interact") s.interact (omega arith),
      setting_length (codes "slice") s.slice (omega arith),
      setting_length (codes "preempt") s.preempt (omega arith),
      setting_length (codes "steal") s.steal (omega arith),
      counted_length (codes "jitter") jitter small,
      counted_length (codes "cpus") cpus (omega arith),
    ))
  where
    eight_lines : (a b c d e f g : List ℕ) → length a + length b + length c + length d + length e + length f + length g ≤ 200 → length (a ++ (b ++ (c ++ (d ++ (e ++ (f ++ (g ++ []))))))) ≤ 200
    eight_lines a b c d e f g few = omega (
      arith,
      length-append a (b ++ (c ++ (d ++ (e ++ (f ++ (g ++ [])))))),
      length-append b (c ++ (d ++ (e ++ (f ++ (g ++ []))))),
      length-append c (d ++ (e ++ (f ++ (g ++ [])))),
      length-append d (e ++ (f ++ (g ++ []))),
      length-append e (f ++ (g ++ [])),
      length-append f (g ++ []),
      length-append g [],
    )
