-- What the generator makes keeps the rules of a setup.
use Rattle.std.proofs.Common.{◌≡◌, ℕ, zero, suc, ◌+◌, ◌*◌, ◌%◌, ◌/◌, ◌<◌, ◌≤◌, ◌^◌, Bool, true, false, List, [], ◌∷◌, ◌++◌, length, map, refl, sym, ap, ◌∙◌, mod-lt, lit<, arith}
use Rattle.std.specs.Prelude.{sum, nat_lt, nat_le, ◌==◌, ◌&&◌, ◌||◌, if◌then◌else◌, IsTrue, is_ok}
use Rattle.ule_topo.specs.Build.{built, built_behind, group_of_line}
use Rattle.ule_topo.specs.Mask.{is_inside, meets}
use Rattle.std.specs.List.{AllByRecursion, sum_by, list_all, flat_map, range_with_len}
use Rattle.std.proofs.lemmas.Bool.{and_from, and_parts, lt-ltb, le-leb, leb-true, eqb-true}
use Rattle.std.proofs.lemmas.List.Folds.{list_all-append, list_any-append}
use Rattle.std.proofs.lemmas.List.Sums.{sum-map, sum_by-append, sum_by-cons}
use Rattle.std.proofs.lemmas.Grind.{flat_map-append}
use Rattle.ule_prio.specs.Class.{is_within}
use Rattle.ule_search.specs.Jitter.{stepped_word}
use Rattle.ule_types.specs.Commands.{greatest_of, forked_by, is_among, is_command}
use Rattle.ule_types.specs.Defaults.{default_settings}
use Rattle.ule_types.specs.Rules.{KeepsRules, budget_from, declared_ids, forked_in_all, is_distinct}
use Rattle.ule_types.specs.declared.command.Command.{Command}
use Rattle.ule_types.specs.declared.command.Command.TheVariants as command
use Rattle.ule_gen.specs.Generated.{Row, command_by, commands, drawn_below, first_above, generated, rows, script, word_behind}
use Rattle.ule_gen.specs.Made.{groups, scripts, threads, unborn}
use Rattle.ule_gen.specs.declared.draw.Drawn.{Drawn}
use Rattle.ule_gen.proofs.Written.{length-commands}

-- the declared threads
abbrev ids : List ℕ
ids = declared_ids threads unborn

-- ---- one command

-- a number of a range is among it
among_next : (a n t : ℕ) (same : Bool) → (a == t) ≡ same → t < a + suc n → a ≤ t → (a + 1 ≤ t → is_among (range_with_len (a + 1) n) t ≡ true) → ((a == t) || is_among (range_with_len (a + 1) n) t) ≡ true
among_next a n t true is below from rest = rw is refl
among_next a n t false is below from rest = rw is (rest (grind (arith, is)))

in_range : (a n t : ℕ) → a ≤ t → t < a + n → is_among (range_with_len a n) t ≡ true
in_range a zero t from below = absurd (omega (arith, from, below))
in_range a (suc n) t from below = among_next a n t (a == t) refl below from (λ more. in_range (a + 1) n t more (omega (arith, below)))

-- a drawn thread is declared
drawn_thread : (word : ℕ) → is_among ids (drawn_below 24 word) ≡ true
drawn_thread word =
    let t = drawn_below 24 word in
    let there = in_range 0 24 t (omega arith) (mod-lt (word / 65536) (lit< tt)) in
    list_any-append (λ u. u == t) (range_with_len 0 24) unborn ∙ rw there refl

-- whether a command is valid, has at most 9 items, and forks nothing
abbrev is_plain : ℕ → Command → Bool
is_plain worker c = is_command ids 4 c && (nat_le (greatest_of c worker 4) 9 && nat_le (length (forked_by c)) 0)

plain_by_tick : (balanced : Bool) → (nat_le (if balanced && nat_lt 1 4 then 1 + 2 * 4 else 1) 9 && true) ≡ true
plain_by_tick true = refl
plain_by_tick false = refl

plain_tick : (worker : ℕ) → is_plain worker command.Tick ≡ true
plain_tick worker = plain_by_tick (worker == 0)

plain_sleep : (worker word : ℕ) → is_plain worker (command.Sleep (drawn_below 4 word)) ≡ true
plain_sleep worker word =
    let c = drawn_below 4 word in
    let small : c < 4 = mod-lt (word / 65536) (lit< tt) in
    and_from (is_within 0 65535 c) true (and_from (nat_le 0 c) (nat_le c 65535) (le-leb 0 c (omega arith)) (le-leb c 65535 (omega (arith, small)))) refl

plain_wake : (worker word : ℕ) → is_plain worker (command.Wake (drawn_below 24 word)) ≡ true
plain_wake worker word = and_from (is_among ids (drawn_below 24 word)) true (drawn_thread word) refl

plain_lend : (worker word : ℕ) → is_plain worker (command.Lend (drawn_below 24 word) 100) ≡ true
plain_lend worker word = and_from (is_among ids (drawn_below 24 word) && true) true (and_from (is_among ids (drawn_below 24 word)) true (drawn_thread word) refl) refl

plain_unlend : (worker word : ℕ) → is_plain worker (command.Unlend (drawn_below 24 word)) ≡ true
plain_unlend worker word = and_from (is_among ids (drawn_below 24 word)) true (drawn_thread word) refl

-- what holds of each row, and of the last command, holds of what is drawn
by_test : (P : Drawn → Bool) (b : Bool) (x y : Drawn) → P x ≡ true → P y ≡ true → P (if b then x else y) ≡ true
by_test P true x y p q = p
by_test P false x y p q = q

of_rows : (P : Drawn → Bool) (d : ℕ) (table : List Row) (last : Drawn) → AllByRecursion (λ row. P row.1 ≡ true) table → P last ≡ true → P (first_above d table last) ≡ true
of_rows P d [] last all q = q
of_rows P d (row ∷ table) last all q = by_test P (nat_lt d row.0) row.1 (first_above d table last) all.0 (of_rows P d table last all.1 q)

plain_drawn : (worker d word : ℕ) → is_plain worker (command_by d word).command ≡ true
plain_drawn worker d word =
    let after = stepped_word word in
    of_rows (λ x. is_plain worker x.command) d (rows word after) (record { command = command.Unlend (drawn_below 24 after); word = after })
    (plain_tick worker, (refl, (refl, (refl, (plain_sleep worker after, (plain_wake worker after, (refl, (plain_lend worker after, tt)))))))) (plain_unlend worker after)

plain_generated : (worker word : ℕ) → is_plain worker (generated word).command ≡ true
unfolding generated
plain_generated worker word = plain_drawn worker (drawn_below 16 (stepped_word word)) (stepped_word word)

-- ---- a script

plain_commands : (worker n word : ℕ) → list_all (is_plain worker) (commands n word) ≡ true
unfolding commands
plain_commands worker zero word = refl
plain_commands worker (suc n) word =
    let c = (generated (word_behind n word)).command in
    list_all-append (is_plain worker) (commands n word) (c ∷ []) ∙ rw (plain_commands worker n word, plain_generated worker (word_behind n word)) refl

valid_if_plain : (worker : ℕ) (cs : List Command) → list_all (is_plain worker) cs ≡ true → list_all (is_command ids 4) cs ≡ true
valid_if_plain worker [] plain = refl
valid_if_plain worker (c ∷ cs) plain =
    let parts = and_parts (is_plain worker c) (list_all (is_plain worker) cs) plain in
    let own = and_parts (is_command ids 4 c) (nat_le (greatest_of c worker 4) 9 && nat_le (length (forked_by c)) 0) parts.0 in
    rw (own.0, valid_if_plain worker cs parts.1) refl

few_if_plain : (worker : ℕ) (cs : List Command) → list_all (is_plain worker) cs ≡ true → sum_by (λ c. greatest_of c worker 4) cs ≤ 9 * length cs
few_if_plain worker [] plain = omega arith
few_if_plain worker (c ∷ cs) plain =
    let parts = and_parts (is_plain worker c) (list_all (is_plain worker) cs) plain in
    let own = and_parts (is_command ids 4 c) (nat_le (greatest_of c worker 4) 9 && nat_le (length (forked_by c)) 0) parts.0 in
    let few = leb-true (greatest_of c worker 4) 9 (and_parts (nat_le (greatest_of c worker 4) 9) (nat_le (length (forked_by c)) 0) own.1).0 in
    let first = sum_by-cons (λ x. greatest_of x worker 4) c cs in
    omega (arith, few, first, few_if_plain worker cs parts.1)

no_item : (ts : List ℕ) → length ts ≤ 0 → ts ≡ []
no_item [] few = refl
no_item (t ∷ ts) few = absurd (omega (arith, few))

unforked_if_plain : (worker : ℕ) (cs : List Command) → list_all (is_plain worker) cs ≡ true → flat_map forked_by cs ≡ []
unforked_if_plain worker [] plain = refl
unforked_if_plain worker (c ∷ cs) plain =
    let parts = and_parts (is_plain worker c) (list_all (is_plain worker) cs) plain in
    let own = and_parts (is_command ids 4 c) (nat_le (greatest_of c worker 4) 9 && nat_le (length (forked_by c)) 0) parts.0 in
    let none = leb-true (length (forked_by c)) 0 (and_parts (nat_le (greatest_of c worker 4) 9) (nat_le (length (forked_by c)) 0) own.1).1 in
    rw (no_item (forked_by c) none, unforked_if_plain worker cs parts.1) refl

-- the commands behind the drawn ones
abbrev ending : ℕ → List Command
ending worker = command.Fork (24 + worker) ∷ command.Balance ∷ []

valid_script : (worker n word : ℕ) → list_all (is_command ids 4) (ending worker) ≡ true → list_all (is_command ids 4) (script worker n word) ≡ true
valid_script worker n word last =
    list_all-append (is_command ids 4) (commands n word) (ending worker) ∙ rw (valid_if_plain worker (commands n word) (plain_commands worker n word), last) refl

few_in_script : (worker n word : ℕ) → sum (map (λ c. greatest_of c worker 4) (script worker n word)) ≤ 9 * n + 15
few_in_script worker n word =
    let f : Command → ℕ = λ c. greatest_of c worker 4 in
    let all = sum-map f (script worker n word) in
    let cut = sum_by-append f (commands n word) (ending worker) in
    let few = few_if_plain worker (commands n word) (plain_commands worker n word) in
    omega (arith, all, cut, few, length-commands n word)

forked_in_script : (worker n word : ℕ) → flat_map forked_by (script worker n word) ≡ (24 + worker) ∷ []
forked_in_script worker n word =
    flat_map-append forked_by (commands n word) (ending worker) ∙ rw (unforked_if_plain worker (commands n word) (plain_commands worker n word)) refl

-- ---- the setup

-- the words behind the scripts
abbrev second : ℕ → ℕ
second n = word_behind n n

abbrev third : ℕ → ℕ
third n = word_behind n (second n)

abbrev fourth : ℕ → ℕ
fourth n = word_behind n (third n)

forked : (n : ℕ) → forked_in_all (scripts n) ≡ 24 ∷ 25 ∷ 26 ∷ 27 ∷ []
forked n = rw (forked_in_script 0 n n, forked_in_script 1 n (second n), forked_in_script 2 n (third n), forked_in_script 3 n (fourth n)) refl

budget : (n : ℕ) → n ≤ 1000 → budget_from 0 4 (scripts n) ≤ 65536
budget n few = omega (arith, few, few_in_script 0 n n, few_in_script 1 n (second n), few_in_script 2 n (third n), few_in_script 3 n (fourth n))

-- the groups are a topology
grouped : is_ok (built 4 groups) ≡ true
unfolding built_behind group_of_line is_inside meets
grouped = refl

-- it keeps the rules
pub keeps : (n : ℕ) → n ≤ 1000 → KeepsRules default_settings n 4 groups threads unborn (scripts n) []
keeps n few = record {
  settings = refl;
  jitter = lt-ltb n (2 ^ 32) (omega (arith, few));
  cpus = refl;
  groups = grouped;
  group_count = refl;
  group_cpus = refl;
  threads = refl;
  numbers = refl;
  workers = refl;
  idle = refl;
  commands = rw (valid_script 0 n n refl, valid_script 1 n (second n) refl, valid_script 2 n (third n) refl, valid_script 3 n (fourth n) refl) refl;
  budget = le-leb (budget_from 0 4 (scripts n)) 65536 (budget n few);
  forks = rw (forked n) refl;
  forked_once = rw (forked n) refl;
  turns = refl;
  turn_count = refl;
}
