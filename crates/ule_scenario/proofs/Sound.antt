-- What a scenario's lines give keeps the rules of a setup, line by line.
use Rattle.std.proofs.Common.{◌≡◌, ◌≢◌, ℕ, zero, suc, ◌+◌, ◌^◌, ◌<◌, ◌≤◌, ◌==◌, max, Bool, true, false, ◌&&◌, not, List, [], ◌∷◌, ◌++◌, length, map, drop, set, get_or, replicate, refl, sym, ap, ◌∙◌, arith, Some, None}
use Rattle.std.specs.Prelude.{nat_lt, nat_le, Result, Ok, Err, is_ok, unwrap_or}
use Rattle.std.specs.List.{list_all, list_any}
use Rattle.std.proofs.lemmas.Bool.{and_from, and_parts, or_parts, leb-true, leb-false, lt-ltb, le-leb, false≢true}
use Rattle.std.proofs.lemmas.List.{map-append, append_assoc, length-append, length-drop, length-set}
use Rattle.std.proofs.lemmas.Nat.{pow_pos}
use Rattle.std.proofs.lemmas.List.Folds.{list_all-append, list_any-append}
use Rattle.ule_prio.specs.Class.{is_within, is_base_of}
use Rattle.ule_prio.specs.declared.class.Class.TheVariants as class
use Rattle.ule_score.specs.Settings.{are_settings}
use Rattle.ule_score.specs.declared.record.Settings.{Settings}
use Rattle.ule_topo.specs.Build.{built}
use Rattle.ule_topo.specs.Tree.{Tree}
use Rattle.ule_topo.specs.declared.fault.BuildFault.{BuildFault}
use Rattle.ule_types.specs.Commands.{is_among, is_command, is_nice, forked_by, greatest_of}
use Rattle.ule_types.specs.Rules.{KeepsRules, is_form, is_spec, are_numbers, declared_ids, is_distinct, budget_from, forked_in_all}
use Rattle.ule_types.specs.declared.command.Command.{Command}
use Rattle.ule_types.specs.declared.setup.ThreadSpec.{ThreadSpec}
use Rattle.ule_scenario.specs.Reading.{Reading, no_line, is_known_thread, is_forked, spent_items, last_worker}
use Rattle.ule_scenario.specs.Forms.{Line, word, num, nums, signed, number_fault, setting_fault, class_fault}
use Rattle.ule_scenario.specs.Effects.{with_setting, with_command, form_in, group_in_line, bits_of, cpus_in}
use Rattle.ule_scenario.specs.Reasons.{is_no_base, fault_in}
use Rattle.ule_scenario.specs.Scenario.{KeepsAll}
use Rattle.ule_scenario.specs.declared.token.Token.{Token}
use Rattle.ule_scenario.specs.declared.name.Name.{Name}
use Rattle.ule_scenario.specs.declared.name.Name.TheVariants.{Ithd, Rt, Fifo, Idle, Interact, Slice, Preempt, Steal}
use Rattle.ule_scenario.proofs.Distinct.{distinct_with, distinct_as, numbers_between, numbers_behind, times_forked, all_forked}
use Rattle.ule_scenario.proofs.Faults.{number_within, number_from, nice_within}
use Rattle.ule_scenario.proofs.Scripts.{charged_more}

-- a reading keeps the rules of a setup, and has nothing of a section whose place no line has reached
pub record IsSound (r : Reading) : Type 0 where
  pub rules : KeepsAll r
  pub ungrouped : r.place < 5 → r.groups ≡ []
  pub undeclared : r.place < 6 → (r.threads ≡ []) × (r.unborn ≡ [])
  pub unscripted : r.place < 7 → (r.scripts ≡ replicate 16 []) × (r.script_from ≡ 0)
  pub unturned : r.place < 8 → r.turns ≡ []
  pub worker : r.script_from ≤ r.cpus
  pub begun : r.place ≡ 7 → 1 ≤ r.script_from

-- ---- tests

-- a test whose opposite fails
pub holds : (b : Bool) → not b ≡ false → b ≡ true
holds true e = refl
holds false e = absurd (false≢true (sym e))

-- one of a test of any that fails
pub none_first : (p : ℕ → Bool) (n : ℕ) (ns : List ℕ) → list_any p (n ∷ ns) ≡ false → p n ≡ false
none_first p n ns none = (or_parts (p n) (list_any p ns) none).0

-- what isn't at least a number is below it
below_all : (cpus : ℕ) (ns : List ℕ) → list_any (λ w. nat_le cpus w) ns ≡ false → list_all (λ w. nat_lt w cpus) ns ≡ true
below_all cpus [] none = refl
below_all cpus (n ∷ ns) none =
    let parts = or_parts (nat_le cpus n) (list_any (λ w. nat_le cpus w) ns) none in
    and_from (nat_lt n cpus) (list_all (λ w. nat_lt w cpus) ns) (lt-ltb n cpus (leb-false cpus n parts.0)) (below_all cpus ns parts.1)

-- a test of all with one more
all_push : {X : Type 0} (p : X → Bool) (xs : List X) (x : X) → list_all p xs ≡ true → p x ≡ true → list_all p (xs ++ x ∷ []) ≡ true
all_push p xs x all one = list_all-append p xs (x ∷ []) ∙ and_from (list_all p xs) (list_all p (x ∷ [])) all (and_from (p x) true one refl)

-- a number in its range
pub in_range : (low high : ℕ) (t : Token) → number_fault low high t ≡ None → is_within low high (num (t ∷ []) 0) ≡ true
in_range low high t pass =
    let n = num (t ∷ []) 0 in
    and_from (nat_le low n) (nat_le n high) (le-leb low n (number_from low high t pass)) (le-leb n high (number_within low high t pass))

-- a nice value in its range
pub nice_in_range : (minus : Bool) (n : ℕ) → n ≤ 20 → is_nice (signed minus n) ≡ true
nice_in_range minus zero small = refl
nice_in_range true (suc n) small = lt-ltb n 20 (omega arith)
nice_in_range false (suc n) small = le-leb (suc n) 20 small

-- the scripts of no CPU are empty where all are
idle_all : (n cpus : ℕ) → list_all (λ (script : List Command). length script == 0) (drop cpus (replicate n [])) ≡ true
idle_all zero zero = refl
idle_all zero (suc c) = refl
idle_all (suc n) zero = idle_all n zero
idle_all (suc n) (suc c) = idle_all n c

-- ---- lines that declare no thread and give no command

-- a setup of no groups, threads, commands and turns
bare : (given : Settings) (seed count : ℕ) → are_settings given ≡ true → nat_lt seed (2 ^ 32) ≡ true → is_within 1 16 count ≡ true → KeepsRules given seed count [] [] [] (replicate 16 []) []
bare given seed count settings jitter cpus = record {
  settings = settings;
  jitter = jitter;
  cpus = cpus;
  groups = refl;
  group_count = refl;
  group_cpus = refl;
  threads = refl;
  numbers = refl;
  workers = refl;
  idle = idle_all 16 count;
  commands = refl;
  budget = refl;
  forks = refl;
  forked_once = refl;
  turns = refl;
  turn_count = refl;
}

-- before the first line
pub sound_none : IsSound no_line
sound_none = record {
  rules = bare no_line.settings 0 1 refl refl refl;
  ungrouped = λ early. refl;
  undeclared = λ early. (refl, refl);
  unscripted = λ early. (refl, refl);
  unturned = λ early. refl;
  worker = omega arith;
  begun = λ is. absurd (omega arith);
}

-- a line that leads to another place alone
pub sound_moved : (r : Reading) (p : ℕ) → p ≢ 7 → IsSound r → IsSound (record r { place = max r.place p })
sound_moved r p other s = record {
  rules = s.rules;
  ungrouped = λ early. s.ungrouped (omega arith);
  undeclared = λ early. s.undeclared (omega arith);
  unscripted = λ early. s.unscripted (omega arith);
  unturned = λ early. s.unturned (omega arith);
  worker = s.worker;
  begun = λ is. s.begun (omega arith);
}

-- each of four tests
four_parts : (a b c d : Bool) → (a && b && c && d) ≡ true → (a ≡ true) × (b ≡ true) × (c ≡ true) × (d ≡ true)
four_parts true true true true e = (refl, refl, refl, refl)
four_parts true true true false e = absurd (false≢true e)
four_parts true true false d e = absurd (false≢true e)
four_parts true false c d e = absurd (false≢true e)
four_parts false b c d e = absurd (false≢true e)

-- settings stay in their ranges
setting_kept : (s : Settings) (n : Name) (t : Token) → are_settings s ≡ true → setting_fault n t ≡ None → are_settings (with_setting s n (num (t ∷ []) 0)) ≡ true
setting_kept s Interact t all pass =
    let f = four_parts (is_within 1 100 s.interact) (is_within 6 1000 s.slice) (is_within 0 255 s.preempt) (is_within 1 64 s.steal) all in
    rw (in_range 1 100 t pass, f.1, f.2, f.3) refl
setting_kept s Slice t all pass =
    let f = four_parts (is_within 1 100 s.interact) (is_within 6 1000 s.slice) (is_within 0 255 s.preempt) (is_within 1 64 s.steal) all in
    rw (f.0, in_range 6 1000 t pass, f.2, f.3) refl
setting_kept s Preempt t all pass =
    let f = four_parts (is_within 1 100 s.interact) (is_within 6 1000 s.slice) (is_within 0 255 s.preempt) (is_within 1 64 s.steal) all in
    rw (f.0, f.1, in_range 0 255 t pass, f.3) refl
setting_kept s Steal t all pass =
    let f = four_parts (is_within 1 100 s.interact) (is_within 6 1000 s.slice) (is_within 0 255 s.preempt) (is_within 1 64 s.steal) all in
    rw (f.0, f.1, f.2, in_range 1 64 t pass) refl
setting_kept s _ t all pass = all

-- a setting
pub sound_set : (r : Reading) (n : Name) (from : ℕ) (t : Token) → setting_fault n t ≡ None → IsSound r →
    IsSound (record r { place = max r.place 2; settings_from = from; settings = with_setting r.settings n (num (t ∷ []) 0) })
sound_set r n from t pass s =
    let m = sound_moved r 2 (λ e. omega arith) s in
    record {
      rules = record {
        settings = setting_kept r.settings n t s.rules.settings pass;
        jitter = s.rules.jitter;
        cpus = s.rules.cpus;
        groups = s.rules.groups;
        group_count = s.rules.group_count;
        group_cpus = s.rules.group_cpus;
        threads = s.rules.threads;
        numbers = s.rules.numbers;
        workers = s.rules.workers;
        idle = s.rules.idle;
        commands = s.rules.commands;
        budget = s.rules.budget;
        forks = s.rules.forks;
        forked_once = s.rules.forked_once;
        turns = s.rules.turns;
        turn_count = s.rules.turn_count;
      };
      ungrouped = m.ungrouped;
      undeclared = m.undeclared;
      unscripted = m.unscripted;
      unturned = m.unturned;
      worker = m.worker;
      begun = m.begun;
    }

-- the jitter
pub sound_jitter : (r : Reading) (n : ℕ) → n < 2 ^ 32 → IsSound r → IsSound (record r { place = max r.place 3; jitter = n })
sound_jitter r n small s =
    let m = sound_moved r 3 (λ e. omega arith) s in
    record {
      rules = record {
        settings = s.rules.settings;
        jitter = lt-ltb n (2 ^ 32) small;
        cpus = s.rules.cpus;
        groups = s.rules.groups;
        group_count = s.rules.group_count;
        group_cpus = s.rules.group_cpus;
        threads = s.rules.threads;
        numbers = s.rules.numbers;
        workers = s.rules.workers;
        idle = s.rules.idle;
        commands = s.rules.commands;
        budget = s.rules.budget;
        forks = s.rules.forks;
        forked_once = s.rules.forked_once;
        turns = s.rules.turns;
        turn_count = s.rules.turn_count;
      };
      ungrouped = m.ungrouped;
      undeclared = m.undeclared;
      unscripted = m.unscripted;
      unturned = m.unturned;
      worker = m.worker;
      begun = m.begun;
    }

-- the number of CPUs, before any line of a later place
pub sound_cpus : (r : Reading) (n : ℕ) → is_within 1 16 n ≡ true → r.place < 4 → IsSound r → IsSound (record r { place = max r.place 4; cpus = n })
sound_cpus r n within early s =
    let m = sound_moved r 4 (λ e. omega arith) s in
    let none = s.undeclared (omega arith) in
    let empty = s.unscripted (omega arith) in
    record {
      rules = rw (s.ungrouped (omega arith), none.0, none.1, empty.0, s.unturned (omega arith)) (bare r.settings r.jitter n s.rules.settings s.rules.jitter within);
      ungrouped = m.ungrouped;
      undeclared = m.undeclared;
      unscripted = m.unscripted;
      unturned = m.unturned;
      worker = omega (arith, empty.1);
      begun = m.begun;
    }

-- groups without a fault are a topology
without_fault : (b : Result Tree BuildFault) → fault_in b ≡ None → is_ok b ≡ true
without_fault (Ok tree) e = refl
without_fault (Err f) e = cc

-- a line of more than three words names a CPU, which has a bit
names_cpu : (line : Line) → 4 ≤ length line → 1 ≤ bits_of (cpus_in line)
names_cpu line long = by_words (drop 3 line) (omega (arith, length-drop 3 line))
  where
    by_words : (ts : List Token) → 1 ≤ length ts → 1 ≤ bits_of (nums ts)
    by_words [] some = absurd (omega (arith, some))
    by_words (t ∷ ts) some = omega (arith, pow_pos (num (t ∷ []) 0))

-- a group
pub sound_group : (r : Reading) (line : Line) → r.place ≤ 5 → length r.groups < 15 → 4 ≤ length line → fault_in (built r.cpus (r.groups ++ group_in_line line ∷ [])) ≡ None → IsSound r →
    IsSound (record r { place = max r.place 5; groups = r.groups ++ group_in_line line ∷ [] })
sound_group r line early few long pass s =
    let m = sound_moved r 5 (λ e. omega arith) s in
    record {
      rules = record {
        settings = s.rules.settings;
        jitter = s.rules.jitter;
        cpus = s.rules.cpus;
        groups = without_fault (built r.cpus (r.groups ++ group_in_line line ∷ [])) pass;
        group_count = le-leb (length (r.groups ++ group_in_line line ∷ [])) 15 (omega (arith, length-append r.groups (group_in_line line ∷ [])));
        group_cpus = all_push (λ l. nat_lt 0 l.cpus) r.groups (group_in_line line) s.rules.group_cpus (lt-ltb 0 (bits_of (cpus_in line)) (names_cpu line long));
        threads = s.rules.threads;
        numbers = s.rules.numbers;
        workers = s.rules.workers;
        idle = s.rules.idle;
        commands = s.rules.commands;
        budget = s.rules.budget;
        forks = s.rules.forks;
        forked_once = s.rules.forked_once;
        turns = s.rules.turns;
        turn_count = s.rules.turn_count;
      };
      ungrouped = λ before. absurd (omega arith);
      undeclared = m.undeclared;
      unscripted = m.unscripted;
      unturned = m.unturned;
      worker = m.worker;
      begun = m.begun;
    }

-- the script of a worker
pub sound_script : (r : Reading) (w : ℕ) → w < r.cpus → IsSound r → IsSound (record r { place = max r.place 7; script_from = w + 1 })
sound_script r w there s = record {
  rules = s.rules;
  ungrouped = λ early. absurd (omega arith);
  undeclared = λ early. absurd (omega arith);
  unscripted = λ early. absurd (omega arith);
  unturned = λ early. s.unturned (omega arith);
  worker = omega arith;
  begun = λ is. omega arith;
}

-- turns
pub sound_turns : (r : Reading) (ns : List ℕ) → list_any (λ w. nat_le r.cpus w) ns ≡ false → length r.turns + length ns ≤ 4096 → IsSound r →
    IsSound (record r { place = max r.place 8; turns = r.turns ++ ns })
sound_turns r ns there few s =
    let m = sound_moved r 8 (λ e. omega arith) s in
    record {
      rules = record {
        settings = s.rules.settings;
        jitter = s.rules.jitter;
        cpus = s.rules.cpus;
        groups = s.rules.groups;
        group_count = s.rules.group_count;
        group_cpus = s.rules.group_cpus;
        threads = s.rules.threads;
        numbers = s.rules.numbers;
        workers = s.rules.workers;
        idle = s.rules.idle;
        commands = s.rules.commands;
        budget = s.rules.budget;
        forks = s.rules.forks;
        forked_once = s.rules.forked_once;
        turns = list_all-append (λ w. nat_lt w r.cpus) r.turns ns ∙ and_from (list_all (λ w. nat_lt w r.cpus) r.turns) (list_all (λ w. nat_lt w r.cpus) ns) s.rules.turns (below_all r.cpus ns there);
        turn_count = le-leb (length (r.turns ++ ns)) 4096 (omega (arith, length-append r.turns ns, few));
      };
      ungrouped = m.ungrouped;
      undeclared = m.undeclared;
      unscripted = m.unscripted;
      unturned = λ early. absurd (omega arith);
      worker = m.worker;
      begun = m.begun;
    }

-- ---- lines that declare a thread

-- a thread that isn't known is none of those declared
unknown : (r : Reading) (t : ℕ) → is_known_thread r t ≡ false → is_among (declared_ids r.threads r.unborn) t ≡ false
unknown r t none = list_any-append (λ u. u == t) (map (λ spec. spec.id) r.threads) r.unborn ∙ none

-- a thread that is known is one of those declared
pub known : (r : Reading) (t : ℕ) → is_known_thread r t ≡ true → is_among (declared_ids r.threads r.unborn) t ≡ true
known r t some = list_any-append (λ u. u == t) (map (λ spec. spec.id) r.threads) r.unborn ∙ some

-- the form of a thread's line
pub form_kept : (line : Line) (class : Name) → class_fault class (word line 3) ≡ None → is_no_base class (num line 3) ≡ false → is_form (form_in line class) ≡ true
form_kept line Ithd pass base = holds (is_base_of class.Ithd (num line 3)) base
form_kept line Rt pass base = holds (is_base_of class.Rt (num line 3)) base
form_kept line Fifo pass base = holds (is_base_of class.Fifo (num line 3)) base
form_kept line Idle pass base =
    and_from (is_base_of class.Idle (num line 3)) (nat_lt (num line 3) 256) (holds (is_base_of class.Idle (num line 3)) base)
    (let small = number_within 0 255 (word line 3) pass in lt-ltb (num line 3) 256 (omega (arith, small)))
form_kept line _ pass base = nice_in_range (word line 3).minus (unwrap_or (word line 3).number 0) (nice_within (word line 3) pass)

-- a thread, before any script
pub sound_thread : (r : Reading) (spec : ThreadSpec) → r.place ≤ 6 → is_spec r.cpus spec ≡ true → spec.id < 256 → is_known_thread r spec.id ≡ false → IsSound r →
    IsSound (record r { place = max r.place 6; threads = r.threads ++ spec ∷ [] })
sound_thread r spec early good small new s =
    let m = sound_moved r 6 (λ e. omega arith) s in
    let empty = (s.unscripted (omega arith)).0 in
    let ids : ThreadSpec → ℕ = λ t. t.id in
    record {
      rules = record {
        settings = s.rules.settings;
        jitter = s.rules.jitter;
        cpus = s.rules.cpus;
        groups = s.rules.groups;
        group_count = s.rules.group_count;
        group_cpus = s.rules.group_cpus;
        threads = all_push (is_spec r.cpus) r.threads spec s.rules.threads good;
        numbers = ap (λ front. are_numbers (front ++ r.unborn)) (map-append ids r.threads (spec ∷ [])) ∙ numbers_between (map ids r.threads) r.unborn spec.id small s.rules.numbers (unknown r spec.id new);
        workers = s.rules.workers;
        idle = s.rules.idle;
        commands = rw empty refl;
        budget = s.rules.budget;
        forks = s.rules.forks;
        forked_once = s.rules.forked_once;
        turns = s.rules.turns;
        turn_count = s.rules.turn_count;
      };
      ungrouped = m.ungrouped;
      undeclared = λ before. absurd (omega arith);
      unscripted = m.unscripted;
      unturned = m.unturned;
      worker = m.worker;
      begun = m.begun;
    }

-- an unborn thread, before any script
pub sound_unborn : (r : Reading) (t : ℕ) → r.place ≤ 6 → t < 256 → is_known_thread r t ≡ false → IsSound r →
    IsSound (record r { place = max r.place 6; unborn = r.unborn ++ t ∷ [] })
sound_unborn r t early small new s =
    let m = sound_moved r 6 (λ e. omega arith) s in
    let empty = (s.unscripted (omega arith)).0 in
    let ids : ThreadSpec → ℕ = λ u. u.id in
    record {
      rules = record {
        settings = s.rules.settings;
        jitter = s.rules.jitter;
        cpus = s.rules.cpus;
        groups = s.rules.groups;
        group_count = s.rules.group_count;
        group_cpus = s.rules.group_cpus;
        threads = s.rules.threads;
        numbers = ap are_numbers (sym (append_assoc (map ids r.threads) r.unborn (t ∷ []))) ∙ numbers_behind (declared_ids r.threads r.unborn) t small s.rules.numbers (unknown r t new);
        workers = s.rules.workers;
        idle = s.rules.idle;
        commands = rw empty refl;
        budget = s.rules.budget;
        forks = rw empty refl;
        forked_once = s.rules.forked_once;
        turns = s.rules.turns;
        turn_count = s.rules.turn_count;
      };
      ungrouped = m.ungrouped;
      undeclared = λ before. absurd (omega arith);
      unscripted = m.unscripted;
      unturned = m.unturned;
      worker = m.worker;
      begun = m.begun;
    }

-- ---- lines that give a command

-- a test of all lists, one of which has one item more
all_with : {X : Type 0} (p : X → Bool) (xs : List (List X)) (w : ℕ) (x : X) → list_all (λ l. list_all p l) xs ≡ true → p x ≡ true → list_all (λ l. list_all p l) (set xs w (get_or xs w [] ++ x ∷ [])) ≡ true
all_with p [] w x all one = refl
all_with p (l ∷ xs) zero x all one =
    let parts = and_parts (list_all p l) (list_all (λ m. list_all p m) xs) all in
    and_from (list_all p (l ++ x ∷ [])) (list_all (λ m. list_all p m) xs) (all_push p l x parts.0 one) parts.1
all_with p (l ∷ xs) (suc w) x all one =
    let parts = and_parts (list_all p l) (list_all (λ m. list_all p m) xs) all in
    and_from (list_all p l) (list_all (λ m. list_all p m) (set xs w (get_or xs w [] ++ x ∷ []))) parts.0 (all_with p xs w x parts.1 one)

-- what lies behind a change is as before
drop_set : {X : Type 0} (n w : ℕ) (xs : List X) (x : X) → w < n → drop n (set xs w x) ≡ drop n xs
drop_set zero w xs x within = absurd (omega arith)
drop_set (suc n) w [] x within = refl
drop_set (suc n) zero (y ∷ xs) x within = refl
drop_set (suc n) (suc w) (y ∷ xs) x within = drop_set n w xs x (omega arith)

-- a command that forks none, or one that wasn't forked
pub data ForksNew (r : Reading) (c : Command) : Type 0 where
  forks_none : forked_by c ≡ [] → ForksNew r c
  forks_one : (t : ℕ) → forked_by c ≡ t ∷ [] → is_among r.unborn t ≡ true → is_forked r t ≡ false → ForksNew r c

-- what a command forks is unborn
forks_unborn : (r : Reading) (c : Command) → ForksNew r c → list_all (is_among r.unborn) (forked_by c) ≡ true
forks_unborn r c (forks_none none) = rw none refl
forks_unborn r c (forks_one t is waits new) = rw (is, waits) refl

-- a command of the worker whose script stands last
pub sound_command : (r : Reading) (c : Command) → r.place ≡ 7 → is_command (declared_ids r.threads r.unborn) r.cpus c ≡ true → ForksNew r c →
    spent_items r + greatest_of c (last_worker r) r.cpus ≤ 65536 → IsSound r → IsSound (record r { place = max r.place 7; scripts = with_command r.scripts (last_worker r) (Some c) })
sound_command r c at valid forks room s =
    let w = last_worker r in
    let first = s.begun at in
    let worker = s.worker in
    let cpus : r.cpus ≤ 16 = leb-true r.cpus 16 (and_parts (nat_le 1 r.cpus) (nat_le r.cpus 16) s.rules.cpus).1 in
    let count = s.rules.workers in
    let within : w < length r.scripts = omega arith in
    record {
      rules = record {
        settings = s.rules.settings;
        jitter = s.rules.jitter;
        cpus = s.rules.cpus;
        groups = s.rules.groups;
        group_count = s.rules.group_count;
        group_cpus = s.rules.group_cpus;
        threads = s.rules.threads;
        numbers = s.rules.numbers;
        workers = length-set r.scripts w (get_or r.scripts w [] ++ c ∷ []) ∙ s.rules.workers;
        idle = ap (list_all (λ (script : List Command). length script == 0)) (drop_set r.cpus w r.scripts (get_or r.scripts w [] ++ c ∷ []) (omega arith)) ∙ s.rules.idle;
        commands = all_with (is_command (declared_ids r.threads r.unborn) r.cpus) r.scripts w c s.rules.commands valid;
        budget = le-leb (budget_from 0 r.cpus (set r.scripts w (get_or r.scripts w [] ++ c ∷ []))) 65536 (omega (arith, charged_more w r.cpus r.scripts c within, room));
        forks = all_forked (is_among r.unborn) w r.scripts c within s.rules.forks (forks_unborn r c forks);
        forked_once = once w within forks;
        turns = s.rules.turns;
        turn_count = s.rules.turn_count;
      };
      ungrouped = λ early. absurd (omega arith);
      undeclared = λ early. absurd (omega arith);
      unscripted = λ early. absurd (omega arith);
      unturned = λ early. s.unturned (omega arith);
      worker = s.worker;
      begun = λ is. s.begun at;
    }
  where
    once : (w : ℕ) → w < length r.scripts → ForksNew r c → is_distinct (forked_in_all (set r.scripts w (get_or r.scripts w [] ++ c ∷ []))) ≡ true
    once w within (forks_none none) =
        distinct_as (forked_in_all r.scripts) (forked_in_all (set r.scripts w (get_or r.scripts w [] ++ c ∷ [])))
        (λ x. rw none at (times_forked x w r.scripts c within) ∙ omega arith) s.rules.forked_once
    once w within (forks_one t is waits new) =
        distinct_with (forked_in_all r.scripts) (forked_in_all (set r.scripts w (get_or r.scripts w [] ++ c ∷ []))) t
        (λ x. rw is at (times_forked x w r.scripts c within)) s.rules.forked_once new
