-- What the rules of a setup say.
use Rattle.std.proofs.Common.{◌≡◌, ℕ, zero, suc, ◌+◌, ◌≤◌, ◌&&◌, ◌==◌, Bool, true, nat_le, nat_lt, List, [], ◌∷◌, drop, length, take, refl, ap, arith}
use Rattle.std.specs.List.{AllByRecursion, list_all}
use Rattle.std.proofs.lemmas.Bool.{and_parts, eqb-true, leb-true}
use Rattle.std.proofs.lemmas.List.{nil_from_length}
use Rattle.std.proofs.lemmas.List.Sums.{sum_by-cons}
use Rattle.ule_prio.specs.Class.{is_within}
use Rattle.ule_score.specs.Changes.{HasSlice}
use Rattle.ule_types.specs.Commands.{is_command}
use Rattle.ule_types.specs.Rules.{budget_from, declared_ids, is_distinct, is_spec}
use Rattle.ule_types.specs.declared.command.Command.{Command}
use Rattle.ule_types.specs.declared.setup.Setup.{Setup}
use Rattle.ule_model.specs.Ends.{end_time}
use Rattle.ule_model.specs.Legal.{amount_in, amount_in_all}
use Rattle.ule_model.specs.Start.{starting_time}

-- ---- the rules

-- what a setup says of its threads: each one may be declared so, and they have distinct numbers of 0 to 255
pub record HasSpecs (s : Setup) : Type 0 where
  pub specs : list_all (is_spec s.cpus) s.threads ≡ true
  pub numbers : list_all (λ t. nat_lt t 256) (declared_ids s.threads s.unborn) ≡ true
  pub distinct : is_distinct (declared_ids s.threads s.unborn) ≡ true

-- what a setup says of its scripts: as many as there is room for, of valid commands, for no more
-- CPUs, within the budget
pub record HasScripts (s : Setup) : Type 0 where
  pub count : length s.scripts ≡ 16
  pub some : 1 ≤ s.cpus
  pub cpus : s.cpus ≤ 16
  pub rest : list_all (λ script. length script == 0) (drop s.cpus s.scripts) ≡ true
  pub valid : list_all (λ script. list_all (is_command (declared_ids s.threads s.unborn) s.cpus) script) s.scripts ≡ true
  pub budget : budget_from 0 s.cpus s.scripts ≤ 65536

-- every setup has threads with distinct numbers
pub setup_specs : (s : Setup) → HasSpecs s
setup_specs s =
    let both = and_parts (list_all (λ t. nat_lt t 256) (declared_ids s.threads s.unborn)) (is_distinct (declared_ids s.threads s.unborn)) s.rules.numbers in
    record { specs = s.rules.threads; numbers = both.0; distinct = both.1 }

-- every setup has a slice in range
pub setup_slice : (s : Setup) → HasSlice s.settings
setup_slice s =
    let interact = is_within 1 100 s.settings.interact in
    let length_of = is_within 6 1000 s.settings.slice in
    let three = and_parts (interact && length_of && is_within 0 255 s.settings.preempt) (is_within 1 64 s.settings.steal) s.rules.settings in
    let two = and_parts (interact && length_of) (is_within 0 255 s.settings.preempt) three.0 in
    let slice = and_parts interact length_of two.0 in
    let both = and_parts (nat_le 6 s.settings.slice) (nat_le s.settings.slice 1000) slice.1 in
    record { low = leb-true 6 s.settings.slice both.0; high = leb-true s.settings.slice 1000 both.1 }

-- every setup has a script of valid commands for each CPU, within the budget
pub setup_scripts : (s : Setup) → HasScripts s
setup_scripts s =
    let within = and_parts (nat_le 1 s.cpus) (nat_le s.cpus 16) s.rules.cpus in
    record {
      count = s.rules.workers;
      some = leb-true 1 s.cpus within.0;
      cpus = leb-true s.cpus 16 within.1;
      rest = s.rules.idle;
      valid = s.rules.commands;
      budget = leb-true (budget_from 0 s.cpus s.scripts) 65536 s.rules.budget;
    }

-- ---- lists

-- a test that all pass, each passes
pub all_from_list_all : {X : Type 0} (p : X → Bool) (xs : List X) → list_all p xs ≡ true → AllByRecursion (λ x. p x ≡ true) xs
all_from_list_all p [] all = tt
all_from_list_all p (x ∷ xs) all =
    let both = and_parts (p x) (list_all p xs) all in (both.0, all_from_list_all p xs both.1)

-- what holds of each holds of each of the first
pub all_take : {X : Type 0} (P : X → Type 0) (n : ℕ) (xs : List X) → AllByRecursion P xs → AllByRecursion P (take n xs)
all_take P zero xs all = tt
all_take P (suc n) [] all = tt
all_take P (suc n) (x ∷ xs) all = (all.0, all_take P n xs all.1)

-- ---- the time of all scripts

-- empty scripts add none
pub amount_in_empty : (scripts : List (List Command)) → list_all (λ script. length script == 0) scripts ≡ true → amount_in_all scripts ≡ 0
amount_in_empty [] empty = refl
amount_in_empty (script ∷ scripts) empty =
    let both = and_parts (length script == 0) (list_all (λ script. length script == 0) scripts) empty in
    let none : amount_in script ≡ 0 = ap amount_in (nil_from_length script (eqb-true (length script) 0 both.0)) in
    omega (arith, none, amount_in_empty scripts both.1, sum_by-cons amount_in script scripts)

-- the first of some scripts and the others add what all do
pub amount_in_parts : (n : ℕ) (scripts : List (List Command)) → amount_in_all (take n scripts) + amount_in_all (drop n scripts) ≡ amount_in_all scripts
amount_in_parts zero scripts = omega arith
amount_in_parts (suc n) [] = refl
amount_in_parts (suc n) (script ∷ scripts) =
    omega (arith, amount_in_parts n scripts, sum_by-cons amount_in script (take n scripts), sum_by-cons amount_in script scripts)

-- all scripts end when those of the CPUs have added their time to the start
pub setup_end : (s : Setup) → starting_time + amount_in_all (take s.cpus s.scripts) ≡ end_time s.scripts
setup_end s =
    omega (arith, amount_in_parts s.cpus s.scripts, amount_in_empty (drop s.cpus s.scripts) (setup_scripts s).rest)
