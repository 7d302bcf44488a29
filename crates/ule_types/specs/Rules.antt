-- The rules that every setup keeps.
use Rattle.std.specs.Prelude.{ℕ, ◌≡◌, ◌+◌, ◌^◌, Bool, true, not, nat_le, nat_lt, ◌&&◌, ◌==◌, List, [], ◌∷◌, ◌++◌, length, map, drop, sum, IsTrue, is_ok}
use Rattle.std.specs.List.{list_all, flat_map}
use Rattle.ule_prio.specs.Class.{is_within, is_base_of}
use Rattle.ule_prio.specs.declared.class.Class.TheVariants as class
pub use Rattle.ule_score.specs.Settings.{are_settings}
use Rattle.ule_score.specs.declared.record.Settings.{Settings}
pub use Rattle.ule_types.specs.Commands.{is_nice}
use Rattle.ule_types.specs.Commands.{is_among, greatest_of, is_command, forked_by}
use Rattle.ule_types.specs.declared.command.Command.{Command}
use Rattle.ule_types.specs.declared.setup.Form.{Form}
use Rattle.ule_types.specs.declared.setup.Form.TheVariants.{Ts, Ithd, Rt, Fifo, Idle}
use Rattle.ule_types.specs.declared.setup.ThreadSpec.{ThreadSpec}
use Rattle.ule_topo.specs.Build.{built}
use Rattle.ule_topo.specs.declared.group.GroupLine.{GroupLine}

-- whether no number stands twice
abbrev pub is_distinct : List ℕ → Bool
is_distinct [] = true
is_distinct (x ∷ xs) = not (is_among xs x) && is_distinct xs

-- whether a nice value is in range, or a base priority one of its class
abbrev pub is_form : Form → Bool
is_form (Ts n) = is_nice n
is_form (Ithd p) = is_base_of class.Ithd p
is_form (Rt p) = is_base_of class.Rt p
is_form (Fifo p) = is_base_of class.Fifo p
is_form (Idle p) = is_base_of class.Idle p && nat_lt p 256

-- whether a thread may be declared so on this number of CPUs
abbrev pub is_spec : ℕ → ThreadSpec → Bool
is_spec cpus spec = is_form spec.form && nat_lt spec.cpu cpus

-- whether each is the number of a thread, 0 to 255, and none stands twice
abbrev pub are_numbers : List ℕ → Bool
are_numbers ids = list_all (λ t. nat_lt t 256) ids && is_distinct ids

-- the numbers of all declared threads
abbrev pub declared_ids : List ThreadSpec → List ℕ → List ℕ
declared_ids threads unborn = map (λ spec. spec.id) threads ++ unborn

-- the greatest number of items of the scripts of the workers from this one on
abbrev pub budget_from : ℕ → ℕ → List (List Command) → ℕ
budget_from worker cpus [] = 0
budget_from worker cpus (script ∷ scripts) =
    sum (map (λ c. greatest_of c worker cpus) script) + budget_from (worker + 1) cpus scripts

-- the threads that scripts fork, script by script
abbrev pub forked_in_all : List (List Command) → List ℕ
forked_in_all scripts = flat_map (λ script. flat_map forked_by script) scripts

-- the rules that every setup keeps
pub record KeepsRules (given : Settings) (seed count : ℕ) (lines : List GroupLine) (specs : List ThreadSpec) (waiting : List ℕ) (lists : List (List Command)) (plays : List ℕ) : Type 0 where
  -- the settings are in their ranges, and so are the jitter and the number of CPUs
  pub settings : IsTrue (are_settings given)
  pub jitter : IsTrue (nat_lt seed (2 ^ 32))
  pub cpus : IsTrue (is_within 1 16 count)
  -- the groups of CPUs are a topology, of 15 groups at most, each of which has a CPU
  pub groups : IsTrue (is_ok (built count lines))
  pub group_count : IsTrue (nat_le (length lines) 15)
  pub group_cpus : IsTrue (list_all (λ l. nat_lt 0 l.cpus) lines)
  -- each thread may be declared so, and no number is declared twice
  pub threads : IsTrue (list_all (is_spec count) specs)
  pub numbers : IsTrue (are_numbers (declared_ids specs waiting))
  -- there is a script for each of 16 workers, and those of no CPU are empty
  pub workers : length lists ≡ 16
  pub idle : IsTrue (list_all (λ script. length script == 0) (drop count lists))
  -- each command is valid, and all are charged 65,536 items at most
  pub commands : IsTrue (list_all (λ script. list_all (is_command (declared_ids specs waiting) count) script) lists)
  pub budget : IsTrue (nat_le (budget_from 0 count lists) 65536)
  -- what is forked is unborn, and is forked once
  pub forks : IsTrue (list_all (is_among waiting) (forked_in_all lists))
  pub forked_once : IsTrue (is_distinct (forked_in_all lists))
  -- the turns name workers of these CPUs, 4096 of them at most
  pub turns : IsTrue (list_all (λ w. nat_lt w count) plays)
  pub turn_count : IsTrue (nat_le (length plays) 4096)
