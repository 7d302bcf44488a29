-- What a line is refused for: the reasons in the order in which they are tried.
use Rattle.std.specs.Prelude.{ℕ, ◌+◌, Bool, true, false, not, ◌&&◌, ◌||◌, ◌==◌, nat_lt, nat_le, if◌then◌else◌, Option, Some, None, List, [], ◌∷◌, ◌++◌, length, is_some, Result, Ok, Err}
use Rattle.std.specs.List.{list_any}
use Rattle.ule_prio.specs.Class.{is_within, is_base_of}
use Rattle.ule_prio.specs.declared.class.Class.TheVariants as class
use Rattle.ule_topo.specs.Build.{built}
use Rattle.ule_topo.specs.Faults.{code_of_fault}
use Rattle.ule_topo.specs.Tree.{Tree}
use Rattle.ule_topo.specs.declared.fault.BuildFault.{BuildFault}
use Rattle.ule_types.specs.Commands.{is_among, greatest_of}
use Rattle.ule_types.specs.declared.command.Command.{Command}
use Rattle.ule_scenario.specs.Forms.{Line, word, name, has_word, number, num, place_of_line, least_words, setting_place, is_class, is_bound_word, is_header, number_faults, first_fault}
use Rattle.ule_scenario.specs.Effects.{command_in, cpus_in, group_in_line, turns_in}
use Rattle.ule_scenario.specs.Reading.{Reading, is_known_thread, is_forked, spent_items, last_worker}
use Rattle.ule_scenario.specs.declared.reason.Reason.{Reason}
use Rattle.ule_scenario.specs.declared.name.Name.{Name}
use Rattle.ule_scenario.specs.declared.name.Name.TheVariants.{Header, Set, Jitter, Cpus, Group, Thread, Unborn, Script, Weave, Turns, End, Wake, Lend, Unlend, Renice, Fork, Look, Ithd, Rt, Fifo, Idle}

-- ---- the conditions, by a line's first word

-- the order of sections: a first line is no second one, the settings rise, there are 15 groups at most, script numbers rise,
-- commands stand below a script and turns below `weave`
abbrev pub is_misplaced : Reading → Line → Name → Bool
is_misplaced r line Header = true
is_misplaced r line Set = nat_lt 2 r.place || nat_lt (setting_place (name line 1)) r.settings_from
is_misplaced r line Jitter = nat_le 3 r.place
is_misplaced r line Cpus = nat_le 4 r.place
is_misplaced r line Group = nat_lt 5 r.place || nat_le 15 (length r.groups)
is_misplaced r line Thread = nat_lt 6 r.place
is_misplaced r line Unborn = nat_lt 6 r.place
is_misplaced r line Script = nat_lt 7 r.place || (is_some (number (word line 1)) && nat_lt (num line 1) r.script_from)
is_misplaced r line Weave = nat_le 8 r.place
is_misplaced r line Turns = not (r.place == 8)
is_misplaced r line End = nat_le 9 r.place
is_misplaced r line command = not (r.place == 7)

-- the number of a `cpus` line is spelled well and is not 1 to 16
abbrev pub is_bad_count : Line → Name → Bool
is_bad_count line Cpus = is_some (number (word line 1)) && not (is_within 1 16 (num line 1))
is_bad_count line n = false

-- a word that is no number, or one behind the last, is not as the form has it
abbrev pub has_unknown_word : Line → Name → Bool
has_unknown_word line Set = nat_le 4 (setting_place (name line 1)) || has_word line 3
has_unknown_word line Group = false
has_unknown_word line Thread = not (is_class (name line 2)) || (has_word line 5 && not (is_bound_word (name line 5))) || has_word line 6
has_unknown_word line Turns = false
has_unknown_word line n = has_word line (least_words n)

-- the CPUs that a line names
abbrev pub named_cpus : Line → Name → List ℕ
named_cpus line Group = cpus_in line
named_cpus line Thread = num line 4 ∷ []
named_cpus line Script = num line 1 ∷ []
named_cpus line Look = num line 1 ∷ []
named_cpus line n = []

-- a thread is declared that was declared before
abbrev pub is_repeated : Reading → Line → Name → Bool
is_repeated r line Thread = is_known_thread r (num line 1)
is_repeated r line Unborn = is_known_thread r (num line 1)
is_repeated r line n = false

-- a priority is outside the range of its class
abbrev pub is_no_base : Name → ℕ → Bool
is_no_base Ithd p = not (is_base_of class.Ithd p)
is_no_base Rt p = not (is_base_of class.Rt p)
is_no_base Fifo p = not (is_base_of class.Fifo p)
is_no_base Idle p = not (is_base_of class.Idle p)
is_no_base n p = false

-- the same of a thread's line
abbrev pub has_no_base : Line → Name → Bool
has_no_base line Thread = is_no_base (name line 2) (num line 3)
has_no_base line n = false

-- a command names a thread that is not declared
abbrev pub is_undeclared : Reading → Line → Name → Bool
is_undeclared r line Wake = not (is_known_thread r (num line 1))
is_undeclared r line Lend = not (is_known_thread r (num line 1))
is_undeclared r line Unlend = not (is_known_thread r (num line 1))
is_undeclared r line Renice = not (is_known_thread r (num line 1))
is_undeclared r line Fork = not (is_known_thread r (num line 1))
is_undeclared r line n = false

-- a thread is forked that is not unborn, or that an earlier line forks
abbrev pub is_no_fork : Reading → Line → Name → Bool
is_no_fork r line Fork = not (is_among r.unborn (num line 1)) || is_forked r (num line 1)
is_no_fork r line n = false

-- the number of a fault of groups
abbrev pub fault_in : Result Tree BuildFault → Option ℕ
fault_in (Ok tree) = None
fault_in (Err e) = Some (code_of_fault e.fault)

-- the fault of a group's line behind those before it
abbrev pub topology_fault : Reading → Line → Name → Option ℕ
topology_fault r line Group = fault_in (built r.cpus (r.groups ++ group_in_line line ∷ []))
topology_fault r line n = None

-- what a command is charged
abbrev pub charge : Reading → Option Command → ℕ
charge r None = 0
charge r (Some c) = greatest_of c (last_worker r) r.cpus

-- ---- the rows

-- a reason without a detail
abbrev pub no_detail : ℕ → Reason
no_detail n = record { reason = n; detail = 0 }

-- a row: where the condition holds, this reason
abbrev pub when : Bool → ℕ → Option Reason
when b n = if b then Some (no_detail n) else None

-- a row whose reason is found with its number
abbrev pub told : Option ℕ → Option Reason
told None = None
told (Some n) = Some (no_detail n)

-- the row of the topology: the detail is the number of the fault
abbrev pub of_topology : Option ℕ → Option Reason
of_topology None = None
of_topology (Some n) = Some (record { reason = 11; detail = n })

-- the row of the budget: the detail is the sum
abbrev pub over_budget : ℕ → Option Reason
over_budget total = if nat_lt 65536 total then Some (record { reason = 15; detail = total }) else None

-- the first row that tells one
abbrev pub first_reason : List (Option Reason) → Option Reason
first_reason [] = None
first_reason (None ∷ rest) = first_reason rest
first_reason (Some x ∷ rest) = Some x

-- the rows of a line's place
unfoldable pub place_reason : Reading → Line → Name → Option Reason
place_reason r line first = first_reason (
    when (place_of_line first == 0) 2 ∷  -- an unknown first word
    when (is_misplaced r line first) 6 ∷  -- the order of sections
    when (nat_le 4 (place_of_line first) && nat_lt r.place 3) 14 ∷  -- no jitter before
    when ((nat_le 5 (place_of_line first) && nat_lt r.place 4) || is_bad_count line first) 7 ∷ [])  -- no CPU count before, or a wrong one

-- the rows of its words
unfoldable pub word_reason : Line → Name → Option Reason
word_reason line first = first_reason (
    when (nat_lt (length line) (least_words first)) 18 ∷  -- too few words
    when (has_unknown_word line first) 2 ∷  -- an unknown word behind the first, or one too many
    told (first_fault (number_faults line first)) ∷ [])  -- a number's spelling, 3, or its range, 4

-- the rows of what it says after the lines before it
unfoldable pub meaning_reason : Reading → Line → Name → Option Reason
meaning_reason r line first = first_reason (
    when (list_any (λ c. nat_le r.cpus c) (named_cpus line first)) 10 ∷  -- a CPU that isn't there
    when (is_repeated r line first) 8 ∷  -- a thread declared twice
    when (has_no_base line first) 12 ∷  -- a priority of another class
    when (is_undeclared r line first) 9 ∷  -- a thread that isn't declared
    when (is_no_fork r line first) 13 ∷  -- a fork of a thread that isn't unborn, or a second one
    of_topology (topology_fault r line first) ∷  -- a fault of the topology, 11
    when (list_any (λ w. nat_le r.cpus w) (turns_in line first)) 16 ∷  -- a turn of a worker that isn't there
    when (nat_lt 4096 (length r.turns + length (turns_in line first))) 19 ∷  -- too many turns
    over_budget (spent_items r + charge r (command_in line first)) ∷ [])  -- too many items, 15

-- one reason, or another
abbrev pub reason_or : Option Reason → Option Reason → Option Reason
reason_or None other = other
reason_or (Some x) other = Some x

-- the first reason against a line behind the header
abbrev pub reason_behind : Reading → Line → Name → Option Reason
reason_behind r line first = reason_or (place_reason r line first) (reason_or (word_reason line first) (meaning_reason r line first))

-- the first reason against a line that isn't blank and no comment: the first such line has to be the header, 1
abbrev pub reason_of : Reading → Line → Option Reason
reason_of r line = if r.place == 0 then when (not (is_header line)) 1 else reason_behind r line (name line 0)
