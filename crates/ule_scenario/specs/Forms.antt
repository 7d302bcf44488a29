-- The lines of a scenario: the words of one, and for each first word where its line stands, how many words it needs and what is told of its numbers.
use Rattle.std.specs.Prelude.{ℕ, ◌+◌, zero, suc, ℤ, pos, negsuc, Bool, true, false, ◌&&◌, ◌||◌, ◌==◌, nat_lt, nat_le, if◌then◌else◌, Option, Some, None, List, [], ◌∷◌, length, map, drop, unwrap_or, is_none, slice_index_or}
use Rattle.ule_prio.specs.Class.{is_within}
use Rattle.ule_scenario.specs.Tokens.{no_token}
use Rattle.ule_scenario.specs.declared.token.Token.{Token}
use Rattle.ule_scenario.specs.declared.name.Name.{Name}
use Rattle.ule_scenario.specs.declared.name.Name.TheVariants.{Header, Set, Jitter, Cpus, Group, Thread, Unborn, Script, Weave, Turns, End, Tick, Time, Yield, Resched, Sleep, Wake, Lend, Unlend, Renice, Fork, Exit, Idle, Balance, Look, Ts, Ithd, Rt, Fifo, Bound, Dash, Interact, Slice, Preempt, Steal}

-- ---- the words of a line

-- a line as words
abbrev pub Line : Type 0
Line = List Token

-- the word at a place, from 0
abbrev pub word : Line → ℕ → Token
word line k = slice_index_or line k no_token

-- its name
abbrev pub name : Line → ℕ → Name
name line k = (word line k).name

-- whether there is a word at a place
abbrev pub has_word : Line → ℕ → Bool
has_word line k = nat_lt k (length line)

-- the number that a word is
abbrev pub number : Token → Option ℕ
number t = if t.minus then None else t.number

-- the number that the word at a place is
abbrev pub num : Line → ℕ → ℕ
num line k = unwrap_or (number (word line k)) 0

-- the numbers of words
abbrev pub nums : List Token → List ℕ
nums ts = map (λ t. num (t ∷ []) 0) ts

-- a number with a minus before it or without
abbrev pub signed : Bool → ℕ → ℤ
signed minus zero = pos 0
signed true (suc n) = negsuc n
signed false (suc n) = pos (suc n)

-- the nice value that the word at a place is
abbrev pub nice : Line → ℕ → ℤ
nice line k = signed (word line k).minus (unwrap_or (word line k).number 0)

-- ---- where a line stands

-- the place of a line in the order of sections by its first word; 0 of a word that begins none
abbrev pub place_of_line : Name → ℕ
place_of_line Header = 1
place_of_line Set = 2
place_of_line Jitter = 3
place_of_line Cpus = 4
place_of_line Group = 5
place_of_line Thread = 6
place_of_line Unborn = 6
place_of_line Script = 7
place_of_line Tick = 7
place_of_line Time = 7
place_of_line Yield = 7
place_of_line Resched = 7
place_of_line Sleep = 7
place_of_line Wake = 7
place_of_line Lend = 7
place_of_line Unlend = 7
place_of_line Renice = 7
place_of_line Fork = 7
place_of_line Exit = 7
place_of_line Idle = 7
place_of_line Balance = 7
place_of_line Look = 7
place_of_line Weave = 8
place_of_line Turns = 8
place_of_line End = 9
place_of_line n = 0

-- ---- the words that it has

-- how many words a line needs: a thread's may be followed by `bound`, a group's and a turns' line by more numbers
abbrev pub least_words : Name → ℕ
least_words Header = 2
least_words Set = 3
least_words Jitter = 2
least_words Cpus = 2
least_words Group = 4
least_words Thread = 5
least_words Unborn = 2
least_words Script = 2
least_words Turns = 2
least_words Time = 2
least_words Sleep = 2
least_words Wake = 2
least_words Lend = 3
least_words Unlend = 2
least_words Renice = 3
least_words Fork = 2
least_words Look = 2
least_words n = 1

-- the place of a setting in their order, from 0; 4 of a word that is none
abbrev pub setting_place : Name → ℕ
setting_place Interact = 0
setting_place Slice = 1
setting_place Preempt = 2
setting_place Steal = 3
setting_place n = 4

-- whether a word is a class of threads
abbrev pub is_class : Name → Bool
is_class Ts = true
is_class Ithd = true
is_class Rt = true
is_class Fifo = true
is_class Idle = true
is_class n = false

-- whether a word is `bound`
abbrev pub is_bound_word : Name → Bool
is_bound_word Bound = true
is_bound_word n = false

-- whether a word is `-`
abbrev pub is_dash : Name → Bool
is_dash Dash = true
is_dash n = false

-- whether a word is `ule-scenario`
abbrev pub is_header_word : Name → Bool
is_header_word Header = true
is_header_word n = false

-- whether a line is `ule-scenario 1`
abbrev pub is_header : Line → Bool
is_header line = is_header_word (name line 0) && (length line == 2) && (unwrap_or (number (word line 1)) 0 == 1)

-- ---- its numbers

-- the number of the reason against a word that is to be a number from low to high: 3 it is spelled otherwise, 4 it is out of range
abbrev pub number_fault : ℕ → ℕ → Token → Option ℕ
number_fault low high t = if is_none (number t) then Some 3 else (if is_within low high (num (t ∷ []) 0) then None else Some 4)

-- the same of a nice value; -0 is no number
abbrev pub nice_fault : Token → Option ℕ
nice_fault t = if is_none t.number || (t.minus && (unwrap_or t.number 1 == 0)) then Some 3 else (if nat_le (unwrap_or t.number 0) 20 then None else Some 4)

-- the same of a word that is the number of a group, or `-`
abbrev pub parent_fault : Token → Option ℕ
parent_fault t = if is_dash t.name then None else number_fault 0 14 t

-- the same of CPUs, each of which is greater than the one before; the first from here on
abbrev pub cpu_faults : ℕ → List Token → List (Option ℕ)
cpu_faults from [] = []
cpu_faults from (t ∷ ts) = number_fault from 15 t ∷ cpu_faults (num (t ∷ []) 0 + 1) ts

-- the same of a setting; other names are refused before
abbrev pub setting_fault : Name → Token → Option ℕ
setting_fault Interact t = number_fault 1 100 t
setting_fault Slice t = number_fault 6 1000 t
setting_fault Preempt t = number_fault 0 255 t
setting_fault Steal t = number_fault 1 64 t
setting_fault n t = None

-- the same of the word behind a class: a nice value, or a priority
abbrev pub class_fault : Name → Token → Option ℕ
class_fault Ithd t = number_fault 0 255 t
class_fault Rt t = number_fault 0 255 t
class_fault Fifo t = number_fault 0 255 t
class_fault Idle t = number_fault 0 255 t
class_fault n t = nice_fault t

-- what is told of the numbers of a line, from left to right
abbrev pub number_faults : Line → Name → List (Option ℕ)
number_faults line Set = setting_fault (name line 1) (word line 2) ∷ []
number_faults line Jitter = number_fault 0 4294967295 (word line 1) ∷ []
number_faults line Cpus = number_fault 1 16 (word line 1) ∷ []
number_faults line Group = number_fault 0 14 (word line 1) ∷ parent_fault (word line 2) ∷ cpu_faults 0 (drop 3 line)
number_faults line Thread = number_fault 0 255 (word line 1) ∷ class_fault (name line 2) (word line 3) ∷ number_fault 0 15 (word line 4) ∷ []
number_faults line Unborn = number_fault 0 255 (word line 1) ∷ []
number_faults line Script = number_fault 0 15 (word line 1) ∷ []
number_faults line Turns = map (number_fault 0 15) (drop 1 line)
number_faults line Time = number_fault 1 1000000 (word line 1) ∷ []
number_faults line Sleep = number_fault 0 65535 (word line 1) ∷ []
number_faults line Wake = number_fault 0 255 (word line 1) ∷ []
number_faults line Lend = number_fault 0 255 (word line 1) ∷ number_fault 0 255 (word line 2) ∷ []
number_faults line Unlend = number_fault 0 255 (word line 1) ∷ []
number_faults line Renice = number_fault 0 255 (word line 1) ∷ nice_fault (word line 2) ∷ []
number_faults line Fork = number_fault 0 255 (word line 1) ∷ []
number_faults line Look = number_fault 0 15 (word line 1) ∷ []
number_faults line n = []

-- the first of some reasons, if there is one
abbrev pub first_fault : List (Option ℕ) → Option ℕ
first_fault [] = None
first_fault (None ∷ rest) = first_fault rest
first_fault (Some n ∷ rest) = Some n
