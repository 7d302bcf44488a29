-- Which task the words of a command line name.
use Rattle.std.specs.Prelude.{ℕ, ◌≤◌, ◌&&◌, nat_le, if◌then◌else◌, List, [], ◌∷◌, Option, Some, None, option_and_then, codes, bytes_eq}
use Rattle.ule_text.specs.Numerals.{number_of}
use Rattle.ule_text.specs.Words.{Word}
use Rattle.ule_top.specs.declared.task.Task.{Task}
use Rattle.ule_top.specs.declared.task.Task.TheVariants.{Run, Weave, Check, Gen, Text}

-- a number of which a setup can be made, 1 to 1,000
abbrev pub in_range : ℕ → Option ℕ
in_range n = if nat_le 1 n && nat_le n 1000 then Some n else None

-- the number of a setup that a word spells
abbrev pub setup_number : Word → Option ℕ
setup_number word = option_and_then in_range (number_of word)

-- the task that a word alone names
abbrev pub lone_task : Word → Option Task
lone_task name =
    if bytes_eq name (codes "run") then Some Run else (
    if bytes_eq name (codes "weave") then Some Weave else (
    if bytes_eq name (codes "check") then Some Check else None))

-- the task that a word names with the number of a setup
abbrev pub numbered_task : Word → ℕ → Option Task
numbered_task name n =
    if bytes_eq name (codes "gen") then Some (Gen n) else (
    if bytes_eq name (codes "text") then Some (Text n) else None)

-- the task that words name
abbrev pub task_of : List Word → Option Task
task_of [] = None
task_of (name ∷ []) = lone_task name
task_of (name ∷ number ∷ []) = option_and_then (numbered_task name) (setup_number number)
task_of (name ∷ number ∷ other ∷ more) = None

-- the number of a task is one of which a setup can be made
abbrev pub HasNumber : Task → Type 0
HasNumber Run = Unit {0}
HasNumber Weave = Unit {0}
HasNumber Check = Unit {0}
HasNumber (Gen n) = (1 ≤ n) × (n ≤ 1000)
HasNumber (Text n) = (1 ≤ n) × (n ≤ 1000)
