-- The words of each line of a setup's plain text.
use Rattle.std.specs.Prelude.{ℕ, ◌*◌, Bool, true, false, List, [], ◌∷◌, ◌++◌, map, filter, take, drop, codes}
use Rattle.std.specs.Fmt.{decimal, signed_decimal}
use Rattle.ule_topo.specs.Mask.{below, has_cpu}
use Rattle.ule_topo.specs.declared.group.GroupLine.{GroupLine}
use Rattle.ule_trace.specs.Line.{optional_word}
use Rattle.ule_types.specs.declared.setup.Form.{Form}
use Rattle.ule_types.specs.declared.setup.Form.TheVariants.{Ts, Ithd, Rt, Fifo, Idle}
use Rattle.ule_types.specs.declared.setup.ThreadSpec.{ThreadSpec}

-- the header
abbrev pub header_words : List (List ℕ)
header_words = codes "ule-scenario" ∷ codes "1" ∷ []

-- a setting by its name
abbrev pub setting_words : List ℕ → ℕ → List (List ℕ)
setting_words name n = codes "set" ∷ name ∷ decimal n ∷ []

-- where the jitter words start
abbrev pub jitter_words : ℕ → List (List ℕ)
jitter_words n = codes "jitter" ∷ decimal n ∷ []

-- how many CPUs there are
abbrev pub cpus_words : ℕ → List (List ℕ)
cpus_words n = codes "cpus" ∷ decimal n ∷ []

-- the CPUs of a mask of 16, rising
abbrev pub cpus_of_mask : ℕ → List ℕ
cpus_of_mask mask = filter (has_cpu mask) (below 16)

-- a group: its number, its parent's or `-`, and its CPUs
abbrev pub group_words : GroupLine → List (List ℕ)
group_words g = codes "group" ∷ decimal g.id ∷ optional_word g.parent ∷ map decimal (cpus_of_mask g.cpus)

-- a class with its nice value, or its base priority
abbrev pub form_words : Form → List (List ℕ)
form_words (Ts n) = codes "ts" ∷ signed_decimal n ∷ []
form_words (Ithd p) = codes "ithd" ∷ decimal p ∷ []
form_words (Rt p) = codes "rt" ∷ decimal p ∷ []
form_words (Fifo p) = codes "fifo" ∷ decimal p ∷ []
form_words (Idle p) = codes "idle" ∷ decimal p ∷ []

-- a CPU, and whether the thread is bound to it
abbrev pub cpu_words : ℕ → Bool → List (List ℕ)
cpu_words c true = decimal c ∷ codes "bound" ∷ []
cpu_words c false = decimal c ∷ []

-- a thread that is queued at the start
abbrev pub thread_words : ThreadSpec → List (List ℕ)
thread_words t = codes "thread" ∷ decimal t.id ∷ form_words t.form ++ cpu_words t.cpu t.bound

-- a thread that is unborn at the start
abbrev pub unborn_words : ℕ → List (List ℕ)
unborn_words t = codes "unborn" ∷ decimal t ∷ []

-- the line above a worker's commands
abbrev pub script_words : ℕ → List (List ℕ)
script_words worker = codes "script" ∷ decimal worker ∷ []

-- the line above the turns
abbrev pub weave_words : List (List ℕ)
weave_words = codes "weave" ∷ []

-- a line of turns
abbrev pub turns_words : List ℕ → List (List ℕ)
turns_words turns = codes "turns" ∷ map decimal turns

-- the turns of a line by its place: 64 at most
abbrev pub turns_of_line : List ℕ → ℕ → List ℕ
turns_of_line turns k = take 64 (drop (64 * k) turns)

-- the last line
abbrev pub end_words : List (List ℕ)
end_words = codes "end" ∷ []
