-- What a line gives that nothing refuses.
use Rattle.std.specs.Prelude.{ℕ, ◌+◌, ◌^◌, max, if◌then◌else◌, Option, Some, None, List, [], ◌∷◌, ◌++◌, drop, slice_index_or, slice_set}
use Rattle.ule_score.specs.declared.record.Settings.{Settings}
use Rattle.ule_types.specs.declared.command.Command.{Command}
use Rattle.ule_types.specs.declared.command.Command.TheVariants as command
use Rattle.ule_topo.specs.declared.group.GroupLine.{GroupLine}
use Rattle.ule_types.specs.declared.setup.Form.{Form}
use Rattle.ule_types.specs.declared.setup.Form.TheVariants as form
use Rattle.ule_types.specs.declared.setup.ThreadSpec.{ThreadSpec}
use Rattle.ule_scenario.specs.Forms.{Line, word, name, has_word, is_dash, number, num, nums, nice, setting_place}
use Rattle.ule_scenario.specs.Reading.{Reading, last_worker}
use Rattle.ule_scenario.specs.declared.token.Token.{Token}
use Rattle.ule_scenario.specs.declared.name.Name.{Name}
use Rattle.ule_scenario.specs.declared.name.Name.TheVariants.{Header, Set, Jitter, Cpus, Group, Thread, Unborn, Script, Weave, Turns, End, Tick, Time, Yield, Resched, Sleep, Wake, Lend, Unlend, Renice, Fork, Exit, Idle, Balance, Look, Ithd, Rt, Fifo, Interact, Slice, Preempt, Steal}

-- the command of a line, if it has one
abbrev pub command_in : Line → Name → Option Command
command_in line Tick = Some command.Tick
command_in line Time = Some (command.Time (num line 1))
command_in line Yield = Some command.Yield
command_in line Resched = Some command.Resched
command_in line Sleep = Some (command.Sleep (num line 1))
command_in line Wake = Some (command.Wake (num line 1))
command_in line Lend = Some (command.Lend (num line 1) (num line 2))
command_in line Unlend = Some (command.Unlend (num line 1))
command_in line Renice = Some (command.Renice (num line 1) (nice line 2))
command_in line Fork = Some (command.Fork (num line 1))
command_in line Exit = Some command.Exit
command_in line Idle = Some command.Idle
command_in line Balance = Some command.Balance
command_in line Look = Some (command.Look (num line 1))
command_in line n = None

-- the CPUs of a group's line
abbrev pub cpus_in : Line → List ℕ
cpus_in line = nums (drop 3 line)

-- CPUs as bits: bit c for CPU c
abbrev pub bits_of : List ℕ → ℕ
bits_of [] = 0
bits_of (c ∷ cpus) = 2 ^ c + bits_of cpus

-- the parent that a word names: none by `-`
abbrev pub parent_in : Token → Option ℕ
parent_in t = if is_dash t.name then None else number t

-- the group of a line
abbrev pub group_in_line : Line → GroupLine
group_in_line line = record { id = num line 1; parent = parent_in (word line 2); cpus = bits_of (cpus_in line) }

-- the form of a thread by its class
abbrev pub form_in : Line → Name → Form
form_in line Ithd = form.Ithd (num line 3)
form_in line Rt = form.Rt (num line 3)
form_in line Fifo = form.Fifo (num line 3)
form_in line Idle = form.Idle (num line 3)
form_in line n = form.Ts (nice line 3)

-- the thread of a line
abbrev pub spec_in : Line → ThreadSpec
spec_in line = record { id = num line 1; form = form_in line (name line 2); cpu = num line 4; bound = has_word line 5 }

-- the turns of a line
abbrev pub turns_in : Line → Name → List ℕ
turns_in line Turns = nums (drop 1 line)
turns_in line n = []

-- the settings with one that is given
abbrev pub with_setting : Settings → Name → ℕ → Settings
with_setting s Interact n = record s { interact = n }
with_setting s Slice n = record s { slice = n }
with_setting s Preempt n = record s { preempt = n }
with_setting s Steal n = record s { steal = n }
with_setting s _ n = s

-- the scripts with a command behind those of a worker, if there is one
abbrev pub with_command : List (List Command) → ℕ → Option Command → List (List Command)
with_command scripts worker None = scripts
with_command scripts worker (Some c) = slice_set scripts worker (slice_index_or scripts worker [] ++ c ∷ [])

-- the setup so far with a line
abbrev pub with_line : Reading → Line → Name → Reading
with_line r line Header = record r { place = max r.place 1 }
with_line r line Set = record r { place = max r.place 2; settings_from = setting_place (name line 1) + 1; settings = with_setting r.settings (name line 1) (num line 2) }
with_line r line Jitter = record r { place = max r.place 3; jitter = num line 1 }
with_line r line Cpus = record r { place = max r.place 4; cpus = num line 1 }
with_line r line Group = record r { place = max r.place 5; groups = r.groups ++ group_in_line line ∷ [] }
with_line r line Thread = record r { place = max r.place 6; threads = r.threads ++ spec_in line ∷ [] }
with_line r line Unborn = record r { place = max r.place 6; unborn = r.unborn ++ num line 1 ∷ [] }
with_line r line Script = record r { place = max r.place 7; script_from = num line 1 + 1 }
with_line r line Weave = record r { place = max r.place 8 }
with_line r line Turns = record r { place = max r.place 8; turns = r.turns ++ turns_in line Turns }
with_line r line End = record r { place = max r.place 9 }
with_line r line first = record r { place = max r.place 7; scripts = with_command r.scripts (last_worker r) (command_in line first) }
