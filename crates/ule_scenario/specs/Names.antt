-- The words that have a meaning.
use Rattle.std.specs.Prelude.{if◌then◌else◌, codes, bytes_eq, nat_lt, length}
use Rattle.ule_text.specs.Words.{Word}
use Rattle.ule_scenario.specs.declared.name.Name.{Name}
use Rattle.ule_scenario.specs.declared.name.Name.TheVariants.{Other, Header, Set, Jitter, Cpus, Group, Thread, Unborn, Script, Weave, Turns, End, Tick, Time, Yield, Resched, Sleep, Wake, Lend, Unlend, Renice, Fork, Exit, Idle, Balance, Look, Ts, Ithd, Rt, Fifo, Bound, Dash, Interact, Slice, Preempt, Steal}

-- the words that stand behind a first one: classes, settings, `bound`, and `-` for no parent
abbrev pub inner_name : Word → Name
inner_name word =
    if bytes_eq word (codes "ts") then Ts else (
    if bytes_eq word (codes "ithd") then Ithd else (
    if bytes_eq word (codes "rt") then Rt else (
    if bytes_eq word (codes "fifo") then Fifo else (
    if bytes_eq word (codes "bound") then Bound else (
    if bytes_eq word (codes "-") then Dash else (
    if bytes_eq word (codes "interact") then Interact else (
    if bytes_eq word (codes "slice") then Slice else (
    if bytes_eq word (codes "preempt") then Preempt else (
    if bytes_eq word (codes "steal") then Steal else (
    Other))))))))))

-- the first words of command lines, `idle` being a class too, and the words behind a first one
abbrev pub command_name : Word → Name
command_name word =
    if bytes_eq word (codes "tick") then Tick else (
    if bytes_eq word (codes "time") then Time else (
    if bytes_eq word (codes "yield") then Yield else (
    if bytes_eq word (codes "resched") then Resched else (
    if bytes_eq word (codes "sleep") then Sleep else (
    if bytes_eq word (codes "wake") then Wake else (
    if bytes_eq word (codes "lend") then Lend else (
    if bytes_eq word (codes "unlend") then Unlend else (
    if bytes_eq word (codes "renice") then Renice else (
    if bytes_eq word (codes "fork") then Fork else (
    if bytes_eq word (codes "exit") then Exit else (
    if bytes_eq word (codes "idle") then Idle else (
    if bytes_eq word (codes "balance") then Balance else (
    if bytes_eq word (codes "look") then Look else (
    inner_name word))))))))))))))

-- the first words of other lines, and those above
abbrev pub any_name : Word → Name
any_name word =
    if bytes_eq word (codes "ule-scenario") then Header else (
    if bytes_eq word (codes "set") then Set else (
    if bytes_eq word (codes "jitter") then Jitter else (
    if bytes_eq word (codes "cpus") then Cpus else (
    if bytes_eq word (codes "group") then Group else (
    if bytes_eq word (codes "thread") then Thread else (
    if bytes_eq word (codes "unborn") then Unborn else (
    if bytes_eq word (codes "script") then Script else (
    if bytes_eq word (codes "weave") then Weave else (
    if bytes_eq word (codes "turns") then Turns else (
    if bytes_eq word (codes "end") then End else (
    command_name word)))))))))))

-- the name that a word is; none has more than 16 bytes
abbrev pub name_of : Word → Name
name_of word = if nat_lt 16 (length word) then Other else any_name word
