-- Commands: what each names, and the greatest number of items that it performs.
use Rattle.std.specs.Prelude.{ℕ, ◌+◌, ◌*◌, ℤ, pos, negsuc, Bool, true, nat_le, nat_lt, ◌&&◌, ◌==◌, List, [], ◌∷◌, if◌then◌else◌}
use Rattle.std.specs.List.{list_any}
use Rattle.ule_prio.specs.Class.{is_within}
use Rattle.ule_types.specs.declared.command.Command.{Command}
use Rattle.ule_types.specs.declared.command.Command.TheVariants.{Tick, Time, Yield, Resched, Sleep, Wake, Lend, Unlend, Renice, Fork, Exit, Idle, Balance, Look}

-- whether a number is among some
abbrev pub is_among : List ℕ → ℕ → Bool
is_among ids t = list_any (λ u. u == t) ids

-- the items of a tick: worker 0's may be followed by a balance
abbrev pub greatest_of_tick : ℕ → ℕ → ℕ
greatest_of_tick worker cpus = if (worker == 0) && nat_lt 1 cpus then 1 + 2 * cpus else 1

-- the greatest number of items of a worker's command on so many CPUs
abbrev pub greatest_of : Command → ℕ → ℕ → ℕ
greatest_of Tick worker cpus = greatest_of_tick worker cpus
greatest_of (Time k) worker cpus = 1
greatest_of Yield worker cpus = 1
greatest_of Resched worker cpus = 1
greatest_of (Sleep channel) worker cpus = 2
greatest_of (Wake t) worker cpus = cpus + 2
greatest_of (Lend t p) worker cpus = 1
greatest_of (Unlend t) worker cpus = 1
greatest_of (Renice t n) worker cpus = 1
greatest_of (Fork t) worker cpus = cpus + 3
greatest_of Exit worker cpus = 3
greatest_of Idle worker cpus = 2 * cpus
greatest_of Balance worker cpus = 2 * cpus
greatest_of (Look c) worker cpus = 1

-- whether a nice value is one of -20..20
abbrev pub is_nice : ℤ → Bool
is_nice (pos n) = nat_le n 20
is_nice (negsuc n) = nat_lt n 20

-- whether a command's thread is declared, its CPU exists, and its amount, priority or nice value is in range
abbrev pub is_command : List ℕ → ℕ → Command → Bool
is_command ids cpus Tick = true
is_command ids cpus (Time k) = is_within 1 1000000 k
is_command ids cpus Yield = true
is_command ids cpus Resched = true
is_command ids cpus (Sleep channel) = is_within 0 65535 channel
is_command ids cpus (Wake t) = is_among ids t
is_command ids cpus (Lend t p) = is_among ids t && is_within 0 255 p
is_command ids cpus (Unlend t) = is_among ids t
is_command ids cpus (Renice t n) = is_among ids t && is_nice n
is_command ids cpus (Fork t) = is_among ids t
is_command ids cpus Exit = true
is_command ids cpus Idle = true
is_command ids cpus Balance = true
is_command ids cpus (Look c) = nat_lt c cpus

-- the thread that a command forks, if it does
abbrev pub forked_by : Command → List ℕ
forked_by Tick = []
forked_by (Time k) = []
forked_by Yield = []
forked_by Resched = []
forked_by (Sleep channel) = []
forked_by (Wake t) = []
forked_by (Lend t p) = []
forked_by (Unlend t) = []
forked_by (Renice t n) = []
forked_by (Fork t) = t ∷ []
forked_by Exit = []
forked_by Idle = []
forked_by Balance = []
forked_by (Look c) = []

-- the time that a command adds
abbrev pub amount_of : Command → ℕ
amount_of (Time k) = k
amount_of Tick = 0
amount_of Yield = 0
amount_of Resched = 0
amount_of (Sleep channel) = 0
amount_of (Wake t) = 0
amount_of (Lend t p) = 0
amount_of (Unlend t) = 0
amount_of (Renice t n) = 0
amount_of (Fork t) = 0
amount_of Exit = 0
amount_of Idle = 0
amount_of Balance = 0
amount_of (Look c) = 0
