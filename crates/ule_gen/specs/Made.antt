-- The setup that the generator makes of a number.
use Rattle.std.specs.Prelude.{ℕ, ◌≡◌, ◌-◌, ◌%◌, ◌==◌, nat_lt, if◌then◌else◌, ℤ, pos, negsuc, false, Some, None, List, [], ◌∷◌, ◌++◌, map, replicate}
use Rattle.std.specs.List.{range_with_len}
use Rattle.ule_topo.specs.declared.group.GroupLine.{GroupLine}
use Rattle.ule_types.specs.Defaults.{default_settings}
use Rattle.ule_types.specs.declared.command.Command.{Command}
use Rattle.ule_types.specs.declared.setup.Form.{Form}
use Rattle.ule_types.specs.declared.setup.Form.TheVariants.{Ts, Ithd, Rt, Fifo, Idle}
use Rattle.ule_types.specs.declared.setup.Setup.{Setup}
use Rattle.ule_types.specs.declared.setup.ThreadSpec.{ThreadSpec}
use Rattle.ule_gen.specs.Generated.{word_behind, script}

-- 4 CPUs, in two groups of two
abbrev pub groups : List GroupLine
groups =
    record { id = 0; parent = None; cpus = 15 } ∷
    record { id = 1; parent = Some 0; cpus = 3 } ∷
    record { id = 2; parent = Some 0; cpus = 12 } ∷ []

-- a number less 2
abbrev pub less_two : ℕ → ℤ
less_two n = if nat_lt n 2 then negsuc (1 - n) else pos (n - 2)

-- the class of thread i, with its nice value or base priority
abbrev pub form_of : ℕ → Form
form_of i =
    if i == 0 then Ithd 20 else (
    if i == 1 then Rt 50 else (
    if i == 2 then Fifo 60 else (
    if nat_lt i 21 then Ts (less_two (i % 5)) else (
    Idle 230))))

-- thread i, on CPU i mod 4
abbrev pub thread_of : ℕ → ThreadSpec
thread_of i = record { id = i; form = form_of i; cpu = i % 4; bound = false }

abbrev pub threads : List ThreadSpec
threads = map thread_of (range_with_len 0 24)

abbrev pub unborn : List ℕ
unborn = range_with_len 24 4

-- the scripts of four workers, each drawn behind the one before; the first begins at the number itself
abbrev pub scripts_from : ℕ → ℕ → ℕ → ℕ → ℕ → List (List Command)
scripts_from n a b c d = script 0 n a ∷ script 1 n b ∷ script 2 n c ∷ script 3 n d ∷ replicate 12 []

abbrev pub scripts : ℕ → List (List Command)
scripts n = scripts_from n n (word_behind n n) (word_behind n (word_behind n n)) (word_behind n (word_behind n (word_behind n n)))

-- a setup is the one that a number makes
pub record IsMade (n : ℕ) (s : Setup) : Type 0 where
  pub settings : s.settings ≡ default_settings
  pub jitter : s.jitter ≡ n
  pub cpus : s.cpus ≡ 4
  pub groups : s.groups ≡ groups
  pub threads : s.threads ≡ threads
  pub unborn : s.unborn ≡ unborn
  pub scripts : s.scripts ≡ scripts n
  pub turns : s.turns ≡ []
