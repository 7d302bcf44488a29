-- Two examples: the smallest, and one in which a turn is lost.
use Rattle.std.specs.Prelude.{◌≡◌, ℕ, pos, true, false, List, [], ◌∷◌, ◌++◌, replicate, codes, refl}
use Rattle.ule_model.specs.Ends.{outcome_of}
use Rattle.ule_model.specs.Rounds.{play_of}
use Rattle.ule_trace.specs.Trace.{trace_text}
use Rattle.ule_types.specs.Defaults.{default_settings}
use Rattle.ule_types.specs.declared.command.Command.TheVariants.{Yield, Sleep, Time, Wake}
use Rattle.ule_types.specs.declared.setup.Form.TheVariants.{Ts}
use Rattle.ule_types.specs.declared.setup.Setup.{Setup}

-- a line of a text
abbrev pub line : List ℕ → List ℕ
line bytes = bytes ++ 10 ∷ []

-- ---- one thread and one yield

-- the setup that examples/yield.ule spells
abbrev pub one_yield : Setup
one_yield = record {
  settings = default_settings;
  jitter = 1;
  cpus = 1;
  groups = [];
  threads = record { id = 0; form = Ts (pos 0); cpu = 0; bound = false } ∷ [];
  unborn = [];
  scripts = (Yield ∷ []) ∷ replicate 15 [];
  turns = [];
  rules = record { settings = refl; jitter = refl; cpus = refl; groups = refl; group_count = refl; group_cpus = refl; threads = refl; numbers = refl; workers = refl; idle = refl; commands = refl; budget = refl; forks = refl; forked_once = refl; turns = refl; turn_count = refl };
}

-- the text of examples/yield.trace
abbrev pub one_yield_trace : List ℕ
one_yield_trace =
    line (codes "ule-trace 1") ++ line (codes "1 w0 20000 switch 0 yield -> switched - 0 0") ++
    line (codes "t 0 r0 ts 0 172 - 172 0 0 0 20000 20000 0 0 0 20000 - - 0") ++
    line (codes "c 0 0 0 0 0 0 0 64") ++ line (codes "now 20000") ++ line (codes "done 1")

-- the definitions give that text
abbrev pub OneYieldIsTraced : Type 0
OneYieldIsTraced = trace_text (outcome_of one_yield one_yield.scripts (play_of one_yield).entries) ≡ one_yield_trace

-- ---- a turn lost to a thread in another worker's hand

-- the setup that examples/lost_turn.ule spells
abbrev pub lost_turn : Setup
lost_turn = record {
  settings = default_settings;
  jitter = 1;
  cpus = 2;
  groups = [];
  threads = record { id = 0; form = Ts (pos 0); cpu = 0; bound = true } ∷ [];
  unborn = [];
  scripts = (Yield ∷ Sleep 3 ∷ []) ∷ (Time 1 ∷ Wake 0 ∷ []) ∷ replicate 14 [];
  turns = [];
  rules = record { settings = refl; jitter = refl; cpus = refl; groups = refl; group_count = refl; group_cpus = refl; threads = refl; numbers = refl; workers = refl; idle = refl; commands = refl; budget = refl; forks = refl; forked_once = refl; turns = refl; turn_count = refl };
}

-- the text of examples/lost_turn.trace
abbrev pub lost_turn_trace : List ℕ
lost_turn_trace =
    line (codes "ule-trace 1") ++ line (codes "1 w0 20000 switch 0 yield -> switched - 0 0") ++
    line (codes "2 w0 20001 drop 0 3 -> dropped 0 -") ++ line (codes "3 w0 20001 bed 0 3 -> bedded") ++
    line (codes "4 w1 20001 wake 0 -> woken 172 0 0 20001") ++ line (codes "5 w1 20001 land 0 0 -> landed batch 17 1") ++
    line (codes "t 0 q0.batch.17.0 ts 0 172 - 172 0 0 1024 20001 20000 0 0 0 20001 0 - 0") ++
    line (codes "c 0 0 0 1 0 1 0 64") ++ line (codes "c 1 0 0 0 0 0 0 0") ++ line (codes "now 20001") ++ line (codes "done 5")

-- the definitions give that text
abbrev pub LostTurnIsTraced : Type 0
LostTurnIsTraced = trace_text (outcome_of lost_turn lost_turn.scripts (play_of lost_turn).entries) ≡ lost_turn_trace
