-- What the lines of a scenario so far give.
use Rattle.std.specs.Prelude.{ℕ, ◌-◌, Bool, ◌||◌, List, [], map, replicate}
use Rattle.ule_score.specs.declared.record.Settings.{Settings}
use Rattle.ule_types.specs.Commands.{is_among}
use Rattle.ule_types.specs.Defaults.{default_settings}
use Rattle.ule_types.specs.Rules.{budget_from, forked_in_all}
use Rattle.ule_types.specs.declared.command.Command.{Command}
use Rattle.ule_topo.specs.declared.group.GroupLine.{GroupLine}
use Rattle.ule_types.specs.declared.setup.ThreadSpec.{ThreadSpec}

-- the setup so far, and where its lines stand
pub record Reading : Type 0 where
  -- the place, by the order of sections, of the line that stands furthest; 0 before the header
  pub place : ℕ
  -- the least setting, by its place in their order, and the least worker that may be named next
  pub settings_from : ℕ
  pub script_from : ℕ
  pub settings : Settings
  pub jitter : ℕ
  pub cpus : ℕ
  pub groups : List GroupLine
  pub threads : List ThreadSpec
  pub unborn : List ℕ
  pub scripts : List (List Command)
  pub turns : List ℕ

-- before the first line: there is one CPU until a line says how many there are
abbrev pub no_line : Reading
no_line = record {
  place = 0;
  settings_from = 0;
  script_from = 0;
  settings = default_settings;
  jitter = 0;
  cpus = 1;
  groups = [];
  threads = [];
  unborn = [];
  scripts = replicate 16 [];
  turns = [];
}

-- whether a thread was declared, as queued or as unborn
abbrev pub is_known_thread : Reading → ℕ → Bool
is_known_thread r t = is_among (map (λ spec. spec.id) r.threads) t || is_among r.unborn t

-- whether a command forks a thread
abbrev pub is_forked : Reading → ℕ → Bool
is_forked r t = is_among (forked_in_all r.scripts) t

-- what all commands are charged
abbrev pub spent_items : Reading → ℕ
spent_items r = budget_from 0 r.cpus r.scripts

-- the worker whose script stands last
abbrev pub last_worker : Reading → ℕ
last_worker r = r.script_from - 1
