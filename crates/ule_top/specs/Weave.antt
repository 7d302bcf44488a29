-- What the task `weave` promises: it reads a scenario, makes its turns one after another, and writes what each did and left.
use Rattle.std.specs.Prelude.{◌≡◌, ℕ, ◌<◌, true, List}
use Rattle.ule_io.specs.Counter.{one_more}
use Rattle.ule_io.specs.Sink.{Appends, SinkState}
use Rattle.ule_io.specs.Source.{ReadsWhole, SourceState}
use Rattle.ule_scenario.specs.Scenario.{Spells}
use Rattle.ule_task.specs.Input.{Reads}
use Rattle.ule_task.specs.Scenario.{one_text, scenario_intake, scenario_limit}
use Rattle.ule_types.specs.declared.setup.Setup.{Setup}
use Rattle.ule_weave.specs.WeaveText.{IsSoundThroughout, opened, weave_text}

-- the headline for `weave`: the whole input spells a setup; its weave text was written and flushed; each state that its turns come to
-- meets lock agreement, and has a history that the setup's scripts allow, through worlds that keep the calendar promise
pub record HasWoven (s0 s1 : SourceState) (k0 k1 : SinkState) : Type 0 where
  pub input : List ℕ
  pub setup : Setup
  pub read : ReadsWhole s0 s1 scenario_limit input
  pub spelled : Spells input setup
  pub written : Appends k0.taken k1.taken (weave_text setup)
  pub flushed : k1.flushed ≡ true
  pub one_flush : k1.flushes ≡ one_more k0.flushes
  pub sound : IsSoundThroughout setup (opened setup) setup.turns

-- what `weave` comes to
pub record Weaves (s0 s1 : SourceState) (k0 k1 : SinkState) (status : ℕ) : Type 0 where
  pub known : status < 6
  pub done : status ≡ 0 → HasWoven s0 s1 k0 k1
  pub reads : Reads scenario_intake (one_text weave_text) s0 s1 k0 k1 status
