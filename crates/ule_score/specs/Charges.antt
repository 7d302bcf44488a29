-- The run times that a record can be charged.
use Rattle.std.specs.Prelude.{◌<◌, ◌^◌}
use Rattle.ule_score.specs.declared.record.Change.{Change}
use Rattle.ule_score.specs.declared.record.Change.TheVariants.{Lend, Unlend, Renice, Inherit}

-- a change that charges no run time of 2^62 or more
abbrev pub HasShortRun : Change → Type 0
HasShortRun (Lend p) = Unit {0}
HasShortRun Unlend = Unit {0}
HasShortRun (Renice n) = Unit {0}
HasShortRun (Inherit run) = run < 2 ^ 62
