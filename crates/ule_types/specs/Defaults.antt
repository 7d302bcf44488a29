-- What a scenario has that doesn't say it.
use Rattle.ule_score.specs.declared.record.Settings.{Settings}

-- the settings of a scenario that sets none
abbrev pub default_settings : Settings
default_settings = record { interact = 30; slice = 12; preempt = 80; steal = 2 }
