-- The ranges of the settings.
use Rattle.std.specs.Prelude.{Bool, ◌&&◌}
use Rattle.ule_prio.specs.Class.{is_within}
use Rattle.ule_score.specs.declared.record.Settings.{Settings}

-- whether each setting is in its range
abbrev pub are_settings : Settings → Bool
are_settings s = is_within 1 100 s.interact && is_within 6 1000 s.slice && is_within 0 255 s.preempt && is_within 1 64 s.steal
