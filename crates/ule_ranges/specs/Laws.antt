-- What the outcome of a play is for a trace.
use Rattle.ule_model.specs.Ends.{outcome_of}
use Rattle.ule_model.specs.Rounds.{play_of}
use Rattle.ule_trace.specs.Ranges.{OutcomeFits}
use Rattle.ule_types.specs.declared.setup.Setup.{Setup}

-- each number in the outcome of the rounds of a setup is in the range that a trace has for it
abbrev pub PlaysFit : Type 0
PlaysFit = (s : Setup) → OutcomeFits (outcome_of s s.scripts (play_of s).entries)
