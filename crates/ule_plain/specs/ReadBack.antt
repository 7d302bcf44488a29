-- The law of plain texts.
use Rattle.ule_types.specs.declared.setup.Setup.{Setup}
use Rattle.ule_scenario.specs.Scenario.{Spells}
use Rattle.ule_plain.specs.Text.{plain_text}

-- the plain text of every setup spells this setup
abbrev pub PlainTextsAreReadBack : Type 0
PlainTextsAreReadBack = (s : Setup) → Spells (plain_text s) s
