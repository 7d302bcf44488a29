-- The thread that a line gives.
use Rattle.ule_types.specs.declared.setup.ThreadSpec.{ThreadSpec}
use Rattle.ule_scenario.specs.declared.draft.Given.{Given}

-- it as a setup has it
abbrev pub spec_of : Given → ThreadSpec
spec_of g = record { id = g.id; form = g.form; cpu = g.cpu; bound = g.bound }
